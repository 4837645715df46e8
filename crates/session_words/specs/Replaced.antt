-- What the words of the tables stand for, and a tree with each of them replaced.
use Rattle.std.specs.Prelude.{ℕ, ℤ, pos, List, [], ◌∷◌, codes, Option, Some}
use Rattle.std.specs.Map.{lookup}
use Rattle.std.specs.Str.{bytes_eq}
use Rattle.rel_lexer.specs.declared.place.Place.{Place}
use Rattle.rel_grammar.specs.Trees.{Plain, numeral, literal, it, phrase, body, cast, unary, chain, conditional, tuple, collection, Held, no_tree, a_tree, Linked, no_links, more_links, Parts, no_parts, more_parts}

-- what words become
pub data Rewriting : Type 0 where
  -- where they have no object: these words of the folder at this path
  in_folder : (words path : List ℕ) → Rewriting
  -- where they have an object: these words of it
  over_object : (words : List ℕ) → Rewriting
  -- where they have an object and no argument: these words with this number, of the object
  numbered : (words : List ℕ) (number : ℤ) → Rewriting

-- the words of the tables
unfoldable pub rewritings : List (List ℕ × Rewriting)
rewritings =
    (codes "bes computer", in_folder (codes "folder") (codes "/computers")) ∷
    (codes "bes computers", in_folder (codes "folders") (codes "/computers")) ∷
    (codes "bes action", in_folder (codes "file") (codes "/actions")) ∷
    (codes "bes actions", in_folder (codes "files") (codes "/actions")) ∷
    (codes "bes site", in_folder (codes "file") (codes "/sites")) ∷
    (codes "bes sites", in_folder (codes "files") (codes "/sites")) ∷
    (codes "result", over_object (codes "file")) ∷
    (codes "results", over_object (codes "files")) ∷
    (codes "status", numbered (codes "line") (pos 1)) ∷
    (codes "statuses", numbered (codes "lines") (pos 1)) ∷
    (codes "attempt", numbered (codes "line") (pos 2)) ∷
    (codes "attempts", numbered (codes "lines") (pos 2)) ∷ []

-- what these words become, if they are words of the tables
unfoldable pub rewriting_of : List ℕ → Option Rewriting
rewriting_of words = lookup (bytes_eq words) rewritings

-- the folder at this path, where the phrase has its place
abbrev pub folder_at : Place → List ℕ → Plain
folder_at place path = phrase place (codes "folder") (a_tree (literal place path)) no_tree no_tree

-- A phrase whose words become this, if anything. New parts have its place, and its argument and its filter stay with the head.
abbrev pub rewritten : Place → List ℕ → Held → Held → Held → Option Rewriting → Plain
rewritten place words argument filter no_tree (Some (in_folder new path)) = phrase place new argument filter (a_tree (folder_at place path))
rewritten place words argument filter (a_tree object) (Some (over_object new)) = phrase place new argument filter (a_tree object)
rewritten place words no_tree filter (a_tree object) (Some (numbered new number)) =
    phrase place new (a_tree (numeral place number)) filter (a_tree object)
rewritten place words argument filter object _ = phrase place words argument filter object

-- a tree in which each phrase of these words is replaced, however deep it stands
abbrev mutual
  pub replaced : Plain → Plain
  replaced (numeral p n) = numeral p n
  replaced (literal p t) = literal p t
  replaced (it p) = it p
  replaced (phrase p w a f o) = rewritten p w (replaced_held a) (replaced_held f) (replaced_held o) (rewriting_of w)
  replaced (body p b f o) = body p (replaced b) (replaced_held f) (replaced_held o)
  replaced (cast t cs) = cast (replaced t) cs
  replaced (unary p s t) = unary p s (replaced t)
  replaced (chain t ls) = chain (replaced t) (replaced_links ls)
  replaced (conditional p t y n) = conditional p (replaced t) (replaced y) (replaced n)
  replaced (tuple ps) = tuple (replaced_parts ps)
  replaced (collection ps) = collection (replaced_parts ps)

  pub replaced_held : Held → Held
  replaced_held no_tree = no_tree
  replaced_held (a_tree t) = a_tree (replaced t)

  pub replaced_links : Linked → Linked
  replaced_links no_links = no_links
  replaced_links (more_links ls p s t) = more_links (replaced_links ls) p s (replaced t)

  pub replaced_parts : Parts → Parts
  replaced_parts no_parts = no_parts
  replaced_parts (more_parts ps t) = more_parts (replaced_parts ps) (replaced t)
