-- How deep the phrases of a tree stand: the number of parts in brackets, unary signs, objects of `of` and `if` expressions that contain
-- a phrase. In the tree of a text that is the depth of its first word.
use Rattle.std.specs.Prelude.{◌≡◌, ℕ, ◌+◌, nat_le, Bool, true, false, ◌&&◌, List, [], ◌∷◌, ◌++◌, Option, Some, find, option_map}
use Rattle.std.specs.List.{AllByRecursion}
use Rattle.rel_lexer.specs.declared.place.Place.{Place}
use Rattle.rel_grammar.specs.Sentences.{deepest}
use Rattle.rel_grammar.specs.Shapes as kind
use Rattle.rel_grammar.specs.Shapes.{AnyWord}
use Rattle.rel_grammar.specs.Spelling.{Mark, mark}
use Rattle.rel_grammar.specs.Trees.{Plain, numeral, literal, it, phrase, body, cast, unary, chain, conditional, tuple, collection, Held, no_tree, a_tree, Linked, no_links, more_links, Parts, no_parts, more_parts}
use Rattle.session_words.specs.Replaced.{Rewriting, in_folder, rewriting_of}

-- a phrase, and how deep it stands
pub record Standing : Type 0 where
  pub place : Place
  pub words : List ℕ
  pub object : Held
  pub depth : ℕ

-- the phrases of a tree that stands so deep, in the order of the text
abbrev mutual
  pub phrases : ℕ → Plain → List Standing
  phrases d (numeral p n) = []
  phrases d (literal p t) = []
  phrases d (it p) = []
  phrases d (phrase p w a f o) =
      record { place = p; words = w; object = o; depth = d } ∷ (held_phrases d a ++ (held_phrases d f ++ held_phrases (d + 1) o))
  phrases d (body p b f o) = phrases (d + 1) b ++ (held_phrases d f ++ held_phrases (d + 1) o)
  phrases d (cast t cs) = phrases d t
  phrases d (unary p s t) = phrases (d + 1) t
  phrases d (chain t ls) = phrases d t ++ link_phrases d ls
  phrases d (conditional p t y n) = phrases (d + 1) t ++ (phrases (d + 1) y ++ phrases (d + 1) n)
  phrases d (tuple ps) = part_phrases d ps
  phrases d (collection ps) = part_phrases d ps

  pub held_phrases : ℕ → Held → List Standing
  held_phrases d no_tree = []
  held_phrases d (a_tree t) = phrases d t

  pub link_phrases : ℕ → Linked → List Standing
  link_phrases d no_links = []
  link_phrases d (more_links ls p s t) = link_phrases d ls ++ phrases d t

  pub part_phrases : ℕ → Parts → List Standing
  part_phrases d no_parts = []
  part_phrases d (more_parts ps t) = part_phrases d ps ++ phrases d t

-- the words become those of a folder that isn't there in the text
abbrev pub adds_folder : Held → Option Rewriting → Bool
adds_folder no_tree (Some (in_folder words path)) = true
adds_folder _ _ = false

-- The folder that a phrase gets as its object would stand deeper than any token may.
unfoldable pub is_too_deep : Standing → Bool
is_too_deep s = adds_folder s.object (rewriting_of s.words) && nat_le deepest s.depth

-- the place of the first of some phrases that is too deep, if there is one
unfoldable pub first_place : List Standing → Option Place
first_place all = option_map (λ (s : Standing). s.place) (find is_too_deep all)

-- that of the phrases of a tree that stands so deep
abbrev pub too_deep : ℕ → Plain → Option Place
too_deep d t = first_place (phrases d t)

-- A word of these tokens stands so deep and begins there.
pub record HasWordAt (tokens : List Mark) (depth from : ℕ) : Type 0 where
  pub before : List Mark
  pub word : AnyWord
  pub place : Place
  pub after : List Mark
  pub is : tokens ≡ before ++ (mark depth (kind.word word) place ∷ after)
  pub begins : place.from ≡ from

-- The first word of each of these phrases is one of these tokens, and stands as deep.
abbrev pub AreAsDeep : List Mark → List Standing → Type 0
AreAsDeep tokens all = AllByRecursion (λ (s : Standing). HasWordAt tokens s.depth s.place.from) all
