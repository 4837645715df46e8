-- What the private functions do. No public contract cites these definitions.
use Rattle.std.specs.Prelude.{ℕ, ◌-◌, pos, Bool, true, false, ◌&&◌, ◌==◌, if◌then◌else◌, List, Option, None, Some}
use Rattle.std.specs.Option.{option_or}
use Rattle.rel_grammar.specs.Holding.{shown_held}
use Rattle.rel_lexer.specs.declared.place.Place.{Place}
use Rattle.rel_grammar.specs.Trees.{Plain, numeral, literal, it, phrase, body, cast, unary, chain, conditional, tuple, collection, Held, no_tree, a_tree, Linked, no_links, more_links, Parts, no_parts, more_parts}
use Rattle.rel_grammar.specs.Views.{PlainLink}
use Rattle.session_words.specs.declared.rewriting.Row.{Row}
use Rattle.session_words.specs.declared.rewriting.Rewriting.{Rewriting}
use Rattle.session_words.specs.declared.rewriting.Rewriting.TheVariants as code
use Rattle.session_words.specs.declared.replace.Phrase.{Phrase}
use Rattle.session_words.specs.Depths.{adds_folder}
use Rattle.session_words.specs.Replaced as words
use Rattle.session_words.specs.Replaced.{rewriting_of}

-- what words become, as it is kept
abbrev pub shown_rewriting : Rewriting → words.Rewriting
shown_rewriting (code.InFolder new path) = words.in_folder new.now path.now
shown_rewriting (code.OverObject new) = words.over_object new.now
shown_rewriting (code.Numbered new number) = words.numbered new.now (pos number)

abbrev pub shown_row : Row → List ℕ × words.Rewriting
shown_row row = (row.words.now, shown_rewriting row.becomes)

-- a phrase of these parts, where its words become this
abbrev pub rewritten_phrase : Phrase → Option words.Rewriting → Plain
rewritten_phrase p becomes = words.rewritten p.place p.words (shown_held p.argument) (shown_held p.filter) (shown_held p.object) becomes

-- the place of a phrase that is too deep itself, where there is room for tokens so many levels deeper
abbrev pub place_if_deep : ℕ → Place → List ℕ → Held → Option Place
place_if_deep room place words object = if adds_folder object (rewriting_of words) && room == 0 then Some place else None

-- that of the first phrase of a part that is too deep, where there is room for tokens so many levels deeper
abbrev mutual
  pub first_in : ℕ → Plain → Option Place
  first_in room (numeral p n) = None
  first_in room (literal p t) = None
  first_in room (it p) = None
  first_in room (phrase p w a f o) =
      option_or (place_if_deep room p w o) (option_or (first_held room a) (option_or (first_held room f) (first_held (room - 1) o)))
  first_in room (body p b f o) = option_or (first_in (room - 1) b) (option_or (first_held room f) (first_held (room - 1) o))
  first_in room (cast t cs) = first_in room t
  first_in room (unary p s t) = first_in (room - 1) t
  first_in room (chain t ls) = option_or (first_in room t) (first_in_links room ls)
  first_in room (conditional p t y n) = option_or (first_in (room - 1) t) (option_or (first_in (room - 1) y) (first_in (room - 1) n))
  first_in room (tuple ps) = first_in_parts room ps
  first_in room (collection ps) = first_in_parts room ps

  pub first_held : ℕ → Held → Option Place
  first_held room no_tree = None
  first_held room (a_tree t) = first_in room t

  pub first_in_links : ℕ → Linked → Option Place
  first_in_links room no_links = None
  first_in_links room (more_links ls p s t) = option_or (first_in_links room ls) (first_in room t)

  pub first_in_parts : ℕ → Parts → Option Place
  first_in_parts room no_parts = None
  first_in_parts room (more_parts ps t) = option_or (first_in_parts room ps) (first_in room t)

-- words that become those of a folder
abbrev pub is_in_folder : words.Rewriting → Bool
is_in_folder (words.in_folder new path) = true
is_in_folder other = false

-- a link with its operand replaced
abbrev pub replaced_link : PlainLink → PlainLink
replaced_link x = (x.0, x.1, words.replaced x.2)
