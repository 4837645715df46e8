-- Trees without their places, and that a text reads as one.
use Rattle.std.specs.Prelude.{◌≡◌, ℕ, List, [], ◌∷◌}
use Rattle.rel_lexer.specs.declared.place.Place.{Place}
use Rattle.rel_grammar.specs.declared.casts.CastTo.{CastTo}
use Rattle.rel_grammar.specs.Answers.{IsTreeOf}
use Rattle.rel_grammar.specs.Trees.{Plain, numeral, literal, it, phrase, body, cast, unary, chain, conditional, tuple, collection, Held, no_tree, a_tree, Linked, no_links, more_links, Parts, no_parts, more_parts}

-- the one place of a tree without places
abbrev pub nowhere : Place
nowhere = record { from = 0; to = 0 }

abbrev pub bare_casts : List CastTo → List CastTo
bare_casts [] = []
bare_casts (c ∷ cs) = record { place = nowhere; words = c.words } ∷ bare_casts cs

-- a tree without its places
abbrev mutual
  pub bare : Plain → Plain
  bare (numeral p n) = numeral nowhere n
  bare (literal p t) = literal nowhere t
  bare (it p) = it nowhere
  bare (phrase p w a f o) = phrase nowhere w (bare_held a) (bare_held f) (bare_held o)
  bare (body p b f o) = body nowhere (bare b) (bare_held f) (bare_held o)
  bare (cast t cs) = cast (bare t) (bare_casts cs)
  bare (unary p s t) = unary nowhere s (bare t)
  bare (chain t ls) = chain (bare t) (bare_links ls)
  bare (conditional p t y n) = conditional nowhere (bare t) (bare y) (bare n)
  bare (tuple ps) = tuple (bare_parts ps)
  bare (collection ps) = collection (bare_parts ps)

  pub bare_held : Held → Held
  bare_held no_tree = no_tree
  bare_held (a_tree t) = a_tree (bare t)

  pub bare_links : Linked → Linked
  bare_links no_links = no_links
  bare_links (more_links ls p s t) = more_links (bare_links ls) nowhere s (bare t)

  pub bare_parts : Parts → Parts
  bare_parts no_parts = no_parts
  bare_parts (more_parts ps t) = more_parts (bare_parts ps) (bare t)

-- The text has a tree that is this one but for the places.
abbrev pub ReadsAs : List ℕ → Plain → Type 0
ReadsAs text tree = (read : Plain) × IsTreeOf text read × (bare read ≡ bare tree)
