-- Where a tree begins and ends in its question.
use Rattle.std.specs.Prelude.{◌≡◌, ℕ, List, [], ◌∷◌, ◌++◌}
use Rattle.rel_lexer.specs.declared.place.Place.{Place}
use Rattle.rel_grammar.specs.declared.casts.CastTo.{CastTo}
use Rattle.rel_grammar.specs.Shapes.{Shaped}
use Rattle.rel_grammar.specs.Trees.{Plain, numeral, literal, it, phrase, body, cast, unary, chain, conditional, tuple, collection, Held, no_tree, a_tree, Linked, no_links, more_links, Parts, no_parts, more_parts}

-- the byte at which the first token of a tree begins
abbrev mutual
  pub begin_of : Plain → ℕ
  begin_of (numeral p n) = p.from
  begin_of (literal p t) = p.from
  begin_of (it p) = p.from
  begin_of (phrase p w a f o) = p.from
  begin_of (body p b f o) = p.from
  begin_of (cast t cs) = begin_of t
  begin_of (unary p s t) = p.from
  begin_of (chain t ls) = begin_of t
  begin_of (conditional p t y n) = p.from
  begin_of (tuple ps) = parts_begin ps 0
  begin_of (collection ps) = parts_begin ps 0

  -- where the first of some parts begins, and this byte where there are none
  pub parts_begin : Parts → ℕ → ℕ
  parts_begin no_parts at = at
  parts_begin (more_parts ps t) at = parts_begin ps (begin_of t)

-- the byte behind the last of some casts, and this byte where there are none
abbrev pub casts_end : ℕ → List CastTo → ℕ
casts_end at [] = at
casts_end at (c ∷ cs) = casts_end c.place.to cs

-- the byte behind the last token of a tree
abbrev mutual
  pub end_of : Plain → ℕ
  end_of (numeral p n) = p.to
  end_of (literal p t) = p.to
  end_of (it p) = p.to
  end_of (phrase p w a f o) = held_end (held_end p.to f) o
  end_of (body p b f o) = held_end (held_end p.to f) o
  end_of (cast t cs) = casts_end (end_of t) cs
  end_of (unary p s t) = end_of t
  end_of (chain t ls) = links_end (end_of t) ls
  end_of (conditional p t y n) = end_of n
  end_of (tuple ps) = parts_end ps
  end_of (collection ps) = parts_end ps

  -- the byte behind a filter or an object, and this byte where there is none
  pub held_end : ℕ → Held → ℕ
  held_end at no_tree = at
  held_end at (a_tree t) = end_of t

  -- the byte behind the last of some operands, and this byte where there are none
  pub links_end : ℕ → Linked → ℕ
  links_end at no_links = at
  links_end at (more_links ls p s t) = end_of t

  -- the byte behind the last of some parts, and 0 where there are none
  pub parts_end : Parts → ℕ
  parts_end no_parts = 0
  parts_end (more_parts ps t) = end_of t

-- from the first token to the last, brackets of its own included
abbrev pub span_of_tree : Plain → Place
span_of_tree t = record { from = begin_of t; to = end_of t }

-- The place goes from the first of these tokens to the last.
pub record Spans (tokens : List Shaped) (place : Place) : Type 0 where
  pub first : Shaped
  pub more : List Shaped
  pub begins : tokens ≡ first ∷ more
  pub from : place.from ≡ first.place.from
  pub before : List Shaped
  pub last : Shaped
  pub ends : tokens ≡ before ++ (last ∷ [])
  pub to : place.to ≡ last.place.to
