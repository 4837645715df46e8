-- Where a part of a plan begins and ends in its question.
use Rattle.std.specs.Prelude.{ℕ, List, [], ◌∷◌}
use Rattle.rel_lexer.specs.declared.place.Place.{Place}
use Rattle.rel_types.specs.declared.cast_steps.CastStep.{CastStep}
use Rattle.rel_types.specs.Plans.{PlainNode, node, PlainForm, numeral, literal, it, phrase, body, cast, unary, chain, conditional, tuple, collection, HeldNode, no_node, a_node, LinkedNodes, no_links, more_links, Nodes, no_nodes, more_nodes}

-- the byte at which the first token of a node begins
abbrev mutual
  pub begin_of : PlainNode → ℕ
  begin_of (node k plural form) = form_begin form

  pub form_begin : PlainForm → ℕ
  form_begin (numeral p n) = p.from
  form_begin (literal p t) = p.from
  form_begin (it p) = p.from
  form_begin (phrase p h a f o) = p.from
  form_begin (body p b f o) = p.from
  form_begin (cast n cs) = begin_of n
  form_begin (unary p s n) = p.from
  form_begin (chain n ls) = begin_of n
  form_begin (conditional p t y n) = p.from
  form_begin (tuple ns) = nodes_begin ns 0
  form_begin (collection ns) = nodes_begin ns 0

  -- where the first of some nodes begins, and this byte where there are none
  pub nodes_begin : Nodes → ℕ → ℕ
  nodes_begin no_nodes at = at
  nodes_begin (more_nodes ns n) at = nodes_begin ns (begin_of n)

-- the byte behind the last of some casts, and this byte where there are none
abbrev pub casts_end : ℕ → List CastStep → ℕ
casts_end at [] = at
casts_end at (c ∷ cs) = casts_end c.place.to cs

-- the byte behind the last token of a node
abbrev mutual
  pub end_of : PlainNode → ℕ
  end_of (node k plural form) = form_end form

  pub form_end : PlainForm → ℕ
  form_end (numeral p n) = p.to
  form_end (literal p t) = p.to
  form_end (it p) = p.to
  form_end (phrase p h a f o) = held_end (held_end p.to f) o
  form_end (body p b f o) = held_end (held_end p.to f) o
  form_end (cast n cs) = casts_end (end_of n) cs
  form_end (unary p s n) = end_of n
  form_end (chain n ls) = links_end (end_of n) ls
  form_end (conditional p t y n) = end_of n
  form_end (tuple ns) = nodes_end ns
  form_end (collection ns) = nodes_end ns

  -- the byte behind a filter or an object, and this byte where there is none
  pub held_end : ℕ → HeldNode → ℕ
  held_end at no_node = at
  held_end at (a_node n) = end_of n

  -- the byte behind the last of some operands, and this byte where there are none
  pub links_end : ℕ → LinkedNodes → ℕ
  links_end at no_links = at
  links_end at (more_links ls p s n) = end_of n

  -- the byte behind the last of some nodes, and 0 where there are none
  pub nodes_end : Nodes → ℕ
  nodes_end no_nodes = 0
  nodes_end (more_nodes ns n) = end_of n

-- from the first token to the last, brackets of its own included
abbrev pub span_of_node : PlainNode → Place
span_of_node n = record { from = begin_of n; to = end_of n }
