-- A plan in few forms, as an evaluation walks it, and what it means.
use Rattle.std.specs.Prelude.{◌≡◌, Bool, true, false, List, [], ◌∷◌, Option, None}
use Rattle.rel_lexer.specs.declared.place.Place.{Place}
use Rattle.rel_lexer.specs.declared.operator.BinarySign.{BinarySign}
use Rattle.rel_lexer.specs.declared.operator.BinarySign.TheVariants as sign
use Rattle.rel_lexer.specs.declared.operator.UnarySign.{UnarySign}
use Rattle.rel_lexer.specs.declared.operator.UnarySign.TheVariants as one_operand
use Rattle.bf_world.specs.Worlds.{WorldState}
use Rattle.rel_value.specs.declared.property.PropertyId.{PropertyId}
use Rattle.rel_value.specs.Plain.{Plain, integer, words, PlainKind}
use Rattle.rel_types.specs.declared.cast_steps.CastStep.{CastStep}
use Rattle.rel_types.specs.declared.head.Head.{Head}
use Rattle.rel_types.specs.declared.head.Head.TheVariants as head
use Rattle.rel_types.specs.Plans.{PlainNode, node, PlainForm, numeral, literal, it, phrase, body, cast, unary, chain, conditional, tuple, collection, HeldNode, no_node, a_node, LinkedNodes, no_links, more_links, Nodes, no_nodes, more_nodes}
use Rattle.rel_sources.specs.declared.scene.Scene.{Scene}
use Rattle.rel_inspect.specs.Props.{prop}
use Rattle.rel_trace.specs.declared.logic.Logic.TheVariants.{And, Or}
use Rattle.rel_trace.specs.Trace.{Trace, none, one}
use Rattle.rel_trace.specs.Scopes.{Around}
use Rattle.rel_trace.specs.declared.joining.Joining.{Joining}
use Rattle.rel_trace.specs.Ones.{OneKind, single_kind, exists_kind, fold_kind, negate_kind, not_kind, cast_kind, sign_kind, tuple_kind, one_whole}
use Rattle.rel_trace.specs.Twos.{TwoKind, then_kind, bar_kind, logic_kind, each_kind, sift_kind, argument_kind, left_kind, turned_kind, two_whole}
use Rattle.rel_trace.specs.Choices.{choice_whole}
use Rattle.rel_nodes.specs.Spans.{span_of_node}
use Rattle.rel_nodes.specs.Meaning.{placed, given, fold_of, joining}

pub data Core : Type 0 where
  nothing_core : Core
  constant_core : (value : Plain) → Core
  it_core : Core
  -- the value to the left
  left_core : Core
  -- whether it has an argument and an object, and the head's place
  property_core : (id : PropertyId) (argument object : Bool) (head : Place) → Core
  one_core : (kind : OneKind) (part : Core) → Core
  two_core : (kind : TwoKind) (first second : Core) → Core
  choice_core : (test yes no : Core) → Core

-- the value, where one is asked for
abbrev pub asked_for : Bool → Option Plain → Option Plain
asked_for true v = v
asked_for false v = None

-- the trace of a property in a scope: its argument is the scope's, and its object is what `it` stands for
abbrev pub property_whole : WorldState → Scene → PropertyId → Bool → Bool → Place → Around → Trace
property_whole w s id argument object p a = placed p (prop id (asked_for argument a.argument) (asked_for object a.it) w s)

abbrev pub core : WorldState → Scene → Core → Around → Trace
core w s nothing_core a = none
core w s (constant_core v) a = one v
core w s it_core a = given a.it
core w s left_core a = given a.left
core w s (property_core id argument object p) a = property_whole w s id argument object p a
core w s (one_core k c) a = one_whole k a s.offset (core w s c a)
core w s (two_core k c d) a = two_whole k (core w s c a) (core w s d) a
core w s (choice_core t y n) a = choice_whole (core w s t a) (core w s y) (core w s n) a

-- the two mean the same in every scope
abbrev pub Alike : Core → Core → Type 0
Alike c d = (w : WorldState) (s : Scene) (a : Around) → core w s c a ≡ core w s d a

abbrev pub singly_core : Bool → Place → Core → Core
singly_core true p c = c
singly_core false p c = one_core (single_kind p) c

-- what a cast makes of the value to its left
abbrev pub cast_arrow : CastStep → Core
cast_arrow x = one_core (cast_kind x.cast x.place) left_core

abbrev pub casted_core : List CastStep → Core → Core
casted_core [] c = c
casted_core (x ∷ xs) c = casted_core xs (two_core left_kind c (cast_arrow x))

-- a sign before an operand
abbrev pub prefix_kind : UnarySign → Place → OneKind
prefix_kind one_operand.Not p = not_kind p
prefix_kind one_operand.Exists p = exists_kind
prefix_kind one_operand.Exist p = exists_kind
prefix_kind one_operand.Minus p = negate_kind p

-- what a sign other than `|` makes of the value to its left and of its right operand
abbrev pub sign_arrow : BinarySign → Place → Core → Core
sign_arrow sign.And p d = two_core (logic_kind And) left_core d
sign_arrow sign.Or p d = two_core (logic_kind Or) left_core d
sign_arrow g p d = one_core (sign_kind g p) d

-- a sign between two operands
abbrev pub infix_core : BinarySign → Place → Core → Core → Core
infix_core sign.Bar p c d = two_core bar_kind c d
infix_core g p c d = two_core left_kind c (sign_arrow g p d)

-- the tuples of what stands before a comma and of what stands behind it, after a turn at the span of the part before
abbrev pub comma_core : Joining → Place → Core → Core → Core
comma_core j p c d = two_core (turned_kind p) c (one_core (tuple_kind j p) d)

abbrev pub is_there : HeldNode → Bool
is_there no_node = false
is_there (a_node n) = true

-- the plan of a question in these forms
abbrev mutual
  pub core_of : PlainNode → Core
  core_of (node k plural form) = form_core k plural form

  pub form_core : PlainKind → Bool → PlainForm → Core
  form_core k plural (numeral p n) = constant_core (integer n)
  form_core k plural (literal p t) = constant_core (words t)
  form_core k plural (it p) = it_core
  form_core k plural (phrase p (head.Property id) a f o) = singly_core plural p (filtered_core p f (argued_core a (over_core p o (property_core id (is_there a) (is_there o) p))))
  form_core k plural (phrase p (head.Aggregate g) a f o) = singly_core plural p (filtered_core p f (argued_core a (one_core (fold_kind (fold_of g k a) p) (gathered_core o))))
  form_core k plural (body p b f o) = singly_core plural p (filtered_core p f (over_core p o (core_of b)))
  form_core k plural (cast n cs) = casted_core cs (core_of n)
  form_core k plural (unary p g n) = one_core (prefix_kind g p) (core_of n)
  form_core k plural (chain n ls) = chained_core ls (core_of n)
  form_core k plural (conditional p t y n) = choice_core (core_of t) (core_of y) (core_of n)
  form_core k plural (tuple ns) = tuple_core ns
  form_core k plural (collection ns) = collected_core ns

  pub argued_core : HeldNode → Core → Core
  argued_core no_node c = c
  argued_core (a_node n) c = two_core argument_kind (core_of n) c

  pub over_core : Place → HeldNode → Core → Core
  over_core p no_node c = c
  over_core p (a_node o) c = two_core (each_kind p) (core_of o) c

  pub gathered_core : HeldNode → Core
  gathered_core no_node = nothing_core
  gathered_core (a_node o) = core_of o

  pub filtered_core : Place → HeldNode → Core → Core
  filtered_core p no_node c = c
  filtered_core p (a_node f) c = two_core (sift_kind p) c (core_of f)

  pub chained_core : LinkedNodes → Core → Core
  chained_core no_links first = first
  chained_core (more_links ls p g n) first = infix_core g p (chained_core ls first) (core_of n)

  pub tuple_core : Nodes → Core
  tuple_core no_nodes = nothing_core
  tuple_core (more_nodes ns n) = behind_core ns (core_of n)

  pub behind_core : Nodes → Core → Core
  behind_core no_nodes last = last
  behind_core (more_nodes ns n) last = comma_core (joining ns) (span_of_node n) (behind_core ns (core_of n)) last

  pub collected_core : Nodes → Core
  collected_core no_nodes = nothing_core
  collected_core (more_nodes ns n) = two_core then_kind (collected_core ns) (core_of n)

-- a phrase inside its argument
abbrev pub head_core : PlainKind → Place → Head → HeldNode → HeldNode → Core
head_core k p (head.Property id) a o = over_core p o (property_core id (is_there a) (is_there o) p)
head_core k p (head.Aggregate g) a o = one_core (fold_kind (fold_of g k a) p) (gathered_core o)
