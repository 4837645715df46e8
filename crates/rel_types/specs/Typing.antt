-- Checking: the plan of a tree, with its kind and number, or the first fault. Each part is checked, and then at once asked what the
-- part around it asks of it. `it` has the kind that is handed down, if there is one.
use Rattle.std.specs.Prelude.{true, false, ◌||◌, if◌then◌else◌, List, [], ◌∷◌, ◌++◌, Option, Some, None, Ok, Err, codes}
use Rattle.rel_lexer.specs.declared.place.Place.{Place}
use Rattle.rel_lexer.specs.declared.operator.BinarySign.{BinarySign}
use Rattle.rel_lexer.specs.declared.operator.BinarySign.TheVariants as sign
use Rattle.rel_lexer.specs.declared.operator.UnarySign.{UnarySign}
use Rattle.rel_lexer.specs.declared.operator.UnarySign.TheVariants as one_operand
use Rattle.rel_grammar.specs.declared.casts.CastTo.{CastTo}
use Rattle.rel_grammar.specs.Spans.{span_of_tree}
use Rattle.rel_grammar.specs.Trees.{Plain, Held, Linked, Parts}
use Rattle.rel_grammar.specs.Trees as tree
use Rattle.rel_value.specs.Plain.{PlainKind, booleans, integers, texts}
use Rattle.rel_value.specs.Kinds.{binary_kind}
use Rattle.rel_types.specs.declared.cast_steps.CastStep.{CastStep}
use Rattle.rel_types.specs.declared.error.TypeError.TheVariants.{NotSingular, Incompatible}
use Rattle.rel_types.specs.Plans.{PlainNode, node, kind_of, is_plural, numeral, literal, it, phrase, body, cast, unary, chain, conditional, tuple, collection, HeldNode, no_node, a_node, held_plural, LinkedNodes, no_links, more_links, Nodes, no_nodes, more_nodes, first_kind, tuple_kind, any_plural}
use Rattle.rel_types.specs.Outcomes.{Checked, after, defined, fitting}
use Rattle.rel_types.specs.Alike.{same_kind}
use Rattle.rel_types.specs.Heads.{Headed, head_of}
use Rattle.rel_types.specs.Casts.{CastTaken, cast_of}
use Rattle.rel_lexer.specs.OperatorWords.{sign_words, unary_words}
use Rattle.rel_types.specs.Signs.{unary_kind}

-- it is singular
unfoldable pub ask_singular : Place → PlainNode → Checked PlainNode
ask_singular span n = if is_plural n then Err (NotSingular span) else Ok n

-- it has this kind
unfoldable pub ask_kind : PlainKind → Place → PlainNode → Checked PlainNode
ask_kind k span n = if same_kind k (kind_of n) then Ok n else Err (Incompatible span)

-- it has the kind of the first part, if there is one before it
unfoldable pub ask_like : Option PlainKind → Place → PlainNode → Checked PlainNode
ask_like None span n = Ok n
ask_like (Some k) span n = ask_kind k span n

-- a tree that was checked is singular
unfoldable pub singular : Plain → Checked PlainNode → Checked PlainNode
singular t checked = after checked (ask_singular (span_of_tree t))

-- a filter or a test is singular, and then Boolean
unfoldable pub truth : Plain → Checked PlainNode → Checked PlainNode
truth t checked = after (singular t checked) (ask_kind booleans (span_of_tree t))

-- the second branch has the kind of the first
unfoldable pub same_branch : PlainKind → Plain → Checked PlainNode → Checked PlainNode
same_branch k t checked = after checked (ask_kind k (span_of_tree t))

-- `exists` takes any number of values; every other sign takes one
unfoldable pub operand : UnarySign → Plain → Checked PlainNode → Checked PlainNode
operand one_operand.Exists t checked = checked
operand one_operand.Exist t checked = checked
operand _ t checked = singular t checked

-- the kind that a sign gives: of the sides of `|`, which have the same; by the signs' rows
unfoldable pub linked_kind : Place → BinarySign → PlainKind → Place → PlainNode → Checked PlainKind
linked_kind p sign.Bar left span right = if same_kind left (kind_of right) then Ok left else Err (Incompatible span)
linked_kind p s left span right = defined p (sign_words s) (binary_kind s left (kind_of right))

-- what is checked of a chain, from the left: the kind so far, and the links
pub record Chained : Type 0 where
  pub kind : PlainKind
  pub links : LinkedNodes

unfoldable pub one_more_link : Chained → Place → BinarySign → Place → PlainNode → Checked Chained
one_more_link before p s span right =
    after (linked_kind p s before.kind span right) (λ k. Ok (record { kind = k; links = more_links before.links p s right }))

-- what is checked of casts, from the left: the kind so far, and the casts
pub record Casted : Type 0 where
  pub kind : PlainKind
  pub steps : List CastStep

abbrev pub with_cast : Casted → Place → CastTaken → Casted
with_cast before p taken = record { kind = taken.kind; steps = before.steps ++ (record { place = p; cast = taken.cast } ∷ []) }

-- the casts with one more
unfoldable pub one_more_cast : Casted → CastTo → Checked Casted
one_more_cast before c = after (defined c.place c.words (cast_of before.kind c.words)) (λ taken. Ok (with_cast before c.place taken))

abbrev pub typed_casts : Casted → List CastTo → Checked Casted
typed_casts before [] = Ok before
typed_casts before (c ∷ cs) = after (one_more_cast before c) (λ next. typed_casts next cs)

-- `it` in the body of an object is a value of the object; else it is the one around
abbrev pub it_inside : Option PlainKind → HeldNode → Option PlainKind
it_inside around no_node = around
it_inside around (a_node object) = Some (kind_of object)

-- one part more
abbrev pub one_more : Nodes → PlainNode → Checked Nodes
one_more before n = Ok (more_nodes before n)

unfoldable pub one_more_like : Nodes → Place → PlainNode → Checked Nodes
one_more_like before span n = after (ask_like (first_kind before) span n) (one_more before)

abbrev pub named_node : Place → HeldNode → HeldNode → Headed → HeldNode → PlainNode
named_node p argument object head filter = node head.kind head.plural (phrase p head.head argument filter object)

abbrev pub body_node : Place → HeldNode → PlainNode → HeldNode → PlainNode
body_node p object inner filter = node (kind_of inner) (is_plural inner || held_plural object) (body p inner filter object)

abbrev pub choice_node : Place → PlainNode → PlainNode → PlainNode → PlainNode
choice_node p test chosen other = node (kind_of chosen) (is_plural chosen || is_plural other) (conditional p test chosen other)

abbrev pub held : PlainNode → Checked HeldNode
held n = Ok (a_node n)

abbrev mutual
  pub typed : Option PlainKind → Plain → Checked PlainNode
  typed i (tree.numeral p n) = Ok (node integers false (numeral p n))
  typed i (tree.literal p t) = Ok (node texts false (literal p t))
  typed i (tree.it p) = after (defined p (codes "it") i) (λ k. Ok (node k false (it p)))
  typed i (tree.phrase p words a f o) =
      after (typed_argument i a) (λ argument.
      after (typed_object i o) (λ object.
      after (defined p words (head_of words argument object)) (λ head.
      after (typed_filter head.kind f) (λ filter.
      Ok (named_node p argument object head filter)))))
  typed i (tree.body p b f o) =
      after (typed_object i o) (λ object.
      after (typed (it_inside i object) b) (λ inner.
      after (typed_filter (kind_of inner) f) (λ filter.
      Ok (body_node p object inner filter))))
  typed i (tree.cast t cs) =
      after (singular t (typed i t)) (λ first.
      after (typed_casts (record { kind = kind_of first; steps = [] }) cs) (λ done.
      Ok (node done.kind false (cast first done.steps))))
  typed i (tree.unary p s t) =
      after (operand s t (typed i t)) (λ right.
      after (defined p (unary_words s) (unary_kind s (kind_of right))) (λ k.
      Ok (node k false (unary p s right))))
  typed i (tree.chain t ls) =
      after (singular t (typed i t)) (λ first.
      after (typed_links i (kind_of first) ls) (λ done.
      Ok (node done.kind false (chain first done.links))))
  typed i (tree.conditional p t y n) =
      after (truth t (typed i t)) (λ test.
      after (typed i y) (λ chosen.
      after (same_branch (kind_of chosen) n (typed i n)) (λ other.
      Ok (choice_node p test chosen other))))
  typed i (tree.tuple ps) =
      after (typed_parts i ps) (λ ns.
      after (fitting (span_of_tree (tree.tuple ps)) (tuple_kind ns)) (λ k.
      Ok (node k (any_plural ns) (tuple ns))))
  typed i (tree.collection ps) =
      after (typed_alike i ps) (λ ns.
      after (fitting (span_of_tree (tree.collection ps)) (first_kind ns)) (λ k.
      Ok (node k true (collection ns))))

  -- an argument is singular
  pub typed_argument : Option PlainKind → Held → Checked HeldNode
  typed_argument i tree.no_tree = Ok no_node
  typed_argument i (tree.a_tree t) = after (singular t (typed i t)) held

  pub typed_object : Option PlainKind → Held → Checked HeldNode
  typed_object i tree.no_tree = Ok no_node
  typed_object i (tree.a_tree t) = after (typed i t) held

  -- `it` in a filter is what is filtered
  pub typed_filter : PlainKind → Held → Checked HeldNode
  typed_filter k tree.no_tree = Ok no_node
  typed_filter k (tree.a_tree t) = after (truth t (typed (Some k) t)) held

  -- the operands of a chain behind the first, each with its sign
  pub typed_links : Option PlainKind → PlainKind → Linked → Checked Chained
  typed_links i first tree.no_links = Ok (record { kind = first; links = no_links })
  typed_links i first (tree.more_links ls p s t) =
      after (typed_links i first ls) (λ before.
      after (singular t (typed i t)) (one_more_link before p s (span_of_tree t)))

  -- the parts of a tuple
  pub typed_parts : Option PlainKind → Parts → Checked Nodes
  typed_parts i tree.no_parts = Ok no_nodes
  typed_parts i (tree.more_parts ps t) =
      after (typed_parts i ps) (λ before.
      after (typed i t) (one_more before))

  -- the parts of a collection, which have one kind
  pub typed_alike : Option PlainKind → Parts → Checked Nodes
  typed_alike i tree.no_parts = Ok no_nodes
  typed_alike i (tree.more_parts ps t) =
      after (typed_alike i ps) (λ before.
      after (typed i t) (one_more_like before (span_of_tree t)))
