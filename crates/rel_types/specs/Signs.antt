-- The kinds that the signs before one operand give. What the others give is a table of values (Kinds).
use Rattle.std.specs.Prelude.{Option, Some, None}
use Rattle.rel_lexer.specs.declared.operator.UnarySign.{UnarySign}
use Rattle.rel_lexer.specs.declared.operator.UnarySign.TheVariants as one_operand
use Rattle.rel_value.specs.Plain.{PlainKind, booleans}
use Rattle.rel_value.specs.Kinds.{Sort, truths, sort_of, negated_kind}

-- the kind that `not` gives, if it has a row for its operand's
abbrev pub denied_kind : Sort → Option PlainKind
denied_kind truths = Some booleans
denied_kind _ = None

-- the kind that a sign before an operand of this kind gives, if it has a row for it
abbrev pub unary_kind : UnarySign → PlainKind → Option PlainKind
unary_kind one_operand.Not k = denied_kind (sort_of k)
unary_kind one_operand.Exists k = Some booleans
unary_kind one_operand.Exist k = Some booleans
unary_kind one_operand.Minus k = negated_kind (sort_of k)
