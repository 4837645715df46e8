-- The words of the operators, in lower case and joined by one space.
use Rattle.std.specs.Prelude.{ℕ, List, codes}
use Rattle.rel_lexer.specs.declared.operator.BinarySign.{BinarySign}
use Rattle.rel_lexer.specs.declared.operator.BinarySign.TheVariants as sign
use Rattle.rel_lexer.specs.declared.operator.UnarySign.{UnarySign}
use Rattle.rel_lexer.specs.declared.operator.UnarySign.TheVariants as one_operand

-- an operator between two operands
abbrev pub sign_words : BinarySign → List ℕ
sign_words sign.Bar = codes "|"
sign_words sign.Or = codes "or"
sign_words sign.And = codes "and"
sign_words sign.Equal = codes "="
sign_words sign.NotEqual = codes "!="
sign_words sign.Less = codes "<"
sign_words sign.LessOrEqual = codes "<="
sign_words sign.Greater = codes ">"
sign_words sign.GreaterOrEqual = codes ">="
sign_words sign.Is = codes "is"
sign_words sign.IsNot = codes "is not"
sign_words sign.IsContainedBy = codes "is contained by"
sign_words sign.IsNotContainedBy = codes "is not contained by"
sign_words sign.Contains = codes "contains"
sign_words sign.StartsWith = codes "starts with"
sign_words sign.EndsWith = codes "ends with"
sign_words sign.DoesNotContain = codes "does not contain"
sign_words sign.DoesNotStartWith = codes "does not start with"
sign_words sign.DoesNotEndWith = codes "does not end with"
sign_words sign.Plus = codes "+"
sign_words sign.Minus = codes "-"
sign_words sign.Join = codes "&"
sign_words sign.Times = codes "*"
sign_words sign.Over = codes "/"
sign_words sign.Mod = codes "mod"

-- an operator before its operand
abbrev pub unary_words : UnarySign → List ℕ
unary_words one_operand.Not = codes "not"
unary_words one_operand.Exists = codes "exists"
unary_words one_operand.Exist = codes "exist"
unary_words one_operand.Minus = codes "-"
