-- The texts of the kinds of errors.
use Rattle.std.specs.Prelude.{ℕ, List, ◌++◌, codes}
use Rattle.rel_trace.specs.declared.kind.RelKind.{RelKind}
use Rattle.rel_trace.specs.declared.kind.RelKind.TheVariants.{BadByte, BadEscape, UnclosedString, UnclosedComment, TooLong, NoParse, TooDeep, DivideByZero, OutOfRange, TextTooLong, NotDefined, NotSingular, Incompatible, Nonexistent, NonUnique, Steps, BadNumber}

-- the text where nothing is defined of these words
unfoldable pub undefined_text : List ℕ → List ℕ
undefined_text words = codes "The operator \"" ++ words ++ codes "\" is not defined."

-- the text of a kind; NotDefined has the words in its text, and comes with them
abbrev pub error_text : RelKind → List ℕ
error_text BadByte = codes "A character cannot stand here."
error_text BadEscape = codes "A string is not text."
error_text UnclosedString = codes "A string is not closed."
error_text UnclosedComment = codes "A comment is not closed."
error_text TooLong = codes "The question is too long."
error_text NoParse = codes "This expression could not be parsed."
error_text TooDeep = codes "The question is nested too deeply."
error_text DivideByZero = codes "Division by zero."
error_text OutOfRange = codes "A number is out of range."
error_text TextTooLong = codes "A text is too long."
error_text NotDefined = codes "The operator \"\" is not defined."
error_text NotSingular = codes "A singular expression is required."
error_text Incompatible = codes "Incompatible types."
error_text Nonexistent = codes "Singular expression refers to nonexistent object."
error_text NonUnique = codes "Singular expression refers to non-unique object."
error_text Steps = codes "The question took too many steps."
error_text BadNumber = codes "A number is too large."
