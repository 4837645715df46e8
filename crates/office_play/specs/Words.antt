-- The words of a line that is printed.
use Rattle.std.specs.Prelude.{ℕ, List, ◌++◌, codes, decimal}
use Rattle.std.specs.Fmt.{signed_decimal}
use Rattle.office_play.specs.declared.line.Word.{Word}
use Rattle.office_play.specs.declared.line.Word.TheVariants as word

-- a word as it is printed: its bytes as they are, a text with a comma behind it, a number in decimal digits, and one
-- that may have a sign
abbrev pub spelled : Word → List ℕ
spelled (word.Text text) = text.now
spelled (word.Bytes bytes) = bytes.now
spelled (word.Comma text) = text.now ++ codes ","
spelled (word.Number number) = decimal number
spelled (word.Signed number) = signed_decimal number
