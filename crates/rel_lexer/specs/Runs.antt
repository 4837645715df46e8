-- The bytes of which runs consist. Only private functions cite it.
use Rattle.std.specs.Prelude.{ℕ, Bool}
use Rattle.std.specs.Char.{is_ascii_digit}
use Rattle.rel_lexer.specs.declared.bytes.Run.{Run}
use Rattle.rel_lexer.specs.declared.bytes.Run.TheVariants as run
use Rattle.rel_lexer.specs.Bytes.{is_in_word, is_no_quote}

-- whether a byte is one of a run
abbrev pub passes : Run → ℕ → Bool
passes run.Word = is_in_word
passes run.Number = is_ascii_digit
passes run.String = is_no_quote
