-- The bytes of which runs consist.
use Rattle.std.specs.Prelude.{ℕ, Bool, not, ◌||◌, ◌==◌}
use Rattle.script_text.specs.declared.run.Run.{Run}
use Rattle.script_text.specs.declared.run.Run.TheVariants as run
use Rattle.script_text.specs.Bytes.{is_blank, is_in_field}

-- any but `{`, `}` and `"`
abbrev pub is_in_name : ℕ → Bool
is_in_name b = not (b == 123 || b == 125 || b == 34)

-- whether a byte is one of a run
abbrev pub passes : Run → ℕ → Bool
passes run.Blanks b = is_blank b
passes run.Field b = is_in_field b
passes run.Plain b = not (b == 123)
passes run.QuotedPlain b = not (b == 123 || b == 34)
passes run.Name b = is_in_name b
