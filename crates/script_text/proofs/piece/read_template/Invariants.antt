use Rattle.std.proofs.Common.{length}
use Rattle.std.specs.Str.{IsUtf8}
use Rattle.script_text.specs.Templates.{AreParts}
use Rattle.script_text.proofs.piece.read_template.Given as goal

abbrev pub decreases-parts : goal.decreases-parts
decreases-parts l = length l.rest

abbrev pub invariant-parts : goal.invariant-parts
invariant-parts l = record { parts : AreParts l.ending l.text l.parts.items l.rest; utf8 : IsUtf8 l.rest }
