use Rattle.std.proofs.Common.{length}
use Rattle.std.specs.Str.{IsUtf8}
use Rattle.script_text.proofs.TemplateLemmas.{IsPlainSoFar}
use Rattle.script_text.proofs.piece.read_plain.Given as goal

abbrev pub decreases-loop-plain : goal.decreases-loop-plain
decreases-loop-plain l = length l.rest

abbrev pub invariant-loop-plain : goal.invariant-loop-plain
invariant-loop-plain l = record { so_far : IsPlainSoFar l.ending l.text l.plain l.rest; utf8 : IsUtf8 l.rest }
