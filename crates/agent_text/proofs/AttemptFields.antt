-- The moment at which an attempt was cleared has no spaces, and is that of one value.
use Rattle.std.proofs.Common.{ℤ, pos, negsuc, ◌≡◌, arith, Option, Some, None}
use Rattle.std.specs.Prelude.{IfSome}
use Rattle.std.proofs.lemmas.Int.{ints}
use Rattle.desk_base.specs.Moments.{IsMoment}
use Rattle.line_forms.proofs.PlainLemmas.{IsPlain}
use Rattle.report_text.specs.ReportRows.{IsExit}
use Rattle.report_text.proofs.FieldLemmas.{exit_one, plain_exit}
use Rattle.agent_text.specs.AttemptLines.{cleared_field}

-- it is spelled as an exit code is
moment_exit : (c : Option ℤ) → IfSome c IsMoment → IfSome c IsExit
moment_exit None h = tt
moment_exit (Some (pos n)) h = (omega (arith, ints), omega (arith, ints, h.1))
moment_exit (Some (negsuc n)) h = absurd (omega (arith, ints, h.0))

pub cleared_one : (c d : Option ℤ) → IfSome c IsMoment → IfSome d IsMoment → cleared_field c ≡ cleared_field d → c ≡ d
cleared_one c d a b h = exit_one c d (moment_exit c a) (moment_exit d b) h

pub plain_cleared : (c : Option ℤ) → IfSome c IsMoment → IsPlain (cleared_field c)
plain_cleared c h = plain_exit c (moment_exit c h)
