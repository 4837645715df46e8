use Rattle.std.proofs.Common.{subst}
use Rattle.std.specs.Prelude.{Err}
use Rattle.fix_site.specs.Answers.{ReadsSite}
use Rattle.office_play.proofs.Gathers.{never_bad}
use Rattle.office_play.proofs.gathering.answered_site.Goals as goal

pub unreachable-requires : goal.unreachable-requires
unreachable-requires c =
    never_bad c.one_reading.ensures c.args.text.now c.requires.0 c.in-Err.error c.in_default.not-Memory c.requires.1
    (subst (λ text. ReadsSite text (Err c.in-Err.error)) c.as_slice.ensures c.in-Err.ensures)
