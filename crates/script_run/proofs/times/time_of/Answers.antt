use Rattle.std.proofs.Common.{length, ap, ◌∙◌}
use Rattle.rel_value.specs.TimesRead.{time_of}
use Rattle.script_run.proofs.Moments.{cast_reads, not_time, moment_reads}
use Rattle.script_run.proofs.times.time_of.Goals as goal

pub returns-then-as_str-ne31 : goal.returns-then-as_str-ne31
returns-then-as_str-ne31 c = not_time c.args.text (λ e. c.if-as_str-ne31.true (ap length c.as_str.ensures ∙ e))

pub returns : goal.returns
returns c = moment_reads c.args.text _ (c.moment_of.ensures (time_of c.args.text) (cast_reads c.args.text _ c.cast-answer.ensures))
