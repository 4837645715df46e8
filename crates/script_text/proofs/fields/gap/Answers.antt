use Rattle.std.proofs.Common.{sym}
use Rattle.script_text.proofs.ItemLemmas.{gap_absent, empty_is}
use Rattle.script_text.proofs.fields.gap.Goals as goal

pub returns-then-is_empty : goal.returns-then-is_empty
returns-then-is_empty c = gap_absent c.args.text.now c.split_run.result.0.now c.split_run.result.1.now c.split_run.ensures (empty_is c.split_run.result.0.now (sym c.if-is_empty.ensures))
