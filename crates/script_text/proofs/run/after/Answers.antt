use Rattle.std.proofs.Common.{arith}
use Rattle.script_text.proofs.Cutting.{begins_ascii}
use Rattle.script_text.proofs.run.after.Goals as goal

pub split_at-requires : goal.split_at-requires
split_at-requires c = begins_ascii c.args.text.now c.as_bytes.result.now c.in_ok-first.first.now c.as_bytes.ensures.value c.in_ok-first.ensures.value (omega arith) c.utf8.text
