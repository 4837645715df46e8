use Rattle.std.proofs.Common.{arith}
use Rattle.script_text.proofs.KindLemmas.{no_kind, none_more, brace_kind}
use Rattle.script_text.proofs.FormLemmas.{no_memory}
use Rattle.script_text.proofs.command.read_command.Goals as goal

pub returns : goal.returns
returns c = no_kind c.args.text.now (λ k d l. c.loop-kind.invariant k d (omega arith))

pub loop-kind-preserved : goal.loop-kind-preserved
loop-kind-preserved c = none_more c.args.text.now c.loop-kind.kind-index _ (omega arith) c.loop-kind.invariant (rw c.in-Err-NoCommand.field-0-is at c.in-Err-NoCommand.ensures)

pub returns-in-Err-BraceNotClosed : goal.returns-in-Err-BraceNotClosed
returns-in-Err-BraceNotClosed c = brace_kind c.args.text.now _ (rw c.in-Err-BraceNotClosed.field-0-is at c.in-Err-BraceNotClosed.ensures)

pub returns-in-Err-Memory : goal.returns-in-Err-Memory
returns-in-Err-Memory c = no_memory _ _
