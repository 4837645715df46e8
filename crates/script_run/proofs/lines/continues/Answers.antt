use Rattle.std.proofs.Common.{true}
use Rattle.script_run.specs.declared.cause.Cause.TheVariants.{NotContinued}
use Rattle.script_run.specs.Walks.{failing}
use Rattle.script_run.proofs.Texts.{tested_true, tested_false, tested_error, tested_fault, tested_memory}
use Rattle.script_run.proofs.lines.continues.Goals as goal

pub returns-in-True : goal.returns-in-True
returns-in-True g c =
    let j = c.in-True.ensures in
    record { prepares = λ n rest. tested_true c.args.kept.now.scene n c.args.test.now rest (failing n true NotContinued) _ _ j; date = tt; only = j.only }

pub returns-in-False : goal.returns-in-False
returns-in-False g c =
    let j = c.in-False.ensures in
    record { prepares = λ n rest. tested_false c.args.kept.now.scene n c.args.test.now rest (failing n true NotContinued) _ _ j; date = tt; only = j.only }

pub returns-in-Error : goal.returns-in-Error
returns-in-Error g c =
    let j = c.in-Error.ensures in
    record { prepares = λ n rest. tested_error c.args.kept.now.scene n c.args.test.now rest (failing n true NotContinued) _ c.in-Error.kind c.in-Error.place _ j; date = tt; only = j.only }

pub returns-in-Failed : goal.returns-in-Failed
returns-in-Failed g c =
    let j = c.in-Failed.ensures in
    record { prepares = λ n rest. tested_fault c.args.kept.now.scene n c.args.test.now rest (failing n true NotContinued) _ c.in-Failed.field-0 _ j; date = tt; only = j.only }

pub returns-in-Memory : goal.returns-in-Memory
returns-in-Memory g c =
    let j = c.in-Memory.ensures in
    record { prepares = λ n rest. tested_memory c.args.kept.now.scene n c.args.test.now rest (failing n true NotContinued) _ _ j; date = tt; only = j.only }
