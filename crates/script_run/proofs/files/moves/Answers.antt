use Rattle.std.proofs.Common.{false}
use Rattle.std.proofs.lemmas.Result.{err_from_is_err_and}
use Rattle.bf_world.specs.declared.command.Command.TheVariants as command
use Rattle.script_text.specs.declared.line.Line.TheVariants as line
use Rattle.script_run.specs.Walks.{doing}
use Rattle.script_run.proofs.Preparing.{breaks_line, does_line}
use Rattle.script_run.proofs.files.moves.Goals as goal

pub returns-in_err-both : goal.returns-in_err-both
returns-in_err-both g c =
    let p = err_from_is_err_and c.from_residual.result c.from_residual.ensures.1 in
    let a = c.in_err-both.ensures in
    breaks_line _ (line.Move c.args.from.now c.args.to.now) _ _ _ _ _ p.1 p.2 a.only (λ n rest. a.fills n false (λ midway from to. doing n midway (command.Move from to) rest))

pub returns : goal.returns
returns g c =
    let a = c.in_ok-both.ensures in
    does_line _ (line.Move c.args.from.now c.args.to.now) _ _ _ _ c.does.ensures tt a.only (λ n rest. a.fills n false (λ midway from to. doing n midway (command.Move from to) rest))
