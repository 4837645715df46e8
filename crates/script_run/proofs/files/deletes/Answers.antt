use Rattle.std.proofs.Common.{false}
use Rattle.bf_world.specs.declared.command.Command.TheVariants as command
use Rattle.script_text.specs.declared.line.Line.TheVariants as line
use Rattle.script_run.specs.Walks.{doing}
use Rattle.script_run.proofs.Preparing.{does_line}
use Rattle.script_run.proofs.files.deletes.Goals as goal

pub returns : goal.returns
returns g c =
    let a = c.in_ok-path.ensures in
    does_line _ (line.Delete c.args.path.now) _ _ _ _ c.does.ensures tt a.only (λ n rest. a.fills n false (λ midway path. doing n midway (command.Delete path) rest))
