use Rattle.std.proofs.Common.{◌≡◌, false, codes}
use Rattle.std.proofs.lemmas.Result.{err_from_is_err_and}
use Rattle.bf_world.specs.declared.command.Command.TheVariants as command
use Rattle.script_text.specs.declared.line.Line.TheVariants as line
use Rattle.script_run.specs.declared.lines.Prepared.TheVariants.{Does}
use Rattle.script_run.specs.Walks.{doing}
use Rattle.script_run.specs.LineWalks.{ended}
use Rattle.script_run.proofs.Chains.{starve_reached}
use Rattle.script_run.proofs.Preparing.{breaks_line, does_line}
use Rattle.script_run.proofs.files.appends.Goals as goal

pub returns-in_err-push : goal.returns-in_err-push
returns-in_err-push g c =
    let p = err_from_is_err_and c.from_residual-in_err-push.result c.from_residual-in_err-push.ensures.1 in
    let a = c.in_ok-text.ensures in
    breaks_line _ (line.Append c.args.template.now) _ _ _ _ _ p.1 p.2 a.only (λ n rest. starve_reached _ n _ _ _ _ (a.fills n false (λ midway text. doing n midway (command.Append (codes "__appendfile") (ended text)) rest)).1)

pub returns-in_err-path : goal.returns-in_err-path
returns-in_err-path g c =
    let p = err_from_is_err_and c.from_residual-in_err-path.result c.from_residual-in_err-path.ensures.1 in
    let a = c.in_ok-text.ensures in
    breaks_line _ (line.Append c.args.template.now) _ _ _ _ _ p.1 p.2 a.only (λ n rest. starve_reached _ n _ _ _ _ (a.fills n false (λ midway text. doing n midway (command.Append (codes "__appendfile") (ended text)) rest)).1)

pub returns-in_err-content : goal.returns-in_err-content
returns-in_err-content g c =
    let p = err_from_is_err_and c.from_residual-in_err-content.result c.from_residual-in_err-content.ensures.1 in
    let a = c.in_ok-text.ensures in
    breaks_line _ (line.Append c.args.template.now) _ _ _ _ _ p.1 p.2 a.only (λ n rest. starve_reached _ n _ _ _ _ (a.fills n false (λ midway text. doing n midway (command.Append (codes "__appendfile") (ended text)) rest)).1)

pub returns : goal.returns
returns g c =
    let a = c.in_ok-text.ensures in
    let e : c.does.result ≡ Does (command.Append (codes "__appendfile") (ended c.in_ok-text.text)) = cc (c.in_ok-push.ensures.ok, c.in_ok-path.ensures, c.in_ok-content.ensures) in
    does_line _ (line.Append c.args.template.now) _ _ _ _ e tt a.only (λ n rest. a.fills n false (λ midway text. doing n midway (command.Append (codes "__appendfile") (ended text)) rest))
