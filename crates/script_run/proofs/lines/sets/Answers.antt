use Rattle.std.proofs.Common.{false}
use Rattle.std.proofs.lemmas.Result.{err_from_is_err_and}
use Rattle.script_text.specs.declared.line.Line.TheVariants as line
use Rattle.script_run.specs.LineWalks.{setting}
use Rattle.script_run.proofs.Chains.{starve_reached}
use Rattle.script_run.proofs.Midway.{asked_one}
use Rattle.script_run.proofs.Preparing.{breaks_line}
use Rattle.script_run.proofs.lines.sets.Goals as goal

pub returns-in_err-name : goal.returns-in_err-name
returns-in_err-name g c =
    let p = err_from_is_err_and c.from_residual-in_err-name.result c.from_residual-in_err-name.ensures.1 in
    let a = c.in_ok-value.ensures in
    breaks_line _ (line.Parameter c.args.name.now c.args.value.now) _ _ _ _ _ p.1 p.2 a.only (λ n rest. starve_reached _ n _ _ _ _ (a.fills n false (λ midway text. setting n midway c.args.name.now text rest)).1)

pub returns : goal.returns
returns g c =
    let a = c.in_ok-value.ensures in
    record {
      prepares = λ n rest. rw (c.in_ok-name.ensures, c.midway_behind-midway.ensures) (asked_one _ c.args.value.now _ _ _ a n false (λ midway text. setting n midway c.args.name.now text rest));
      date = tt;
      only = a.only;
    }
