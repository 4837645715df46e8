use Rattle.std.proofs.Common.{false, rules, SFits, w64, ap, subst, ◌∙◌}
use Rattle.std.specs.Prelude.{Ok}
use Rattle.std.proofs.lemmas.Int.{to_z-of_z}
use Rattle.std.proofs.lemmas.Result.{err_from_is_err_and}
use Rattle.bf_world.specs.declared.command.Command.TheVariants as command
use Rattle.bf_machine.proofs.Looking.{OnlyLooks-trans}
use Rattle.script_text.specs.declared.line.Line.TheVariants as line
use Rattle.rel_value.specs.TimesRead.{time_of}
use Rattle.script_run.specs.Walks.{doing}
use Rattle.script_run.specs.LineWalks.{dated, timed}
use Rattle.script_run.specs.RunSteps.{IsTextOf}
use Rattle.script_run.specs.Fills.{ReadsTime, asks_after}
use Rattle.script_run.proofs.Chains.{starve_reached, breaks_after}
use Rattle.script_run.proofs.Midway.{put_asked, put_midway}
use Rattle.script_run.proofs.Preparing.{breaks_line, does_line, timed_some, timed_none, undated_line}
use Rattle.script_run.proofs.lines.puts.Goals as goal

pub returns-in_err-both : goal.returns-in_err-both
returns-in_err-both g c =
    let p = err_from_is_err_and c.from_residual.result c.from_residual.ensures.1 in
    let a = c.in_err-both.ensures in
    breaks_line _ (line.Setting c.args.name.now c.args.value.now c.args.date.now) _ _ _ _ _ p.1 p.2 a.only
    (λ n rest. a.fills n false (λ midway name value. dated n midway c.args.date.now (λ midway moment. doing n midway (command.Put name value moment) rest)))

pub returns-in_err-date : goal.returns-in_err-date
returns-in_err-date g c =
    let p = err_from_is_err_and c.from_residual-in_err-date.result c.from_residual-in_err-date.ensures.1 in
    let a = c.in_ok-both.ensures in
    let b = c.in_err-date.ensures in
    breaks_line _ (line.Setting c.args.name.now c.args.value.now c.args.date.now) _ _ _ _ _ p.1 p.2 (OnlyLooks-trans a.only b.only)
    (λ n rest.
    let x = a.fills n false (λ midway name value. dated n midway c.args.date.now (λ midway moment. doing n midway (command.Put name value moment) rest)) in
    breaks_after _ n _ _ _ _ _ _ _ x.1 (b.fills n x.0 (λ midway text. timed n midway (time_of text) (λ moment. doing n midway (command.Put c.in_ok-both.both.first c.in_ok-both.both.second moment) rest))))

pub returns-in_err-moment : goal.returns-in_err-moment
returns-in_err-moment g c =
    let p = err_from_is_err_and c.from_residual-in_err-moment.result c.from_residual-in_err-moment.ensures.1 in
    let a = c.in_ok-both.ensures in
    let b = c.in_ok-date.ensures in
    breaks_line _ (line.Setting c.args.name.now c.args.value.now c.args.date.now) _ _ _ _ _ p.1 p.2 (OnlyLooks-trans a.only b.only)
    (λ n rest. starve_reached _ n _ _ _ _ (put_asked _ c.args.name.now c.args.value.now c.args.date.now _ c.in_ok-both.both _ c.in_ok-date.date _ a b n rest))

pub returns-in-Some : goal.returns-in-Some
returns-in-Some g c =
    let fits : SFits w64 c.in-Some.date = search rules in
    let a = c.in_ok-both.ensures in
    let b = c.in_ok-date.ensures in
    let t = subst (λ o. ReadsTime c.in_ok-date.date (Ok o)) c.in-Some.is c.in_ok-moment.ensures in
    let last = put_midway c.args.name.now c.args.value.now c.args.date.now in
    does_line _ (line.Setting c.args.name.now c.args.value.now c.args.date.now) _ _ _ _ (simp to_z-of_z at c.does.ensures) t.0 (OnlyLooks-trans a.only b.only)
    (λ n rest. (last, timed_some (IsTextOf n) _ _ _ _ n last c.in_ok-date.date c.in-Some.date (λ moment. doing n last (command.Put c.in_ok-both.both.first c.in_ok-both.both.second moment) rest) _ (put_asked _ c.args.name.now c.args.value.now c.args.date.now _ c.in_ok-both.both _ c.in_ok-date.date _ a b n rest) t.1))

pub returns-in-None : goal.returns-in-None
returns-in-None g c =
    let a = c.in_ok-both.ensures in
    let b = c.in_ok-date.ensures in
    let none = subst (λ o. ReadsTime c.in_ok-date.date (Ok o)) c.in-None.is c.in_ok-moment.ensures in
    let last = put_midway c.args.name.now c.args.value.now c.args.date.now in
    undated_line _ (line.Setting c.args.name.now c.args.value.now c.args.date.now) _ _ _ last (c.midway_behind-midway.ensures ∙ ap (λ w. asks_after w c.args.date.now.parts) (c.midway_behind-valued.ensures ∙ ap (λ w. asks_after w c.args.value.now.parts) c.midway_behind-named.ensures)) (OnlyLooks-trans a.only b.only)
    (λ n rest. timed_none (IsTextOf n) _ _ _ _ n last c.in_ok-date.date (λ moment. doing n last (command.Put c.in_ok-both.both.first c.in_ok-both.both.second moment) rest) _ (put_asked _ c.args.name.now c.args.value.now c.args.date.now _ c.in_ok-both.both _ c.in_ok-date.date _ a b n rest) none)
