use Rattle.std.proofs.lemmas.Result.{err_from_is_err_and}
use Rattle.bf_machine.proofs.Looking.{OnlyLooks-trans}
use Rattle.script_run.specs.LineWalks.{filled}
use Rattle.script_run.proofs.Chains.{reach_then, breaks_after}
use Rattle.script_run.proofs.Preparing.{asks_err}
use Rattle.script_run.proofs.filling.two.Goals as goal

pub returns : goal.returns
returns g c = record {
  fills = λ line midway behind.
      let a = c.in_ok-first.ensures.fills line midway (λ midway text. filled line midway c.args.second.now (λ midway. behind midway text)) in
      let b = c.in_ok-second.ensures.fills line a.0 (λ midway. behind midway c.in_ok-first.first) in
      (b.0, reach_then _ _ _ _ _ _ _ _ a.1 b.1);
  only = OnlyLooks-trans c.in_ok-first.ensures.only c.in_ok-second.ensures.only;
}

pub returns-in_err-second : goal.returns-in_err-second
returns-in_err-second g c =
    let p = err_from_is_err_and c.from_residual-in_err-second.result c.from_residual-in_err-second.ensures.1 in
    asks_err _ _ _ _ _ _ _ _ p.1 p.2
    (λ line midway behind.
    let a = c.in_ok-first.ensures.fills line midway (λ midway text. filled line midway c.args.second.now (λ midway. behind midway text)) in
    breaks_after _ line _ _ _ _ _ _ _ a.1 (c.in_err-second.ensures.fills line a.0 (λ midway. behind midway c.in_ok-first.first)))
    (OnlyLooks-trans c.in_ok-first.ensures.only c.in_err-second.ensures.only)
