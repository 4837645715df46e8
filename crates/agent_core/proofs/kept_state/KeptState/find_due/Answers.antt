use Rattle.std.proofs.Common.{◌<◌, ◌≤◌, ◌∷◌, [], length, refl, sym, subst, arith, Ok, None}
use Rattle.std.proofs.lemmas.List.{drop_all}
use Rattle.std.proofs.lemmas.Result.{err_from_is_err_and}
use Rattle.agent_core.specs.Inside.{state_of}
use Rattle.agent_core.specs.Steps.{FindsDue}
use Rattle.agent_core.proofs.Due.{said_not}
use Rattle.agent_core.proofs.Searching.{finds_next, finds_stop, finds_untried, shown_actions}
use Rattle.agent_core.proofs.kept_state.KeptState.find_due.Goals as goal

pub loop-place-init : goal.loop-place-init
loop-place-init g c = λ answer later h. subst (λ l. FindsDue c.args.time.now (state_of c.args.self.now) c.args.marked.now l (g.M.Machine.told c.args.machine.now) answer later) c.actions-block-items.ensures h

pub loop-place-preserved-then-not-may_try : goal.loop-place-preserved-then-not-may_try
loop-place-preserved-then-not-may_try g c =
    let below : c.loop-place.place < length c.actions-block-items.result.now = omega arith in
    finds_next c.args.time.now (state_of c.args.self.now) c.args.marked.now c.actions-block-items.result.now c.loop-place.place c.block-item.result _ _ _ below c.block-item.is c.loop-place.invariant
    (finds_untried c.args.time.now (state_of c.args.self.now) c.block-item.result c.args.marked.now _ (said_not c.may_try.result _ c.if-not-may_try.true c.may_try.ensures.1))

pub loop-place-preserved : goal.loop-place-preserved
loop-place-preserved g c =
    let below : c.loop-place.place < length c.actions-block-items.result.now = omega arith in
    finds_next c.args.time.now (state_of c.args.self.now) c.args.marked.now c.actions-block-items.result.now c.loop-place.place c.block-item.result _ _ _ below c.block-item.is c.loop-place.invariant
    (subst (λ o. FindsDue c.args.time.now (state_of c.args.self.now) c.args.marked.now (shown_actions (c.block-item.result ∷ [])) (g.M.Machine.told c.loop-place.machine) (Ok o) (g.M.Machine.told c.try_block.new.machine)) c.in_default.is c.in_ok-attempt.ensures)

pub returns-in_err-attempt : goal.returns-in_err-attempt
returns-in_err-attempt g c =
    let below : c.loop-place.place < length c.actions-block-items.result.now = omega arith in
    let p = err_from_is_err_and c.from_residual.result c.from_residual.ensures.1 in
    rw (p.1, p.2) (finds_stop c.args.time.now (state_of c.args.self.now) c.args.marked.now c.actions-block-items.result.now c.loop-place.place c.block-item.result _ _ _ _ below c.block-item.is (λ e. cc) c.loop-place.invariant c.in_err-attempt.ensures)

pub returns-in-Some : goal.returns-in-Some
returns-in-Some g c =
    let below : c.loop-place.place < length c.actions-block-items.result.now = omega arith in
    finds_stop c.args.time.now (state_of c.args.self.now) c.args.marked.now c.actions-block-items.result.now c.loop-place.place c.block-item.result _ _ _ _ below c.block-item.is (λ e. cc) c.loop-place.invariant
    (subst (λ o. FindsDue c.args.time.now (state_of c.args.self.now) c.args.marked.now (shown_actions (c.block-item.result ∷ [])) (g.M.Machine.told c.loop-place.machine) (Ok o) (g.M.Machine.told c.try_block.new.machine)) c.in-Some.is c.in_ok-attempt.ensures)

pub returns : goal.returns
returns g c =
    let end : length c.actions-block-items.result.now ≤ c.loop-place.place = omega arith in
    c.loop-place.invariant _ _ (subst (λ l. FindsDue c.args.time.now (state_of c.args.self.now) c.args.marked.now (shown_actions l) (g.M.Machine.told c.loop-place.machine) (Ok None) (g.M.Machine.told c.loop-place.machine)) (sym (drop_all c.loop-place.place c.actions-block-items.result.now end)) (refl, refl))
