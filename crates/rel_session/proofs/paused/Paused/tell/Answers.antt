use Rattle.std.proofs.Common.{refl, ◌∙◌}
use Rattle.std.proofs.lemmas.Result.{err_from_is_err_and}
use Rattle.bf_machine.proofs.Looking.{OnlyLooks-refl, OnlyLooks-trans}
use Rattle.rel_session.proofs.Lasting.{ToldSoFar-start, ToldSoFar-on, ToldSoFar-flushed, ToldSoFar-out, ToldSoFar-stays, ToldSoFar-unwritten}
use Rattle.rel_session.proofs.paused.Paused.tell.Goals as goal

pub page-init : goal.page-init
page-init g c = record {
  so_far = ToldSoFar-start _ _;
  span = refl;
  looks = OnlyLooks-refl _;
  steady = refl;
}

pub page-preserved : goal.page-preserved
page-preserved g c =
    let before = c.page.invariant in
    let step = c.in_ok-left.ensures in
    let long = c.in_ok-flush_long.ensures in
    record {
      so_far =
          let told = rw (before.span, before.looks.world) at step.told in
          ToldSoFar-flushed _ _ _ _ _ _ _ _ (ToldSoFar-on _ _ _ _ _ _ _ _ _ _ _ _ c.in-On.is before.so_far told) long.written;
      span = step.span ∙ before.span;
      looks = OnlyLooks-trans before.looks step.looks;
      steady = long.counts.steady (λ e. cc) ∙ before.steady;
    }

pub returns-in_err-left-clause-told : goal.returns-in_err-left-clause-told
returns-in_err-left-clause-told g c =
    let before = c.page.invariant in
    let p = err_from_is_err_and c.from_residual.result c.from_residual.ensures.1 in
    let stays = rw (before.span, before.looks.world) at c.in_err-left.ensures.told in
    rw p.1 (ToldSoFar-stays _ _ _ _ _ _ _ _ before.so_far stays)

pub returns-in-Out-clause-told : goal.returns-in-Out-clause-told
returns-in-Out-clause-told g c =
    let before = c.page.invariant in
    let told = rw (before.span, before.looks.world) at c.in_ok-left.ensures.told in
    ToldSoFar-out _ _ _ _ _ _ _ _ _ _ _ _ c.in-Out.is before.so_far told

pub returns-in_err-flush_long-clause-told : goal.returns-in_err-flush_long-clause-told
returns-in_err-flush_long-clause-told g c =
    let before = c.page.invariant in
    let p = err_from_is_err_and c.from_residual-in_err-flush_long.result c.from_residual-in_err-flush_long.ensures.1 in
    let told = rw (before.span, before.looks.world) at c.in_ok-left.ensures.told in
    rw p.1 (ToldSoFar-unwritten _ _ _ _ _ _ _ _ _ _ _ (ToldSoFar-on _ _ _ _ _ _ _ _ _ _ _ _ c.in-On.is before.so_far told) c.in_err-flush_long.ensures.written)
