use Rattle.std.proofs.Common.{◌≡◌, ℕ, Bool, true, eqb, List, [], ◌∷◌, length, ◌∙◌, refl, sym, ap, arith}
use Rattle.std.proofs.lemmas.Bool.{eqb-true}
use Rattle.std.proofs.lemmas.Result.{err_from_is_err_and}
use Rattle.bf_machine.proofs.Looking.{OnlyLooks-refl, OnlyLooks-trans}
use Rattle.rel_session.specs.Lines.{lines_of}
use Rattle.rel_session.proofs.Running.{RanSoFar-start, RanSoFar-step, RanSoFar-stop, RanSoFar-end}
use Rattle.rel_session.proofs.lines.answer_lines.Goals as goal

pub loop-rest-init : goal.loop-rest-init
loop-rest-init g c = record {
  so_far = rw (c.new-session.ensures.fresh _) (RanSoFar-start _ _ _ _ _ _);
  few = c.new-session.ensures.few;
  looks = OnlyLooks-refl _;
  steady = refl;
  clock_steady = refl;
}

pub loop-rest-preserved : goal.loop-rest-preserved
loop-rest-preserved g c =
    let before = c.loop-rest.invariant in
    let now = c.in_ok-run_line.ensures in
    record {
      so_far =
          let ran = rw before.looks.world at now.ran in
          RanSoFar-step _ _ _ _ _ _ _ _ _ _ c.first_line.result.0.now _ _ ran.0 ran.1 before.so_far c.first_line.ensures.lines ran.2 ran.3;
      few = now.few;
      looks = OnlyLooks-trans before.looks now.only.looks;
      steady = now.only.sink.steady (λ e. cc) ∙ before.steady;
      clock_steady = now.only.clock.steady (λ e. cc) ∙ before.clock_steady;
    }

pub returns-in_err-run_line-clause-ran : goal.returns-in_err-run_line-clause-ran
returns-in_err-run_line-clause-ran g c =
    let before = c.loop-rest.invariant in
    let ran = rw before.looks.world at c.in_err-run_line.ensures.ran in
    let p = err_from_is_err_and c.from_residual.result c.from_residual.ensures.1 in
    rw p.1 (RanSoFar-stop _ _ _ _ _ _ _ _ _ c.first_line.result.0.now _ _ ran.0 ran.1 before.so_far c.first_line.ensures.lines ran.2 ran.3)

none_left : (rest : List ℕ) (empty : Bool) → empty ≡ eqb (length rest) 0 → empty ≡ true → rest ≡ []
none_left [] empty is left = refl
none_left (byte ∷ bytes) empty is left =
    let none : length (byte ∷ bytes) ≡ 0 = eqb-true _ 0 (sym is ∙ left) in
    absurd (omega arith)

pub returns-clause-ran : goal.returns-clause-ran
returns-clause-ran g c =
    RanSoFar-end _ _ _ _ _ _ _ _ _ c.loop-rest.invariant.so_far (ap lines_of (none_left _ _ c.is_empty.ensures c.loop-rest-test.false))
