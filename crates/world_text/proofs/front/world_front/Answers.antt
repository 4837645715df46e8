use Rattle.std.proofs.Common.{◌≡◌, ◌≢◌, ℕ, ◌+◌, ◌-◌, List, length, take, drop, inl, inr, refl, sym, ◌∙◌, arith, eq-eqb, append-nil, length-drop}
use Rattle.std.specs.Prelude.{codes}
use Rattle.std.proofs.lemmas.Grind.{common_steps}
use Rattle.std.proofs.lemmas.Bool.{eqb-true, false≢true}
use Rattle.std.proofs.lemmas.Bool.Decides.{Decides-eqb}
use Rattle.std.proofs.lemmas.Slice.Eq.{slice_eq-Decides}
use Rattle.std.proofs.lemmas.List.{take-append-drop}
use Rattle.world_text.proofs.Splitting.{IsNext, behind_start, step_on, step_end, step_none}
use Rattle.world_text.proofs.front.world_front.Goals as goal

-- what `&input[n..]` and `&input[at..at + far]` are
rest_from : (n : ℕ) (text : List ℕ) → take (length text - n) (drop n text) ≡ drop n text
rest_from n text = grind (arith, common_steps)

part_from : (at far : ℕ) (text : List ℕ) → take (at + far - at) (drop at text) ≡ take far (drop at text)
part_from at far text = let e : at + far - at ≡ far = omega arith in rw e refl

pub loop-length-init : goal.loop-length-init
loop-length-init c = record { within = omega arith; behind = behind_start }

pub returns-then-eq : goal.returns-then-eq
returns-then-eq c =
    let input = c.args.text.now in
    let at = c.loop-length.at in
    let far = c.in-Some.length in
    let found = rw rest_from at c.in-Some.ensures in
    let next : IsNext input at far = record {
      high = found.0.high;
      none = λ k below is. found.0.before k (omega arith) below (eq-eqb _ 10 is);
      here = eqb-true _ 10 found.1;
    } in
    let same = slice_eq-Decides Decides-eqb _ c.as_slice.result.now c.eq.result c.eq.ensures in
    let is : take far (drop at input) ≡ codes "end" = sym (part_from at far input) ∙ same.0 c.if-eq.true ∙ c.as_slice.ensures in
    (rw rest_from (sym (take-append-drop (at + (far + 1)) input)), inl (step_end input at far next c.loop-length.invariant.behind is))

pub loop-length-preserved : goal.loop-length-preserved
loop-length-preserved c =
    let input = c.args.text.now in
    let at = c.loop-length.at in
    let far = c.in-Some.length in
    let found = rw rest_from at c.in-Some.ensures in
    let next : IsNext input at far = record {
      high = found.0.high;
      none = λ k below is. found.0.before k (omega arith) below (eq-eqb _ 10 is);
      here = eqb-true _ 10 found.1;
    } in
    let same = slice_eq-Decides Decides-eqb _ c.as_slice.result.now c.eq.result c.eq.ensures in
    let other : take far (drop at input) ≢ codes "end" =
    λ is. false≢true (sym c.if-eq.false ∙ same.1 (part_from at far input ∙ is ∙ sym c.as_slice.ensures)) in
    record { within = omega (arith, next.high, length-drop at input); behind = step_on input at far next c.loop-length.invariant.behind other }

pub returns : goal.returns
returns c =
    let none = rw rest_from at c.in_default.ensures in (
      sym (append-nil c.args.text.now),
      inr (step_none c.args.text.now c.loop-length.at (λ k below is. none k (omega arith) below (eq-eqb _ 10 is)) c.loop-length.invariant.behind, refl),
    )
