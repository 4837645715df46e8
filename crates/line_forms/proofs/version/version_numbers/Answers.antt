use Rattle.std.proofs.Common.{◌≡◌, ◌++◌, [], ◌∷◌, List, ℕ, ap, subst, sym, ◌∙◌}
use Rattle.std.specs.Str.Parse.{digits_value}
use Rattle.line_forms.proofs.Pieces.{pieces-none, pieces-cut}
use Rattle.line_forms.proofs.VersionLemmas.{SoFar, step, bad, full, reads-last}
use Rattle.line_forms.proofs.version.version_numbers.Goals as goal

pub returns-in_err-version_number : goal.returns-in_err-version_number
returns-in_err-version_number c = rw c.from_residual.ensures (bad _ _ _ _ _ c.loop-cut.invariant (pieces-cut 46 _ _ _ c.in-Some.ensures) c.in_err-version_number.ensures)

pub returns-in_err-numbers : goal.returns-in_err-numbers
returns-in_err-numbers c = rw c.from_residual-in_err-numbers.ensures (full _ _ _ c.loop-cut.invariant c.in_err-numbers.ensures)

pub loop-cut-preserved : goal.loop-cut-preserved
loop-cut-preserved c =
    let first = c.in-Some.cut.first.now in
    let rest = c.in-Some.cut.rest.now in
    let e : c.in_ok-numbers.numbers ≡ c.loop-cut.numbers ++ digits_value 10 first ∷ [] = c.in_ok-numbers.ensures.1 ∙ ap (λ n. c.loop-cut.numbers ++ n ∷ []) c.in_ok-version_number.ensures.1 in
    let P : List ℕ → Type 0 = λ numbers. SoFar c.args.text.now numbers rest in
    subst P (sym e) (step _ _ _ first rest c.loop-cut.invariant c.in-Some.ensures c.in_ok-version_number.ensures.0)

pub returns-in_err-version_number-2 : goal.returns-in_err-version_number-2
returns-in_err-version_number-2 c = rw c.from_residual-in_err-version_number-2.ensures (bad _ _ _ _ _ c.loop-cut.invariant (pieces-none 46 _ c.in_default.ensures) c.in_err-version_number-2.ensures)

pub returns : goal.returns
returns c = reads-last c.args.text.now c.loop-cut.numbers c.loop-cut.left.now c.in_ok-version_number-2.field-0 c.with-2.result c.loop-cut.invariant c.in_default.ensures c.in_ok-version_number-2.ensures.0 c.in_ok-version_number-2.ensures.1 c.with-2.ensures
