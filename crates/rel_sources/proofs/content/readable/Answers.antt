use Rattle.std.proofs.Common.{◌≡◌, ◌++◌, ℕ, List, [], ◌∷◌, take, sym, ap, subst, ◌∙◌, arith}
use Rattle.std.proofs.lemmas.Grind.{common_steps}
use Rattle.std.specs.Str.{IsValidUpTo}
use Rattle.rel_sources.proofs.Wrong.{readable-valid, wrong-step}
use Rattle.rel_sources.proofs.content.readable.Goals as goal

pub loop-rest-preserved : goal.loop-rest-preserved
loop-rest-preserved c =
    let n = c.valid_up_to-valid.result in
    let left = c.loop-rest.left.now in
    let up : IsValidUpTo left n = subst (λ (k : ℕ). IsValidUpTo left k) (sym c.valid_up_to-valid.ensures) c.in-Err.ensures.cases.1 in
    let front : c.push_text.new.text ≡ c.loop-rest.text ++ take n left = grind (arith, common_steps) in
    let mark : c.push-in-Err.new.self ≡ c.push_text.new.text ++ (63 ∷ []) = c.in_ok-push-in-Err.ensures.ok in
    wrong-step c.loop-rest.text left c.args.bytes.now c.push_text.new.text c.push-in-Err.new.self _ n up c.loop-rest.invariant front mark (grind (arith, common_steps))

pub returns-in-Ok : goal.returns-in-Ok
returns-in-Ok c =
    let is = c.in-Ok.ensures.cases in
    c.in_ok-push-in-Ok.ensures.ok ∙ ap (λ (x : List ℕ). c.loop-rest.text ++ x) (is.0 ∙ sym (readable-valid c.loop-rest.left.now is.1)) ∙ c.loop-rest.invariant
