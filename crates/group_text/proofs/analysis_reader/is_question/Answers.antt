use Rattle.std.proofs.Common.{ℕ, List, Ok, Err, refl, subst, sym, ◌∙◌}
use Rattle.rel_eval.specs.Answers.{Prepares}
use Rattle.group_text.proofs.AnalysisReading.{not_prepared, prepared}
use Rattle.group_text.proofs.analysis_reader.is_question.Goals as goal

pub returns-in-Ok : goal.returns-in-Ok
returns-in-Ok c =
    let P : List ℕ → Type 0 = λ text. Prepares text (Ok c.in-Ok.field-0) in
    ((λ yes. prepared c.args.text.now c.in-Ok.field-0 (subst P c.as_bytes.ensures.value c.in-Ok.ensures)), (λ is. refl))

pub returns-in-Some : goal.returns-in-Some
returns-in-Some c =
    let P : List ℕ → Type 0 = λ text. Prepares text (Err c.in-Err.refusal) in
    ((λ yes. absurd (cc)), (λ is. absurd (not_prepared c.args.text.now c.in-Err.refusal c.in-Some.field-0 (subst P c.as_bytes.ensures.value c.in-Err.ensures) (sym c.located.ensures ∙ c.in-Some.is) is)))
