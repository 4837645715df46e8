use Rattle.std.proofs.Common.{List, ℕ, Ok, Err, subst}
use Rattle.rel_eval.specs.Answers.{Prepares}
use Rattle.rel_eval.specs.Questions.{plan_of}
use Rattle.site_check.proofs.Judging.{no_truth_is_judged}
use Rattle.site_check.proofs.piece_check.question_fault.Goals as goal

pub returns : goal.returns
returns c =
    let P : List ℕ → Type 0 = λ text. Prepares text (Ok c.in-Ok.question) in
    no_truth_is_judged c.args.text.now (plan_of c.in-Ok.question) c.in-Some.kind c.span.result
    (subst P c.as_bytes.ensures.value c.in-Ok.ensures)
    c.in-Some.ensures c.span.ensures

pub returns-in-Err : goal.returns-in-Err
returns-in-Err c =
    let P : List ℕ → Type 0 = λ text. Prepares text (Err c.in-Err.refusal) in
    c.in_ok-unprepared-in-Err.ensures c.args.text.now (subst P c.as_bytes.ensures.value c.in-Err.ensures)
