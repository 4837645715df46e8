use Rattle.std.proofs.Common.{◌∙◌}
use Rattle.agent_attempt.proofs.Reading.{no_question, no_memory, found_none, is_plan}
use Rattle.agent_attempt.proofs.clause.question_of.Goals as goal
use Rattle.agent_attempt.proofs.clause.question_of.Goals.{in-Memory, in_default}

pub returns-in-Ok : goal.returns-in-Ok
returns-in-Ok c = is_plan _ c.args.text.now c.in-Ok.question (c.as_bytes.ensures.value ∙ c.as_str.ensures) c.in-Ok.ensures

pub returns-after-refusal : goal.returns-after-refusal
returns-after-refusal c =
    elim c.match-refusal.branch [
      | in-Memory w ↦ no_memory c.args.text.now c.match-refusal.result _ w.result-is
      | in_default w ↦ found_none c.args.text.now c.match-refusal.result w.result-is
          (no_question _ c.args.text.now c.in-Err.refusal (c.as_bytes.ensures.value ∙ c.as_str.ensures) w.in_default.not-Memory c.in-Err.ensures)
    ]
