use Rattle.std.proofs.Common.{◌≡◌, List, Some, subst, ◌∙◌}
use Rattle.server_text.specs.Entries.{Entry}
use Rattle.server_core.specs.declared.limits.Limits.{Limits}
use Rattle.server_core.specs.CallAnswers.{Answers, AreTables}
use Rattle.server_core.specs.DeskLimits.{desk_limits}
use Rattle.office_play.proofs.Answered.{answered, not_fault}
use Rattle.office_play.proofs.asking.answer.Goals as goal

pub returns-in_default : goal.returns-in_default
returns-in_default c =
    let limits : c.new-server.result.limits ≡ desk_limits = c.new-server.ensures ∙ c.of_the_desk.ensures in
    let rows = c.args.keeper.now in
    let more = c.answer.new.keeper in
    record {
      answers = answered c.args.request.now c.answer.result rows more
          (not_fault c.answer.result c.in_default.not-KeeperFault c.in_default.not-Memory)
          (subst (λ (l : Limits). (accepted : List Entry) → AreTables (Some rows) accepted
          → (later : List Entry) × Answers l accepted c.args.request.now c.answer.result later × AreTables (Some more) later) limits c.answer.ensures.answers)
          c.answers_leave_what_is_accepted.ensures.one;
      err = tt;
    }
