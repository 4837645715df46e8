use Rattle.std.proofs.Common.{◌≤◌, List, take}
use Rattle.server_text.specs.Entries.{Entry}
use Rattle.server_core.specs.CallAnswers.{AnswersAll, AreTables, CountsReplies}
use Rattle.server_core.proofs.run.answer_all.Given as goal

-- the requests so far were answered
abbrev pub invariant-loop-request : goal.invariant-loop-request
invariant-loop-request g l =
    let old = g.K.Keeper.told l.fn.keeper in
    let new = g.K.Keeper.told l.keeper in
    record {
      answers : (accepted : List Entry) → AreTables old.rows accepted
          → (last : List Entry) × AnswersAll l.server.limits accepted (take l.request-index l.requests) l.replies last
          × AreTables new.rows last;
      counts : CountsReplies l.replies old.faults new.faults;
      later : old.faults ≤ new.faults;
    }
