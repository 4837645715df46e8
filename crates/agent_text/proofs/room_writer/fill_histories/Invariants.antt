use Rattle.std.proofs.Common.{take}
use Rattle.std.specs.Prelude.{flat_map}
use Rattle.desk_base.specs.Rooms.{Fills}
use Rattle.agent_text.specs.Histories.{shown_history}
use Rattle.agent_text.specs.HistoryLines.{history_text}
use Rattle.agent_text.proofs.room_writer.fill_histories.Given as goal

-- the histories so far were appended
abbrev pub invariant-loop-history : goal.invariant-loop-history
invariant-loop-history l =
    Fills l.fn.room l.room (flat_map (λ h. history_text (shown_history h)) (take l.history-index l.histories))
