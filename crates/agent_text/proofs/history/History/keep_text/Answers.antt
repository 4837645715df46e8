use Rattle.std.proofs.Common.{ℕ, ◌≡◌, length, ap, arith}
use Rattle.agent_text.specs.Histories.{shown_history}
use Rattle.agent_text.proofs.SavedBytes.{history_short}
use Rattle.agent_text.proofs.history.History.keep_text.Goals as goal

pub fill_lines-requires : goal.fill_lines-requires
fill_lines-requires c =
    let short = history_short (shown_history c.args.self.now) c.requires.good in
    let empty : length c.in_ok-room.room.bytes ≡ 0 = ap (length {A = ℕ}) c.in_ok-room.ensures.0 in
    omega (arith, short, empty, c.in_ok-room.ensures.1, c.in-Some.ensures)
