-- What was taken before a turn suffices for its end.
use Rattle.std.proofs.Common.{ℕ, ◌≡◌, ◌+◌, ◌≤◌, ℤ, length, refl, ap, sym, ◌∙◌, arith}
use Rattle.std.specs.declared.option.Option.{Option}
use Rattle.std.specs.Prelude.{IsSomeAnd}
use Rattle.desk_base.specs.Rooms.{RoomState}
use Rattle.act_rules.specs.declared.row.Note.{Note}
use Rattle.act_rules.specs.declared.row.Outcome.{Outcome}
use Rattle.act_rules.specs.declared.row.Row.{Row}
use Rattle.act_rules.specs.Rows.{last_row}
use Rattle.report_text.specs.declared.report.Report.{Report}
use Rattle.agent_text.specs.declared.pocket.SaveResult.{SaveResult}
use Rattle.agent_text.specs.declared.pocket.SaveResult.TheVariants as save
use Rattle.agent_text.specs.Histories.{rows_at, with_ended}
use Rattle.agent_text.specs.SavedTexts.{most_bytes}
use Rattle.agent_attempt.specs.Stages.{AttemptState}
use Rattle.agent_state.specs.Counting.{pending_count}
use Rattle.agent_core.specs.declared.kept_state.KeptState.{KeptState}
use Rattle.agent_state.specs.declared.spare.Spare.{Spare}
use Rattle.agent_core.specs.Inside.{IsSoundKept, state_of}
use Rattle.agent_state.specs.States.{State, with_histories}
use Rattle.agent_core.specs.Steps.{Suffices, after_save}
use Rattle.agent_core.proofs.HistoryAt.{ended_size}

-- as much suffices for another state that needs no more
pub fits : (less more : ℕ) (spare : Spare) (old new : KeptState) → new.name ≡ old.name → new.outbox.reports ≡ old.outbox.reports → new.outbox.capacity ≡ old.outbox.capacity
    → most_bytes new.histories old.outbox.reports ≡ most_bytes old.histories old.outbox.reports → pending_count new.histories + less ≤ pending_count old.histories + more
    → Suffices more spare old → Suffices less spare new
fits less more spare old new name reports capacity bytes count is =
    let size : most_bytes new.histories new.outbox.reports ≡ most_bytes old.histories old.outbox.reports = ap (most_bytes new.histories) reports ∙ bytes in
    let many : length new.outbox.reports ≡ length old.outbox.reports = ap (length {A = Report}) reports in
    record {
      computer = is.computer ∙ sym name;
      empty = is.empty;
      rows = omega (arith, is.rows, count);
      text = omega (arith, is.text, size, count);
      outbox = omega (arith, is.outbox, many, capacity);
    }

-- where an attempt is held
pub suffices_held : (spare : Spare) (kept : KeptState) (held : Option AttemptState) → Suffices 1 spare kept → Suffices 0 spare (record kept { held = held })
suffices_held spare kept held is = fits 0 1 spare kept (record kept { held = held }) refl refl refl refl (omega arith) is

-- after an attempt has ended
pub suffices_ended : (spare : Spare) (old new : KeptState) (action : ℕ) (moment : ℤ) (outcome : Outcome) (note : Note) (P : Row → Type 0) → IsSoundKept old → IsSomeAnd (last_row (rows_at action old.histories)) P
    → state_of new ≡ with_histories (with_ended action moment outcome note old.histories) (state_of old) → new.outbox ≡ old.outbox → Suffices 1 spare old → Suffices 0 spare new
suffices_ended spare old new action moment outcome note P sound last state outbox is =
    let hs : new.histories ≡ with_ended action moment outcome note old.histories = ap (λ (s : State). s.histories) state in
    let size = ended_size action moment outcome note P old.histories old.outbox.reports sound.sound.saved.histories last in
    let count : pending_count new.histories ≡ pending_count (with_ended action moment outcome note old.histories) = ap pending_count hs in
    fits 0 1 spare old new (ap (λ (s : State). s.computer) state) (ap (λ o. o.reports) outbox) (ap (λ o. o.capacity) outbox)
    (ap (λ l. most_bytes l old.outbox.reports) hs ∙ size.0) (omega (arith, size.1, count)) is

-- a save changes nothing that matters here
kept_computer : (result : SaveResult) (s : State) → (after_save result s).computer ≡ s.computer
kept_computer save.Done s = refl
kept_computer save.Failed s = refl
kept_computer save.Memory s = refl

kept_histories : (result : SaveResult) (s : State) → (after_save result s).histories ≡ s.histories
kept_histories save.Done s = refl
kept_histories save.Failed s = refl
kept_histories save.Memory s = refl

kept_reports : (result : SaveResult) (s : State) → (after_save result s).reports ≡ s.reports
kept_reports save.Done s = refl
kept_reports save.Failed s = refl
kept_reports save.Memory s = refl

-- after a save, with the room for a text that is left
pub suffices_saved : (more : ℕ) (spare : Spare) (text : RoomState) (old new : KeptState) (result : SaveResult) → state_of new ≡ after_save result (state_of old) → new.outbox.capacity ≡ old.outbox.capacity → spare.text.capacity ≤ text.capacity
    → Suffices more spare old → Suffices more (record spare { text = text }) new
suffices_saved more spare text old new result state capacity room is =
    let hs : new.histories ≡ old.histories = ap (λ (s : State). s.histories) state ∙ kept_histories result (state_of old) in
    let same = fits more more spare old new (ap (λ (s : State). s.computer) state ∙ kept_computer result (state_of old)) (ap (λ (s : State). s.reports) state ∙ kept_reports result (state_of old)) capacity
    (ap (λ l. most_bytes l old.outbox.reports) hs) (let count : pending_count new.histories ≡ pending_count old.histories = ap pending_count hs in omega (arith, count)) is in
    record { computer = same.computer; empty = same.empty; rows = same.rows; text = omega (arith, same.text, room); outbox = same.outbox }
