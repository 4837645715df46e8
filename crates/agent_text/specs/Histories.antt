-- The attempts of actions, action by action.
use Rattle.std.specs.Prelude.{ℕ, zero, suc, ◌==◌, nat_lt, ℤ, if◌then◌else◌, List, [], ◌∷◌, ◌++◌, map, filter, flat_map, All, Bool, true, false, Option, Some, None, unwrap_or}
use Rattle.std.specs.List.Sorted.{IsStrictlyIncreasing}
use Rattle.line_forms.specs.Numbers.{IsId}
use Rattle.act_rules.specs.declared.row.Note.{Note}
use Rattle.act_rules.specs.declared.row.Row.{Row}
use Rattle.act_rules.specs.declared.row.Outcome.{Outcome}
use Rattle.act_rules.specs.declared.row.Outcome.TheVariants.{Failed}
use Rattle.act_rules.specs.Rows.{last_row, with_last}
use Rattle.report_text.specs.declared.report_row.ReportRow.{ReportRow}
use Rattle.agent_text.specs.declared.history.History.{History}
use Rattle.agent_text.specs.SavedRows.{AreSavedRows}

-- the id of an action, its attempts, and whether the last of them is pending: not reported yet as it stands
pub record PlainHistory : Type 0 where
  pub action : ℕ
  pub rows : List Row
  pub pending : Bool

-- what a history of the code shows
abbrev pub shown_history : History → PlainHistory
shown_history h = record { action = h.action; rows = h.rows.rows; pending = h.pending }

-- a history that a saved text can have
pub record IsHistory (h : PlainHistory) : Type 0 where
  pub action : IsId h.action
  pub rows : AreSavedRows h.rows

-- histories in strictly ascending order of actions
pub record AreHistories (hs : List PlainHistory) : Type 0 where
  pub good : All IsHistory hs
  pub ascending : IsStrictlyIncreasing (map (λ h. h.action) hs)

-- the rows of an action, none where it has no history
abbrev pub rows_at : ℕ → List PlainHistory → List Row
rows_at action [] = []
rows_at action (h ∷ hs) = if h.action == action then h.rows else rows_at action hs

-- the ids of the actions that are pending
abbrev pub pending_ids : List PlainHistory → List ℕ
pending_ids hs = map (λ h. h.action) (filter (λ h. h.pending) hs)

-- ---- changes
-- the histories with this one at its action
abbrev pub with_history : PlainHistory → List PlainHistory → List PlainHistory
with_history h hs =
    filter (λ other. nat_lt other.action h.action) hs ++ (h ∷ filter (λ other. nat_lt h.action other.action) hs)

-- the histories with other rows of an action, which is pending then
abbrev pub with_rows : ℕ → List Row → List PlainHistory → List PlainHistory
with_rows action rows hs = with_history (record { action = action; rows = rows; pending = true }) hs

-- an attempt begins
abbrev pub with_begun : ℕ → Row → List PlainHistory → List PlainHistory
with_begun action row hs = with_rows action (rows_at action hs ++ row ∷ []) hs

-- the attempt that runs ends
abbrev pub with_ended : ℕ → ℤ → Outcome → Note → List PlainHistory → List PlainHistory
with_ended action moment outcome note hs =
    with_rows action (with_last (rows_at action hs) (λ row. record row { end = Some (moment, outcome); note = note })) hs

-- the last attempt of a history is cleared at this moment
abbrev pub cleared : ℤ → PlainHistory → PlainHistory
cleared moment h = record h { rows = with_last h.rows (λ row. record row { cleared = Some moment }) }

-- the last attempt of an action is cleared, which needn't be reported
abbrev pub with_cleared : ℕ → ℤ → List PlainHistory → List PlainHistory
with_cleared action moment hs = map (λ h. if h.action == action then cleared moment h else h) hs

-- ---- reports
-- what is reported of a note: a failure without a place is reported at 0 and 0
abbrev pub reported_note : Option (ℤ × Outcome) → Note → Note
reported_note (Some (moment, Failed)) note = record note { place = Some (unwrap_or note.place (0, 0)) }
reported_note end note = note

-- what is reported of an attempt
abbrev pub report_row : ℕ → Row → ReportRow
report_row action row = record {
  action = action;
  number = row.number;
  begun = row.begun;
  end = row.end;
  note = reported_note row.end row.note;
}

-- what is reported of the last row, if there is one
abbrev pub report_of_last : ℕ → Option Row → List ReportRow
report_of_last action None = []
report_of_last action (Some row) = report_row action row ∷ []

-- what is reported of the pending actions
abbrev pub report_rows : List PlainHistory → List ReportRow
report_rows hs = flat_map (λ h. report_of_last h.action (last_row h.rows)) (filter (λ h. h.pending) hs)

-- the first so many that are pending aren't any more
abbrev pub with_reported : ℕ → List PlainHistory → List PlainHistory
with_reported most [] = []
with_reported zero (h ∷ hs) = h ∷ hs
with_reported (suc most) (h ∷ hs) =
    if h.pending then record h { pending = false } ∷ with_reported most hs else h ∷ with_reported (suc most) hs
