-- An agent's state.
use Rattle.std.specs.Prelude.{◌≡◌, ◌≢◌, ℕ, ◌+◌, ◌==◌, ◌&&◌, ◌≤◌, not, nat_lt, ℤ, List, [], ◌∷◌, ◌++◌, length, take, All, Bool, true, false, Option, Some, None, is_none, IsSomeAnd, ⊤}
use Rattle.std.specs.List.{find}
use Rattle.std.specs.Option.{option_map}
use Rattle.line_forms.specs.Numbers.{last_id}
use Rattle.act_rules.specs.declared.row.Note.{Note}
use Rattle.act_rules.specs.declared.row.Row.{Row}
use Rattle.act_rules.specs.declared.row.Outcome.{Outcome}
use Rattle.act_rules.specs.declared.row.Outcome.TheVariants.{Interrupted}
use Rattle.act_rules.specs.Rows.{last_row}
use Rattle.report_text.specs.declared.form.Form.TheVariants.{Two}
use Rattle.report_text.specs.declared.report.Report.{Report}
use Rattle.report_text.specs.Reports.{most_rows}
use Rattle.act_rules.specs.Notes.{no_note}
use Rattle.fix_site.specs.declared.site.Site.{Site}
use Rattle.fix_site.specs.Sites.{IsSite}
use Rattle.agent_text.specs.declared.saved.Saved.{Saved}
use Rattle.agent_text.specs.Histories.{PlainHistory, report_rows, rows_at, with_begun, with_ended, with_reported}
use Rattle.agent_text.specs.SavedTexts.{IsSaved, most_reports, saved_text}
use Rattle.agent_attempt.specs.Attempts.{PlainAttempt}

-- the name of the computer, the gathered sites, the number of the next report, the attempts of each action and whether it is pending,
-- the reports that aren't known to have arrived, how many of them, from the first on, are saved, the attempt that is held, and whether
-- something is unsaved
pub record State : Type 0 where
  pub computer : List ℕ
  pub sites : List Site
  pub next : ℕ
  pub histories : List PlainHistory
  pub reports : List Report
  pub shown : ℕ
  pub held : Option PlainAttempt
  pub unsaved : Bool

-- what of a state is saved, and its text
abbrev pub saved_of : State → Saved
saved_of s = record { computer = s.computer; next = s.next; histories = s.histories; reports = s.reports }

abbrev pub text_of : State → List ℕ
text_of s = saved_text (saved_of s)

-- ---- running rows
-- there is a last row, and it has no end
abbrev pub last_runs : Option Row → Bool
last_runs None = false
last_runs (Some row) = is_none row.end

-- the attempt that is held, if one is, is of another action
abbrev pub is_of_another : ℕ → Option PlainAttempt → Bool
is_of_another action None = true
is_of_another action (Some attempt) = not (attempt.action.id == action)

-- the last row of the history runs, and the attempt isn't held
abbrev pub is_broken : Option PlainAttempt → PlainHistory → Bool
is_broken held h = last_runs (last_row h.rows) && is_of_another h.action held

-- the least action with a broken attempt
abbrev pub broken_action : State → Option ℕ
broken_action s = option_map (λ (h : PlainHistory). h.action) (find (is_broken s.held) s.histories)

-- ---- changes of a state
abbrev pub with_unsaved : State → State
with_unsaved s = record s { unsaved = true }

-- all of it is saved
abbrev pub as_saved : State → State
as_saved s = record s { shown = length s.reports; unsaved = false }

abbrev pub with_histories : List PlainHistory → State → State
with_histories hs s = record s { histories = hs }

abbrev pub with_held : Option PlainAttempt → State → State
with_held held s = record s { held = held }

-- the attempt of an action ends, and none is held then
abbrev pub with_end : ℕ → ℤ → Outcome → Note → State → State
with_end action moment outcome note s = record s { histories = with_ended action moment outcome note s.histories; held = None }

-- a broken attempt ends; the one that is held stays
abbrev pub interrupted : ℕ → ℤ → State → State
interrupted action moment s = with_histories (with_ended action moment Interrupted no_note s.histories) s

-- the row of an attempt that begins
abbrev pub new_row : ℕ → ℤ → Row
new_row number moment = record { number = number; begun = moment; end = None; cleared = None; note = no_note }

-- the number of the next row of an action
abbrev pub next_row : ℕ → List PlainHistory → ℕ
next_row action hs = length (rows_at action hs) + 1

-- an attempt of the action begins
abbrev pub with_beginning : ℕ → ℤ → State → State
with_beginning action moment s =
    with_histories (with_begun action (new_row (next_row action s.histories) moment) s.histories) s

-- ---- reports
-- An action is pending, there is room in the outbox, and a number is left.
abbrev pub can_report : State → Bool
can_report s = nat_lt 0 (length (report_rows s.histories)) && nat_lt (length s.reports) most_reports && nat_lt s.next last_id

-- the report that a turn makes: the last rows of the pending actions, as many as one has
abbrev pub next_report : State → Report
next_report s = record { form = Two; computer = s.computer; seq = s.next; rows = take most_rows (report_rows s.histories) }

abbrev pub with_report : State → State
with_report s = record s {
  histories = with_reported most_rows s.histories;
  reports = s.reports ++ next_report s ∷ [];
  next = s.next + 1;
}

-- ---- what holds of every state
-- an attempt that is held is that of its action's last row, which runs
abbrev pub HeldRuns : Option PlainAttempt → List PlainHistory → Type 0
HeldRuns None hs = ⊤
HeldRuns (Some attempt) hs =
    IsSomeAnd (last_row (rows_at attempt.action.id hs)) (λ row. (row.end ≡ None) × (row.number ≡ attempt.row))

-- gathered sites: each can be spelled, and no name stands twice
abbrev pub AreGathered : List Site → Type 0
AreGathered [] = ⊤
AreGathered (site ∷ sites) = IsSite site × All (λ other. other.name ≢ site.name) sites × AreGathered sites

pub record IsSound (s : State) : Type 0 where
  pub saved : IsSaved (saved_of s)
  pub shown : s.shown ≤ length s.reports
  pub held : HeldRuns s.held s.histories
  pub sites : AreGathered s.sites
