-- What an agent saves, and its texts.
use Rattle.std.specs.Prelude.{◌≡◌, ℕ, ◌+◌, ◌<◌, ◌≤◌, List, [], ◌∷◌, ◌++◌, length, map, flat_map, sum_by, All, codes, decimal, ⊤, Ok, Err}
use Rattle.std.specs.declared.result.Result.{Result}
use Rattle.std.specs.List.Sorted.{IsStrictlyIncreasing}
use Rattle.line_forms.specs.Names.{IsName}
use Rattle.line_forms.specs.Numbers.{IsId}
use Rattle.line_forms.specs.Fields.{field_text}
use Rattle.line_forms.specs.Lines.{lines_text}
use Rattle.line_forms.specs.BadLines.{AnswersBadLine}
use Rattle.report_text.specs.declared.form.Form.{Form}
use Rattle.report_text.specs.declared.form.Form.TheVariants.{One, Two}
use Rattle.report_text.specs.declared.report.Report.{Report}
use Rattle.act_rules.specs.Notes.{no_note}
use Rattle.report_text.specs.Reports.{IsReport, form_number, computer_line, end_line, report_lines}
use Rattle.agent_text.specs.declared.saved.Saved.{Saved}
use Rattle.agent_text.specs.declared.error.SavedError.{SavedError}
use Rattle.agent_text.specs.declared.error.SavedError.TheVariants as error
use Rattle.agent_text.specs.Histories.{PlainHistory, AreHistories, pending_ids}
use Rattle.agent_text.specs.HistoryLines.{history_lines}
use Rattle.agent_text.specs.MostBytes.{history_bytes, report_bytes}

-- the most reports that aren't known to have arrived
abbrev pub most_reports : ℕ
most_reports = 1000

-- the reports of a computer that aren't known to have arrived, in strictly ascending order of numbers below the next
pub record AreOutbox (computer : List ℕ) (next : ℕ) (reports : List Report) : Type 0 where
  pub few : length reports ≤ most_reports
  pub good : All IsReport reports
  pub own : All (λ report. report.computer ≡ computer) reports
  pub ascending : IsStrictlyIncreasing (map (λ report. report.seq) reports)
  pub below : All (λ report. report.seq < next) reports

-- what can be saved
pub record IsSaved (saved : Saved) : Type 0 where
  pub computer : IsName saved.computer
  pub next : IsId saved.next
  pub histories : AreHistories saved.histories
  pub reports : AreOutbox saved.computer saved.next saved.reports

-- a text of form One has no notes, and reports of form One alone
abbrev pub FitsForm : Form → Saved → Type 0
FitsForm One saved =
    All (λ h. All (λ row. row.note ≡ no_note) h.rows) saved.histories × All (λ report. report.form ≡ One) saved.reports
FitsForm Two saved = ⊤

-- the first line, by the form
abbrev pub agent_line : Form → List ℕ
agent_line form = field_text (codes "agent") ++ form_number form

-- the number of the next report
abbrev pub next_line : ℕ → List ℕ
next_line next = field_text (codes "next") ++ decimal next

abbrev pub pending_line : ℕ → List ℕ
pending_line action = field_text (codes "pending") ++ decimal action

-- the lines of a saved text in this form
abbrev pub saved_lines : Form → Saved → List (List ℕ)
saved_lines form saved =
    agent_line form ∷ computer_line saved.computer ∷ next_line saved.next
    ∷ (flat_map (history_lines form) saved.histories
    ++ (map pending_line (pending_ids saved.histories) ++ (flat_map report_lines saved.reports ++ end_line ∷ [])))

-- the text that an agent saves: of form Two
abbrev pub saved_text : Saved → List ℕ
saved_text saved = lines_text (saved_lines Two saved)

-- what a text of this computer can hold
abbrev pub IsSavedBy : List ℕ → Form → Saved → Type 0
IsSavedBy computer form saved = IsSaved saved × FitsForm form saved × (saved.computer ≡ computer)

-- these are the lines of a saved text of this computer, in either form
abbrev pub AreSavedLines : List ℕ → List (List ℕ) → Type 0
AreSavedLines computer lines =
    (form : Form) × (saved : Saved) × IsSavedBy computer form saved × (lines ≡ saved_lines form saved)

-- The text is that of what is answered, in either form; or it has the first bad line that is answered, as one that names another
-- computer has.
abbrev pub ReadsSaved : List ℕ → List ℕ → Result Saved SavedError → Type 0
ReadsSaved computer text (Ok saved) =
    (form : Form) × IsSavedBy computer form saved × (text ≡ lines_text (saved_lines form saved))
ReadsSaved computer text (Err (error.BadLine line)) = AnswersBadLine (AreSavedLines computer) text line
ReadsSaved computer text (Err error.Memory) = ⊤

-- ---- sizes
-- the most bytes of a saved text: room for it is reckoned by this
abbrev pub most_bytes : List PlainHistory → List Report → ℕ
most_bytes hs reports = 108 + (sum_by history_bytes hs + sum_by report_bytes reports)
