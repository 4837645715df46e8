-- Going over the lines of a report, and what is read there.
use Rattle.std.proofs.Common.{ℕ, ◌≡◌, List, [], ◌∷◌, true, false, refl, arith}
use Rattle.std.specs.Prelude.{codes}
use Rattle.std.proofs.lemmas.List.Elements.{All-nil, All-cons}
use Rattle.line_forms.specs.Names.{IsName, is_name_byte}
use Rattle.line_forms.specs.Numbers.{IsId}
use Rattle.line_forms.specs.LineStates.{LineState}
use Rattle.line_forms.specs.Readers.{IsAny, IsNotAhead, IsStuck, Passes, TakesAll, TakesExactly}
use Rattle.line_forms.proofs.Parts.{stuck_same}
use Rattle.report_text.specs.declared.form.Form.{Form}
use Rattle.report_text.specs.declared.form.Form.TheVariants.{One}
use Rattle.report_text.specs.declared.report.Report.{Report}
use Rattle.report_text.specs.declared.report_row.ReportRow.{ReportRow}
use Rattle.report_text.specs.RowLines.{row_line}
use Rattle.report_text.specs.Reports.{AreReportLines, CanFollow, IsReport, computer_line, end_line, form_line, report_lines, seq_line}
use Rattle.report_text.proofs.ReportParts.{PartLines, at_end, at_form, at_name, at_seq, behind_form, behind_name, parts_back, parts_there, report_passes, rows_are}

-- reports of any form, name and number
abbrev AnyForm : Form → Type 0
AnyForm form = IsAny form

abbrev Lines : Type 0
Lines = List (List ℕ)

there : (lines : Lines) → PartLines AnyForm IsName IsId lines → AreReportLines lines
there lines parts = let found = parts_there AnyForm IsName IsId lines parts in (found.0, record { computer = found.1.computer; seq = found.1.seq; rows = found.1.rows }, found.2)

back : (lines : Lines) → AreReportLines lines → PartLines AnyForm IsName IsId lines
back lines (report, good, e) = parts_back AnyForm IsName IsId lines (report, record { form = tt; computer = good.computer; seq = good.seq; rows = good.rows }, e)

stuck_report : (old new : LineState) → IsStuck (PartLines AnyForm IsName IsId) old new → IsStuck AreReportLines old new
stuck_report old new stuck = stuck_same (PartLines AnyForm IsName IsId) AreReportLines old new there back stuck

a_name : IsName (codes "a")
a_name = (omega arith, omega arith, All-cons (λ byte. is_name_byte byte ≡ true) 97 [] refl (All-nil (λ byte. is_name_byte byte ≡ true)))

an_id : IsId 1
an_id = (omega arith, omega arith)

-- a line isn't ahead
pub no_form : (old new : LineState) → (new ≡ old) × IsNotAhead IsAny form_line old → IsStuck AreReportLines old new
no_form old new none = stuck_report old new (at_form AnyForm IsName IsId One (codes "a") 1 old new tt a_name an_id none)

pub no_computer : (old mid new : LineState) (form : Form) → Passes old mid (form_line form ∷ []) → (new ≡ mid) × IsNotAhead IsName computer_line mid → IsStuck AreReportLines old new
no_computer old mid new form one none =
    stuck_report old new (behind_form AnyForm IsName IsId form old mid new tt one (at_name IsName IsId form (codes "a") 1 mid new a_name an_id none))

pub no_seq : (old a mid new : LineState) (form : Form) (computer : List ℕ) → Passes old a (form_line form ∷ []) → IsName computer → Passes a mid (computer_line computer ∷ []) →
    (new ≡ mid) × IsNotAhead IsId seq_line mid → IsStuck AreReportLines old new
no_seq old a mid new form computer one name two none =
    stuck_report old new
    (behind_form AnyForm IsName IsId form old a new tt one
    (behind_name IsName IsId form computer a mid new name two (at_seq IsId form 1 mid new (λ seq id. id) an_id none)))

pub no_end : (old a b d e new : LineState) (form : Form) (computer : List ℕ) (seq : ℕ) (rows : List ReportRow) → Passes old a (form_line form ∷ []) → IsName computer → Passes a b (computer_line computer ∷ []) → IsId seq →
    Passes b d (seq_line seq ∷ []) → TakesAll (CanFollow form) (row_line form) d e rows → TakesExactly end_line e new false → IsStuck AreReportLines old new
no_end old a b d e new form computer seq rows one name two id three taken none =
    stuck_report old new
    (behind_form AnyForm IsName IsId form old a new tt one
    (behind_name IsName IsId form computer a b new name two (at_end IsId form seq rows b d e new (λ seq id. id) id three taken none)))

-- all lines are
pub whole : (old a b d e new : LineState) (form : Form) (computer : List ℕ) (seq : ℕ) (rows : List ReportRow) → Passes old a (form_line form ∷ []) → IsName computer → Passes a b (computer_line computer ∷ []) → IsId seq →
    Passes b d (seq_line seq ∷ []) → TakesAll (CanFollow form) (row_line form) d e rows → TakesExactly end_line e new true →
    let report : Report = record { form = form; computer = computer; seq = seq; rows = rows } in IsReport report × Passes old new (report_lines report)
whole old a b d e new form computer seq rows one name two id three taken last =
    (record { computer = name; seq = id; rows = rows_are form rows taken.0 }, report_passes form computer seq rows old a b d e new one two three taken last)
