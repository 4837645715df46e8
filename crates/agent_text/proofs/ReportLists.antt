-- The lines of a report that can stand behind others in a saved text, and where they stop.
use Rattle.std.proofs.Common.{ℕ, false, true, ◌≡◌, ◌<◌, List, [], ◌∷◌, ◌++◌, length, refl, sym, ap, subst, ◌∙◌, arith}
use Rattle.std.specs.Prelude.{flat_map}
use Rattle.line_forms.specs.BadLines.{Begins}
use Rattle.line_forms.specs.LineStates.{LineState}
use Rattle.line_forms.specs.Names.{IsName}
use Rattle.line_forms.specs.Numbers.{IsId}
use Rattle.line_forms.specs.Readers.{AreLinesOf, IsNotAhead, IsStuck, Passes, StopsAt, TakesAll, TakesExactly}
use Rattle.line_forms.proofs.Parts.{Lines, single, stuck_line, stuck_same}
use Rattle.line_forms.proofs.Passing.{passes_none, passes_then}
use Rattle.line_forms.proofs.Sequences.{each_more, each_none, flat_snoc}
use Rattle.report_text.specs.declared.form.Form.{Form}
use Rattle.report_text.specs.declared.report.Report.{Report}
use Rattle.report_text.specs.declared.report_row.ReportRow.{ReportRow}
use Rattle.report_text.specs.RowLines.{row_line}
use Rattle.report_text.specs.Reports.{CanFollow, computer_line, end_line, form_line, report_lines, seq_line}
use Rattle.report_text.proofs.ReportParts.{IsOf, NameLines, PartLines, at_end, at_name, at_seq, behind_form, behind_name, name_some, parts_back, parts_there, report_of, report_one, report_passes, rows_are}
use Rattle.agent_text.specs.PartReadings.{Around, CanCome, HasNumber, HasReports, IsBadAt, IsFormIn, IsLater}

-- ---- the parts of a report that can stand behind these
-- its number
abbrev IsSeq : Around → List Report → ℕ → Type 0
IsSeq around before seq = IsId seq × IsLater before seq × (seq < around.next)

an_id : (around : Around) (before : List Report) (seq : ℕ) → IsSeq around before seq → IsId seq
an_id around before seq is = is.0

-- the name of this computer
abbrev pub IsOwn : List ℕ → List ℕ → Type 0
IsOwn computer name = name ≡ computer

-- the lines from the computer on, and all
abbrev OwnLines : Around → List Report → Form → Lines → Type 0
OwnLines around before form = NameLines (IsOwn around.computer) (IsSeq around before) form

abbrev NextLines : Around → List Report → Lines → Type 0
NextLines around before = PartLines (IsFormIn around.form) (IsOwn around.computer) (IsSeq around before)

-- these are the lines of a report that can stand behind these
abbrev pub AreNext : Around → List Report → Lines → Type 0
AreNext around before = AreLinesOf (CanCome around before) report_lines

-- the set in these parts is that of the lines of a report
next_there : (around : Around) (before : List Report) → length before < 1000 → IsName around.computer → (lines : Lines) → NextLines around before lines → AreNext around before lines
next_there around before few named lines parts =
    let found = parts_there (IsFormIn around.form) (IsOwn around.computer) (IsSeq around before) lines parts in
    let is : IsOf (IsFormIn around.form) (IsOwn around.computer) (IsSeq around before) found.0 = found.1 in
    let N : List ℕ → Type 0 = IsName in (
      found.0,
      record {
        few = few;
        good = record { computer = subst N (sym is.computer) named; seq = is.seq.0; rows = is.rows };
        form = is.form;
        own = is.computer;
        later = is.seq.1;
        below = is.seq.2;
      },
      found.2,
    )

next_back : (around : Around) (before : List Report) (lines : Lines) → AreNext around before lines → NextLines around before lines
next_back around before lines (report, can, e) =
    parts_back (IsFormIn around.form) (IsOwn around.computer) (IsSeq around before) lines
    (report, record { form = can.form; computer = can.own; seq = (can.good.seq, can.later, can.below); rows = can.good.rows }, e)

-- the computer's line isn't ahead
pub own_missing : (computer : List ℕ) (old new : LineState) → TakesExactly (computer_line computer) old new false → (new ≡ old) × IsNotAhead (IsOwn computer) computer_line old
own_missing computer old new missing = (missing.0, λ name more own e. missing.1 more (e ∙ ap (λ n. computer_line n ∷ more) own))

pub stuck_own : (computer : List ℕ) (old new : LineState) → TakesExactly (computer_line computer) old new false → IsStuck (AreLinesOf (IsOwn computer) (single computer_line)) old new
stuck_own computer old new missing = stuck_line (IsOwn computer) computer_line computer old new refl (own_missing computer old new missing)

-- the report that is spelled is known
pub one_report : (around : Around) (before : List Report) (v w : Report) (x y : Lines) → CanCome around before v → CanCome around before w → report_lines v ++ x ≡ report_lines w ++ y → v ≡ w
one_report around before v w x y can also e = report_one v w x y can.good also.good e

-- ---- where the lines of a report stop
-- the first line begins those of a report
begins_form : (around : Around) (before : List Report) (form : Form) → HasNumber around.next before → IsName around.computer → IsFormIn around.form form → Begins (AreNext around before) (form_line form ∷ [])
begins_form around before form number named is =
    let s = name_some (IsOwn around.computer) (IsSeq around before) form around.computer number.1.0 refl (number.1.1, number.1.2, number.1.3) in
    (s.0, next_there around before number.0 named (form_line form ∷ s.0) (form, s.0, is, s.1, refl))

-- where the first line was taken, they stop behind it
bad_at : (around : Around) (before : List Report) (form : Form) (old mid new : LineState) (number : ℕ) → HasNumber around.next before → IsName around.computer → IsFormIn around.form form → Passes old mid (form_line form ∷ []) →
    IsStuck (OwnLines around before form) mid new → number ≡ new.number → IsBadAt (AreNext around before) old number
bad_at around before form old mid new number some named is first stuck is_number =
    let whole = stuck_same (NextLines around before) (AreNext around before) old new (next_there around before some.0 named) (next_back around before)
    (behind_form (IsFormIn around.form) (IsOwn around.computer) (IsSeq around before) form old mid new is first stuck) in
    (new, whole.0, not_empty whole.0 whole.1 whole.2, whole.1, whole.2, is_number)
  where
    not_empty : (part : Lines) → Passes old new part → StopsAt (AreNext around before) part new → 0 < length part
    not_empty [] passes stops = absurd (stops.ahead (form_line form) mid.lines (sym passes.0 ∙ first.0) (begins_form around before form some named is))
    not_empty (x ∷ part) passes stops = omega arith

-- the computer's line is missing
pub no_computer : (around : Around) (before : List Report) (form : Form) (old a new : LineState) (number : ℕ) → HasNumber around.next before → IsName around.computer → IsFormIn around.form form → Passes old a (form_line form ∷ []) →
    TakesExactly (computer_line around.computer) a new false → number ≡ new.number → IsBadAt (AreNext around before) old number
no_computer around before form old a new number some named is first missing is_number =
    bad_at around before form old a new number some named is first
    (at_name (IsOwn around.computer) (IsSeq around before) form around.computer some.1.0 a new refl (some.1.1, some.1.2, some.1.3) (own_missing around.computer a new missing)) is_number

-- the line of the number is missing, or of no fitting one
pub no_seq : (around : Around) (before : List Report) (form : Form) (old a b new : LineState) (number : ℕ) → HasNumber around.next before → IsName around.computer → IsFormIn around.form form → Passes old a (form_line form ∷ []) →
    Passes a b (computer_line around.computer ∷ []) → (new ≡ b) × IsNotAhead (IsSeq around before) seq_line b → number ≡ new.number → IsBadAt (AreNext around before) old number
no_seq around before form old a b new number some named is first second missing is_number =
    bad_at around before form old a new number some named is first
    (behind_name (IsOwn around.computer) (IsSeq around before) form around.computer a b new refl second
    (at_seq (IsSeq around before) form some.1.0 b new (an_id around before) (some.1.1, some.1.2, some.1.3) missing)) is_number

-- the last line is missing
pub no_end : (around : Around) (before : List Report) (form : Form) (seq : ℕ) (rows : List ReportRow) (old a b d e new : LineState) (number : ℕ) → HasNumber around.next before → IsName around.computer → IsFormIn around.form form →
    Passes old a (form_line form ∷ []) → Passes a b (computer_line around.computer ∷ []) → IsSeq around before seq → Passes b d (seq_line seq ∷ []) → TakesAll (CanFollow form) (row_line form) d e rows →
    TakesExactly end_line e new false → number ≡ new.number → IsBadAt (AreNext around before) old number
no_end around before form seq rows old a b d e new number some named is first second fine third taken missing is_number =
    bad_at around before form old a new number some named is first
    (behind_name (IsOwn around.computer) (IsSeq around before) form around.computer a b new refl second
    (at_end (IsSeq around before) form seq rows b d e new (an_id around before) fine third taken missing)) is_number

-- all lines of a report were taken
pub whole : (around : Around) (before : List Report) (form : Form) (computer : List ℕ) (seq : ℕ) (rows : List ReportRow) (old a b d e new : LineState) → HasNumber around.next before → IsName around.computer → IsFormIn around.form form →
    Passes old a (form_line form ∷ []) → Passes a b (computer_line around.computer ∷ []) → IsSeq around before seq → Passes b d (seq_line seq ∷ []) → TakesAll (CanFollow form) (row_line form) d e rows →
    TakesExactly end_line e new true → computer ≡ around.computer →
    let report : Report = record { form = form; computer = computer; seq = seq; rows = rows } in CanCome around before report × Passes old new (report_lines report)
whole around before form computer seq rows old a b d e new some named is first second fine third taken last own =
    let N : List ℕ → Type 0 = IsName in
    let P : List ℕ → Type 0 = λ name. Passes old new (report_lines (report_of form name seq rows)) in (
      record {
        few = some.0;
        good = record { computer = subst N (sym own) named; seq = fine.0; rows = rows_are form rows taken.0 };
        form = is;
        own = own;
        later = fine.1;
        below = fine.2;
      },
      subst P (sym own) (report_passes form around.computer seq rows old a b d e new first second third taken last),
    )

-- ---- reports one behind another
pub has_none : (around : Around) (start : LineState) → HasReports around start start []
has_none around start = record { each = each_none (CanCome around); passes = passes_none start }

-- one report more was taken
pub has_more : (around : Around) (start mid new : LineState) (items seen result : List Report) (report : Report) → HasReports around start mid items → seen ≡ items → result ≡ items ++ report ∷ [] → CanCome around seen report →
    Passes mid new (report_lines report) → HasReports around start new result
has_more around start mid new items seen result report has seen_is result_is can passes =
    let C : List Report → Type 0 = λ l. CanCome around l report in
    let H : List Report → Type 0 = HasReports around start new in
    let Q : Lines → Type 0 = Passes start new in
    subst H (sym result_is) (record {
      each = each_more (CanCome around) items report has.each (subst C seen_is can);
      passes = subst Q (sym (flat_snoc report_lines items report)) (passes_then start mid new (flat_map report_lines items) (report_lines report) has.passes passes);
    })

-- a number is left where there is a report that can come
pub number_left : (around : Around) (before : List Report) (report : Report) → CanCome around before report → HasNumber around.next before
number_left around before report can = (can.few, (report.seq, can.good.seq, can.later, can.below))
