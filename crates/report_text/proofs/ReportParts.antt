-- The lines of a report, part by part, and where they stop. Other crates may cite these lemmas.
use Rattle.std.proofs.Common.{ℕ, ◌≡◌, true, false, ◌==◌, get_or, List, [], ◌∷◌, ◌++◌, map, refl, sym, ap, subst, ◌∙◌, arith, append_assoc, append-nil, length-append}
use Rattle.std.specs.Prelude.{codes, decimal, flat_map}
use Rattle.std.proofs.lemmas.List.{append_cancel_left}
use Rattle.line_forms.specs.Fields.{field_text}
use Rattle.line_forms.specs.LineStates.{LineState}
use Rattle.line_forms.specs.Numbers.{IsId}
use Rattle.line_forms.specs.Readers.{AreLinesOf, EachCan, IsNotAhead, IsStuck, NeverGoesOn, Passes, TakesAll, TakesExactly}
use Rattle.line_forms.proofs.Lasts.{Ascends, all_at, each_all, each_ascends, each_few, last_below}
use Rattle.line_forms.proofs.Parts.{HasSome, IsOneWay, Lines, Only, Then, one_way-line, rest_same, single, stuck_behind, stuck_first, stuck_line, stuck_only}
use Rattle.line_forms.proofs.Passing.{cons_head, cons_tail, passes_then}
use Rattle.line_forms.proofs.PlainLemmas.{id_one}
use Rattle.line_forms.proofs.Sequences.{IsSequence, Many, NoNext, each_none, flat_single, many_one, no_tail, stuck_taken, with_first}
use Rattle.report_text.specs.declared.form.Form.{Form}
use Rattle.report_text.specs.declared.form.Form.TheVariants.{One, Two}
use Rattle.report_text.specs.declared.report.Report.{Report}
use Rattle.report_text.specs.declared.report_row.ReportRow.{ReportRow}
use Rattle.report_text.specs.ReportRows.{AreAscending, IsReportRow}
use Rattle.report_text.specs.RowLines.{row_line}
use Rattle.report_text.specs.Reports.{AreReportLines, AreReportRows, CanFollow, IsReport, computer_line, end_line, form_line, report_lines, seq_line}
use Rattle.report_text.proofs.RowLemmas.{row_not_end, row_one}

-- ---- rows that stand one behind another
abbrev row_action : ReportRow → ℕ
row_action row = row.action

-- the order of rows in other words
rows_ascend : (rows : List ReportRow) → AreAscending rows → Ascends row_action rows
rows_ascend [] h = tt
rows_ascend (x ∷ []) h = tt
rows_ascend (x ∷ y ∷ rows) h = (h.0, rows_ascend (y ∷ rows) h.1)

rows_rise : (rows : List ReportRow) → Ascends row_action rows → AreAscending rows
rows_rise [] h = tt
rows_rise (x ∷ []) h = tt
rows_rise (x ∷ y ∷ rows) h = (h.0, rows_rise (y ∷ rows) h.1)

-- each row of a report can stand behind those before it
each_row : (form : Form) (rows : List ReportRow) → AreReportRows form rows → EachCan (CanFollow form) rows
each_row form rows are before after row e =
    let R : List ReportRow → Type 0 = AreReportRows form in
    at (subst R e are)
  where
    at : AreReportRows form (before ++ row ∷ after) → CanFollow form before row
    at all = record {
      few = omega (arith, all.few, length-append before (row ∷ after));
      good = all_at (IsReportRow form) before after row all.good;
      above = last_below row_action before after row (rows_ascend (before ++ row ∷ after) all.ascending);
    }

-- and such rows are those of a report
pub rows_are : (form : Form) (rows : List ReportRow) → EachCan (CanFollow form) rows → AreReportRows form rows
rows_are form rows each = record {
  few = each_few 500 (CanFollow form) (λ before row can. can.few) rows each;
  good = each_all (IsReportRow form) (CanFollow form) (λ before row can. can.good) rows each;
  ascending = rows_rise rows (each_ascends row_action (CanFollow form) (λ before row can. can.above) rows each);
}

-- ---- each part is known by its lines
pub form_one : (f g : Form) → form_line f ≡ form_line g → f ≡ g
form_one One One h = refl
form_one One Two h = let k : false ≡ true = ap (λ l. get_or l 7 0 == 50) h in cc
form_one Two One h = let k : true ≡ false = ap (λ l. get_or l 7 0 == 50) h in cc
form_one Two Two h = refl

one_form : (F : Form → Type 0) → IsOneWay F (single form_line)
one_form F = one_way-line F form_line (λ f g is fine e. form_one f g e)

pub one_name : (C : List ℕ → Type 0) → IsOneWay C (single computer_line)
one_name C = one_way-line C computer_line (λ v w is fine e. append_cancel_left (field_text (codes "computer")) v w e)

pub seq_one : (m n : ℕ) → IsId m → IsId n → seq_line m ≡ seq_line n → m ≡ n
seq_one m n is fine e = id_one m n is fine (append_cancel_left (field_text (codes "seq")) (decimal m) (decimal n) e)

one_seq : (S : ℕ → Type 0) → ((seq : ℕ) → S seq → IsId seq) → IsOneWay S (single seq_line)
one_seq S ids = one_way-line S seq_line (λ m n is fine e. seq_one m n (ids m is) (ids n fine) e)

-- the last line follows the rows, and maybe other lines
rows_before : (form : Form) (After : List ReportRow → Lines → Type 0) → ((rows : List ReportRow) (rest : Lines) → After rows rest → (more : Lines) × (rest ≡ end_line ∷ more)) →
    IsSequence (CanFollow form) (row_line form) no_tail NoNext After
rows_before form After ended = record {
  one = λ before v w x y can also _ _ e. row_one form v w can.good also.good (cons_head (row_line form v) (row_line form w) x y e);
  firsts = λ before v w can next. next;
  foreign = λ rows v rest more after can e. let last = ended rows rest after in row_not_end form v (cons_head (row_line form v) end_line more last.0 (sym e ∙ last.1));
  ends = λ rows rest v after goes. goes.3;
}

abbrev pub report_of : Form → List ℕ → ℕ → List ReportRow → Report
report_of form computer seq rows = record { form = form; computer = computer; seq = seq; rows = rows }

abbrev Ended : List ReportRow → Lines → Type 0
Ended rows rest = (more : Lines) × (rest ≡ end_line ∷ more)

-- a report is known by its lines, whatever follows
pub report_one : IsOneWay IsReport report_lines
report_one v w x y good also e =
    let two = cons_tail (form_line v.form) (form_line w.form) _ _ e in
    let three = cons_tail (computer_line v.computer) (computer_line w.computer) _ _ two in
    let four = cons_tail (seq_line v.seq) (seq_line w.seq) _ _ three in
    let forms : v.form ≡ w.form = form_one v.form w.form (cons_head (form_line v.form) (form_line w.form) _ _ e) in
    let computers : v.computer ≡ w.computer = append_cancel_left (field_text (codes "computer")) v.computer w.computer (cons_head (computer_line v.computer) (computer_line w.computer) _ _ two) in
    let seqs : v.seq ≡ w.seq = seq_one v.seq w.seq good.seq also.seq (cons_head (seq_line v.seq) (seq_line w.seq) _ _ three) in
    let R : Form → Type 0 = λ f. AreReportRows f w.rows in
    let E : Form → Type 0 = λ f. (map (row_line v.form) v.rows ++ end_line ∷ []) ++ x ≡ (map (row_line f) w.rows ++ end_line ∷ []) ++ y in
    let rows = same_rows v.form v.rows w.rows good.rows (subst R (sym forms) also.rows) (subst E (sym forms) four) in
    ap (λ f. report_of f v.computer v.seq v.rows) forms ∙ ap (λ c. report_of w.form c v.seq v.rows) computers
    ∙ ap (λ n. report_of w.form w.computer n v.rows) seqs ∙ ap (λ r. report_of w.form w.computer w.seq r) rows
  where
    shift : (form : Form) (rows : List ReportRow) (z : Lines) → flat_map (with_first (row_line form) no_tail) rows ++ end_line ∷ z ≡ (map (row_line form) rows ++ end_line ∷ []) ++ z
    shift form rows z = ap (λ l. l ++ end_line ∷ z) (flat_single (row_line form) rows) ∙ sym (append_assoc (map (row_line form) rows) (end_line ∷ []) z)

    same_rows : (form : Form) (vs ws : List ReportRow) → AreReportRows form vs → AreReportRows form ws → (map (row_line form) vs ++ end_line ∷ []) ++ x ≡ (map (row_line form) ws ++ end_line ∷ []) ++ y → vs ≡ ws
    same_rows form vs ws are all h =
        (many_one (rows_before form Ended (λ rows rest ended. ended)) vs ws (end_line ∷ x) (end_line ∷ y) (each_row form vs are) (each_row form ws all) (x, refl) (y, refl) (shift form vs x ∙ h ∙ sym (shift form ws y))).0

pub report_known : (report other : Report) → IsReport report → IsReport other → report_lines report ≡ report_lines other → report ≡ other
report_known report other good fine e = report_one report other [] [] good fine (append-nil (report_lines report) ∙ e ∙ sym (append-nil (report_lines other)))

-- nothing goes on behind the last line
pub never_goes_on : (report : Report) → IsReport report → NeverGoesOn AreReportLines (report_lines report)
never_goes_on report good line more (other, fine, e) =
    let long : report_lines report ++ line ∷ more ≡ report_lines other ++ [] = e ∙ sym (append-nil (report_lines other)) in
    let same = report_one report other (line ∷ more) [] good fine long in
    let nothing : line ∷ more ≡ [] = rest_same report_lines report other (line ∷ more) [] same long in
    cc

-- ---- reports with a form, a name and a number of these
pub record IsOf (F : Form → Type 0) (C : List ℕ → Type 0) (S : ℕ → Type 0) (report : Report) : Type 0 where
  pub form : F report.form
  pub computer : C report.computer
  pub seq : S report.seq
  pub rows : AreReportRows report.form report.rows

abbrev pub LastLine : List ReportRow → Lines → Type 0
LastLine rows = Only end_line

one_rows : (form : Form) → IsSequence (CanFollow form) (row_line form) no_tail NoNext LastLine
one_rows form = rows_before form LastLine (λ rows rest last. ([], last))

-- their lines from the rows on, from the number on, from the name on, and all
abbrev pub RowLines : Form → Lines → Type 0
RowLines form = Many (CanFollow form) (row_line form) no_tail LastLine

abbrev pub SeqLines : (ℕ → Type 0) → Form → Lines → Type 0
SeqLines S form = Then S (single seq_line) (λ seq. RowLines form)

abbrev pub NameLines : (List ℕ → Type 0) → (ℕ → Type 0) → Form → Lines → Type 0
NameLines C S form = Then C (single computer_line) (λ name. SeqLines S form)

abbrev pub PartLines : (Form → Type 0) → (List ℕ → Type 0) → (ℕ → Type 0) → Lines → Type 0
PartLines F C S = Then F (single form_line) (NameLines C S)

-- the set in these parts is that of their lines
pub parts_there : (F : Form → Type 0) (C : List ℕ → Type 0) (S : ℕ → Type 0) (lines : Lines) → PartLines F C S lines → AreLinesOf (IsOf F C S) report_lines lines
parts_there F C S lines (form, rest, in_form, (name, rest2, named, (seq, rest3, numbered, (rows, rest4, each, last, e4), e3), e2), e) = (
  report_of form name seq rows,
  record { form = in_form; computer = named; seq = numbered; rows = rows_are form rows each },
  e ∙ ap (λ l. form_line form ∷ l) (e2 ∙ ap (λ l. computer_line name ∷ l) (e3 ∙ ap (λ l. seq_line seq ∷ l) (e4 ∙ ap (λ l. l ++ rest4) (flat_single (row_line form) rows) ∙ ap (λ l. map (row_line form) rows ++ l) last))),
)

pub parts_back : (F : Form → Type 0) (C : List ℕ → Type 0) (S : ℕ → Type 0) (lines : Lines) → AreLinesOf (IsOf F C S) report_lines lines → PartLines F C S lines
parts_back F C S lines (report, is, e) =
    let rows : List ReportRow = report.rows in
    let row_lines = map (row_line report.form) rows ++ end_line ∷ [] in (
      report.form,
      computer_line report.computer ∷ seq_line report.seq ∷ row_lines,
      is.form,
      (
        report.computer,
        seq_line report.seq ∷ row_lines,
        is.computer,
        (
          report.seq,
          row_lines,
          is.seq,
          (rows, end_line ∷ [], each_row report.form rows is.rows, refl, ap (λ l. l ++ end_line ∷ []) (sym (flat_single (row_line report.form) rows))),
          refl,
        ),
        refl,
      ),
      e,
    )

-- ---- some lines go on
rows_some : (form : Form) → HasSome (RowLines form)
rows_some form = (end_line ∷ [], ([], end_line ∷ [], each_none (CanFollow form), refl, refl))

seq_some : (S : ℕ → Type 0) (form : Form) (seq : ℕ) → S seq → HasSome (SeqLines S form)
seq_some S form seq numbered = let s = rows_some form in (seq_line seq ∷ s.0, (seq, s.0, numbered, s.1, refl))

pub name_some : (C : List ℕ → Type 0) (S : ℕ → Type 0) (form : Form) (name : List ℕ) (seq : ℕ) → C name → S seq → HasSome (NameLines C S form)
name_some C S form name seq named numbered = let s = seq_some S form seq numbered in (computer_line name ∷ s.0, (name, s.0, named, s.1, refl))

-- ---- where they stop: a line isn't ahead, or what stands behind one that was taken stops
pub at_form : (F : Form → Type 0) (C : List ℕ → Type 0) (S : ℕ → Type 0) (form : Form) (name : List ℕ) (seq : ℕ) (old new : LineState) → F form → C name → S seq → (new ≡ old) × IsNotAhead F form_line old → IsStuck (PartLines F C S) old new
at_form F C S form name seq old new is named numbered missing =
    stuck_first F (single form_line) (NameLines C S) old new (one_form F) (λ f _. name_some C S f name seq named numbered) (stuck_line F form_line form old new is missing)

pub behind_form : (F : Form → Type 0) (C : List ℕ → Type 0) (S : ℕ → Type 0) (form : Form) (old mid new : LineState) → F form → Passes old mid (form_line form ∷ []) → IsStuck (NameLines C S form) mid new → IsStuck (PartLines F C S) old new
behind_form F C S form old mid new is taken stuck = stuck_behind F (single form_line) (NameLines C S) form old mid new (one_form F) is taken stuck

pub at_name : (C : List ℕ → Type 0) (S : ℕ → Type 0) (form : Form) (name : List ℕ) (seq : ℕ) (old new : LineState) → C name → S seq → (new ≡ old) × IsNotAhead C computer_line old → IsStuck (NameLines C S form) old new
at_name C S form name seq old new named numbered missing =
    stuck_first C (single computer_line) (λ n. SeqLines S form) old new (one_name C) (λ n _. seq_some S form seq numbered) (stuck_line C computer_line name old new named missing)

pub behind_name : (C : List ℕ → Type 0) (S : ℕ → Type 0) (form : Form) (name : List ℕ) (old mid new : LineState) → C name → Passes old mid (computer_line name ∷ []) → IsStuck (SeqLines S form) mid new → IsStuck (NameLines C S form) old new
behind_name C S form name old mid new named taken stuck = stuck_behind C (single computer_line) (λ n. SeqLines S form) name old mid new (one_name C) named taken stuck

pub at_seq : (S : ℕ → Type 0) (form : Form) (seq : ℕ) (old new : LineState) → ((seq : ℕ) → S seq → IsId seq) → S seq → (new ≡ old) × IsNotAhead S seq_line old → IsStuck (SeqLines S form) old new
at_seq S form seq old new ids numbered missing =
    stuck_first S (single seq_line) (λ n. RowLines form) old new (one_seq S ids) (λ n _. rows_some form) (stuck_line S seq_line seq old new numbered missing)

pub at_end : (S : ℕ → Type 0) (form : Form) (seq : ℕ) (rows : List ReportRow) (old mid last new : LineState) → ((seq : ℕ) → S seq → IsId seq) → S seq → Passes old mid (seq_line seq ∷ []) → TakesAll (CanFollow form) (row_line form) mid last rows →
    TakesExactly end_line last new false → IsStuck (SeqLines S form) old new
at_end S form seq rows old mid last new ids numbered taken rows_taken missing =
    stuck_behind S (single seq_line) (λ n. RowLines form) seq old mid new (one_seq S ids) numbered taken (stuck_taken (one_rows form) rows mid last new rows_taken (stuck_only end_line last new missing))

-- all lines of a report were taken
pub report_passes : (form : Form) (computer : List ℕ) (seq : ℕ) (rows : List ReportRow) (old a b d e new : LineState) → Passes old a (form_line form ∷ []) → Passes a b (computer_line computer ∷ []) → Passes b d (seq_line seq ∷ []) →
    TakesAll (CanFollow form) (row_line form) d e rows → TakesExactly end_line e new true → Passes old new (report_lines (report_of form computer seq rows))
report_passes form computer seq rows old a b d e new first second third taken last =
    passes_then old a new (form_line form ∷ []) (computer_line computer ∷ seq_line seq ∷ (map (row_line form) rows ++ end_line ∷ [])) first
    (passes_then a b new (computer_line computer ∷ []) (seq_line seq ∷ (map (row_line form) rows ++ end_line ∷ [])) second
    (passes_then b d new (seq_line seq ∷ []) (map (row_line form) rows ++ end_line ∷ []) third
    (passes_then d e new (map (row_line form) rows) (end_line ∷ []) taken.1 last)))
