-- The lines of a saved text, part by part.
use Rattle.std.proofs.Common.{ℕ, ◌≡◌, ◌≢◌, Bool, true, false, ◌==◌, get_or, List, [], ◌∷◌, ◌++◌, map, refl, sym, ap, ◌∙◌, arith, All}
use Rattle.std.specs.Prelude.{codes, decimal, flat_map}
use Rattle.std.proofs.lemmas.List.{append_cancel_left}
use Rattle.std.proofs.lemmas.List.Elements.{All-contains}
use Rattle.line_forms.specs.Fields.{field_text}
use Rattle.line_forms.specs.Numbers.{IsId}
use Rattle.line_forms.proofs.Passing.{cons_head, cons_tail}
use Rattle.line_forms.proofs.PlainLemmas.{id_one}
use Rattle.act_rules.specs.declared.row.Row.{Row}
use Rattle.report_text.specs.declared.form.Form.{Form}
use Rattle.report_text.specs.declared.form.Form.TheVariants.{One, Two}
use Rattle.report_text.specs.declared.report.Report.{Report}
use Rattle.report_text.specs.RowLines.{row_line}
use Rattle.report_text.specs.Reports.{computer_line, end_line, form_line, seq_line}
use Rattle.agent_text.specs.AttemptLines.{attempt_line}
use Rattle.agent_text.specs.Histories.{PlainHistory}
use Rattle.agent_text.specs.SavedTexts.{agent_line, next_line, pending_line}
use Rattle.agent_text.specs.HistoryLines.{action_line, history_lines}
use Rattle.agent_text.specs.PartReadings.{Around, CanBeNext, CanCome, CanFollow, IsFrame, frame_lines, history_line, report_line}
use Rattle.agent_text.proofs.AttemptLists.{each_attempt, next_attempt}
use Rattle.agent_text.proofs.AttemptRows.{attempt_one, noted}
use Rattle.line_forms.proofs.Parts.{IsOneWay, Lines, Only, Then}
use Rattle.agent_text.proofs.PendingIds.{CanBePending, action_of}
use Rattle.agent_text.proofs.ReportLists.{one_report}
use Rattle.line_forms.proofs.Sequences.{GoesOn, IsSequence, Many, NoNext, flat_single, many_one, no_tail, with_first}

-- ---- the parts
-- the lines of a report and of a history behind the first
abbrev pub report_tail : Report → Lines
report_tail report = computer_line report.computer ∷ seq_line report.seq ∷ (map (row_line report.form) report.rows ++ end_line ∷ [])

abbrev pub history_tail : Form → PlainHistory → Lines
history_tail form h = map (attempt_line form) h.rows

-- the set of what can stand behind the reports: it begins with the last line
abbrev pub IsEnd : (Lines → Type 0) → Type 0
IsEnd End = (rest : Lines) → End rest → (more : Lines) × (rest ≡ end_line ∷ more)

abbrev pub LastLines : (Lines → Type 0) → List Report → Lines → Type 0
LastLines End reports = End

-- reports and what stands behind them
abbrev pub ReportsPart : (Lines → Type 0) → Around → Lines → Type 0
ReportsPart End around = Many (CanCome around) report_line report_tail (LastLines End)

abbrev pub AfterPending : (Lines → Type 0) → Around → List ℕ → Lines → Type 0
AfterPending End around ids = ReportsPart End around

-- pending actions and what stands behind them
abbrev pub PendingPart : (Lines → Type 0) → Around → List ℕ → Lines → Type 0
PendingPart End around actions = Many (CanBePending actions) pending_line no_tail (AfterPending End around)

abbrev pub AfterHistories : (Lines → Type 0) → Around → List PlainHistory → Lines → Type 0
AfterHistories End around hs = PendingPart End around (map action_of hs)

-- histories and what stands behind them
abbrev pub HistoriesPart : (Lines → Type 0) → Around → Lines → Type 0
HistoriesPart End around = Many (CanFollow around.form) history_line (history_tail around.form) (AfterHistories End around)

-- the lines of a saved text of this computer
abbrev pub Whole : List ℕ → Lines → Type 0
Whole computer = Then (IsFrame computer) frame_lines (HistoriesPart (Only end_line))

-- the last line, and maybe others behind it
abbrev pub Ended : Lines → Type 0
Ended rest = (more : Lines) × (rest ≡ end_line ∷ more)

pub only_end : IsEnd (Only end_line)
only_end rest e = ([], e)

pub ended_end : IsEnd Ended
ended_end rest e = e

-- ---- what these parts begin with
-- no line that begins with this byte stands first
abbrev StartsWithout : ℕ → Lines → Type 0
StartsWithout byte lines = (line : List ℕ) (more : Lines) → lines ≡ line ∷ more → get_or line 0 0 ≢ byte

-- reports begin otherwise than actions and attempts, and than pending ones
reports_start : (End : Lines → Type 0) (around : Around) (lines : Lines) → IsEnd End → ReportsPart End around lines → StartsWithout 97 lines × StartsWithout 112 lines
reports_start End around lines ended ([], rest, each, last, e) = (other 97 (omega arith), other 112 (omega arith))
  where
    other : (byte : ℕ) → 101 ≢ byte → StartsWithout byte lines
    other byte apart line more h k =
        let end = ended rest last in
        let same : end_line ≡ line = cons_head end_line line end.0 more (sym end.1 ∙ sym e ∙ h) in
        apart (ap (λ l. get_or l 0 0) same ∙ k)
reports_start End around lines ended (r ∷ reports, rest, each, last, e) = (other 97 (omega arith), other 112 (omega arith))
  where
    first : (form : Form) → get_or (form_line form) 0 0 ≡ 114
    first form = refl

    other : (byte : ℕ) → 114 ≢ byte → StartsWithout byte lines
    other byte apart line more h k =
        let same : form_line r.form ≡ line = cons_head (form_line r.form) line ((report_tail r ++ flat_map (with_first report_line report_tail) reports) ++ rest) more (sym e ∙ h) in
        apart (sym (first r.form) ∙ ap (λ l. get_or l 0 0) same ∙ k)

-- pending actions begin otherwise than actions and attempts
pending_start : (End : Lines → Type 0) (around : Around) (actions : List ℕ) (lines : Lines) → IsEnd End → PendingPart End around actions lines → StartsWithout 97 lines
pending_start End around actions lines ended ([], rest, each, after, e) line more h k =
    (reports_start End around rest ended after).0 line more (sym e ∙ h) k
pending_start End around actions lines ended (id ∷ ids, rest, each, after, e) line more h k =
    let same : pending_line id ≡ line = cons_head (pending_line id) line (flat_map (with_first pending_line no_tail) ids ++ rest) more (sym e ∙ h) in
    let byte : 112 ≡ 97 = ap (λ l. get_or l 0 0) same ∙ k in
    omega (arith, byte)

-- ---- each part is a sequence
pub reports_sequence : (End : Lines → Type 0) (around : Around) → IsEnd End → IsSequence (CanCome around) report_line report_tail NoNext (LastLines End)
reports_sequence End around ended = record {
  one = λ before v w x y can also _ _ e. one_report around before v w x y can also e;
  firsts = λ before v w can next. next;
  foreign = λ reports v rest more last can e. let end = ended rest last in differs v.form (cons_head (form_line v.form) end_line more end.0 (sym e ∙ end.1));
  ends = λ reports rest v last goes. goes.3;
}
  where
    differs : (form : Form) → form_line form ≡ end_line → ⊥
    differs form h = cc

pub pending_sequence : (End : Lines → Type 0) (around : Around) (actions : List ℕ) → IsEnd End → All IsId actions → IsSequence (CanBePending actions) pending_line no_tail NoNext (AfterPending End around)
pending_sequence End around actions ended ids = record {
  one = λ before v w x y can also _ _ e.
      id_one v w (All-contains IsId actions v ids can.0) (All-contains IsId actions w ids also.0) (append_cancel_left (field_text (codes "pending")) (decimal v) (decimal w) (cons_head (pending_line v) (pending_line w) x y e));
  firsts = λ before v w can next. next;
  foreign = λ before v rest more after can e. (reports_start End around rest ended after).1 (pending_line v) more e refl;
  ends = λ before rest v after goes. goes.3;
}

-- a further attempt goes on with a history
abbrev pub NextAttempt : Form → PlainHistory → List ℕ → Type 0
NextAttempt form h line = (row : Row) × CanBeNext form h.rows row × (line ≡ attempt_line form row)

-- no attempt that can stand behind these begins the lines
abbrev NoneNext : Form → List Row → Lines → Type 0
NoneNext form rows lines = (row : Row) (more : Lines) → CanBeNext form rows row → lines ≡ attempt_line form row ∷ more → ⊥

-- attempts behind one another
attempts_sequence : (form : Form) → IsSequence (CanBeNext form) (attempt_line form) no_tail NoNext (NoneNext form)
attempts_sequence form = record {
  one = λ before v w x y can also _ _ e.
      attempt_one form v w (noted form v (next_attempt form before v can)) (noted form w (next_attempt form before w also)) (cons_head (attempt_line form v) (attempt_line form w) x y e);
  firsts = λ before v w can next. next;
  foreign = λ rows v rest more none can e. none v more can e;
  ends = λ rows rest v none goes. goes.3;
}

-- a history is known by its lines, where no attempt that can be next follows
one_history : (form : Form) (before : List PlainHistory) (v w : PlainHistory) (x y : Lines) → CanFollow form before v → CanFollow form before w → (GoesOn (NextAttempt form) v x → ⊥) → (GoesOn (NextAttempt form) w y → ⊥) →
    history_lines form v ++ x ≡ history_lines form w ++ y → v ≡ w
one_history form before v w x y can also over done e =
    let actions : v.action ≡ w.action = id_one v.action w.action can.good.action also.good.action (append_cancel_left (field_text (codes "action")) (decimal v.action) (decimal w.action) (cons_head (action_line v.action) (action_line w.action) _ _ e)) in
    let behind = cons_tail (action_line v.action) (action_line w.action) (map (attempt_line form) v.rows ++ x) (map (attempt_line form) w.rows ++ y) e in
    let rows = (many_one (attempts_sequence form) v.rows w.rows x y (each_attempt form v.rows can.good.rows.numbered can.rows) (each_attempt form w.rows also.good.rows.numbered also.rows)
    (λ row more next h. over (attempt_line form row, more, h, (row, next, refl))) (λ row more next h. done (attempt_line form row, more, h, (row, next, refl)))
    (ap (λ l. l ++ x) (flat_single (attempt_line form) v.rows) ∙ behind ∙ ap (λ l. l ++ y) (sym (flat_single (attempt_line form) w.rows)))).0 in
    same_parts v w actions rows (can.told ∙ sym also.told)
  where
    same_parts : (v w : PlainHistory) → v.action ≡ w.action → v.rows ≡ w.rows → v.pending ≡ w.pending → v ≡ w
    same_parts v w h k l =
        ap (λ (n : ℕ). let p : PlainHistory = record { action = n; rows = v.rows; pending = v.pending } in p) h
        ∙ ap (λ (r : List Row). let p : PlainHistory = record { action = w.action; rows = r; pending = v.pending } in p) k
        ∙ ap (λ (b : Bool). let p : PlainHistory = record { action = w.action; rows = w.rows; pending = b } in p) l

pub histories_sequence : (End : Lines → Type 0) (around : Around) → IsEnd End → IsSequence (CanFollow around.form) history_line (history_tail around.form) (NextAttempt around.form) (AfterHistories End around)
histories_sequence End around ended = record {
  one = one_history around.form;
  firsts = λ before v w can next. differs v.action next.0 next.2;
  foreign = λ hs v rest more after can e. pending_start End around (map action_of hs) rest ended after (action_line v.action) more e refl;
  ends = λ hs rest v after goes. pending_start End around (map action_of hs) rest ended after goes.0 goes.1 goes.2 (ap (λ l. get_or l 0 0) goes.3.2);
}
  where
    differs : (action : ℕ) (row : Row) → action_line action ≡ attempt_line around.form row → ⊥
    differs action row h = let second : 99 ≡ 116 = ap (λ l. get_or l 1 0) h in omega (arith, second)

-- the first three lines are known, whatever follows
pub agent_one : (f g : Form) → agent_line f ≡ agent_line g → f ≡ g
agent_one One One h = refl
agent_one One Two h = let k : false ≡ true = ap (λ l. get_or l 6 0 == 50) h in cc
agent_one Two One h = let k : true ≡ false = ap (λ l. get_or l 6 0 == 50) h in cc
agent_one Two Two h = refl

-- the first three lines are known, whatever follows
pub one_frame : (computer : List ℕ) → IsOneWay (IsFrame computer) frame_lines
one_frame computer v w x y is fine e =
    let two = cons_tail (agent_line v.form) (agent_line w.form) _ _ e in
    let three = cons_tail (computer_line v.computer) (computer_line w.computer) _ _ two in
    let forms = agent_one v.form w.form (cons_head (agent_line v.form) (agent_line w.form) _ _ e) in
    let nexts = id_one v.next w.next is.1 fine.1 (append_cancel_left (field_text (codes "next")) (decimal v.next) (decimal w.next) (cons_head (next_line v.next) (next_line w.next) _ _ three)) in
    ap (λ (f : Form). let a : Around = record { form = f; computer = v.computer; next = v.next } in a) forms
    ∙ ap (λ (c : List ℕ). let a : Around = record { form = w.form; computer = c; next = v.next } in a) (is.0 ∙ sym fine.0)
    ∙ ap (λ (n : ℕ). let a : Around = record { form = w.form; computer = w.computer; next = n } in a) nexts
