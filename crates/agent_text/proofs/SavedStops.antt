-- Where the lines of a saved text stop, and what is read where they don't.
use Rattle.std.proofs.Common.{ℕ, ◌≡◌, ◌<◌, true, false, List, [], ◌∷◌, ◌++◌, length, map, refl, sym, ap, subst, ◌∙◌, arith, All, None, pos}
use Rattle.std.specs.Prelude.{flat_map}
use Rattle.std.proofs.lemmas.List.Elements.{All-nil, All-cons, All-map}
use Rattle.std.proofs.lemmas.Int.{ints}
use Rattle.line_forms.specs.LineStates.{LineState}
use Rattle.line_forms.specs.Names.{IsName}
use Rattle.line_forms.specs.Numbers.{IsId}
use Rattle.line_forms.specs.Readers.{AreLinesOf, EachCan, IsNotAhead, IsStuck, Passes, StopsAt, TakesExactly}
use Rattle.line_forms.proofs.Passing.{cons_head, cons_tail, passes_then}
use Rattle.act_rules.specs.declared.row.Row.{Row}
use Rattle.act_rules.specs.Rows.{HasMoments, IsRows}
use Rattle.report_text.specs.declared.form.Form.{Form}
use Rattle.report_text.specs.declared.form.Form.TheVariants.{One, Two}
use Rattle.report_text.specs.declared.report.Report.{Report}
use Rattle.act_rules.specs.Notes.{no_note}
use Rattle.report_text.specs.Reports.{end_line, report_lines}
use Rattle.agent_text.specs.declared.saved.Saved.{Saved}
use Rattle.agent_text.specs.AttemptLines.{attempt_line}
use Rattle.agent_text.specs.SavedRows.{IsSavedRow}
use Rattle.agent_text.specs.Histories.{PlainHistory, pending_ids}
use Rattle.agent_text.specs.SavedTexts.{AreSavedLines, IsSavedBy, pending_line, saved_lines}
use Rattle.agent_text.specs.HistoryLines.{action_line, history_lines}
use Rattle.agent_text.specs.PartReadings.{Around, CanBeNext, CanCome, CanFollow, CanPend, HasHistories, HasReports, IsAbove, IsBadAt, IsFrame, IsRowIn, LacksAttempt, NoAttempt, TakesPending, frame_lines, history_line, report_line, untold}
use Rattle.agent_text.proofs.AttemptLists.{each_attempt}
use Rattle.agent_text.proofs.HistoryLists.{are_histories}
use Rattle.line_forms.proofs.Lasts.{each_all}
use Rattle.line_forms.proofs.Parts.{HasSome, HoldsNone, Lines, Only, holds_none, stuck_behind, stuck_first, stuck_only, stuck_same}
use Rattle.agent_text.proofs.PendingIds.{CanBePending, action_of}
use Rattle.agent_text.proofs.PendingSteps.{actions_of, told_histories}
use Rattle.agent_text.proofs.ReportLists.{one_report}
use Rattle.agent_text.proofs.SavedParts.{HistoriesPart, NextAttempt, PendingPart, ReportsPart, Whole, histories_sequence, one_frame, only_end, pending_sequence, report_tail, reports_sequence}
use Rattle.agent_text.proofs.SavedLines.{each_waits, flat_untold, saved_by, whole_back, whole_there}
use Rattle.line_forms.proofs.Sequences.{EndsLast, each_none, flat_single, stuck_inside, stuck_many, with_first}

-- ---- some lines go on
reports_some : (around : Around) → HasSome (ReportsPart (Only end_line) around)
reports_some around = (end_line ∷ [], ([], end_line ∷ [], each_none (CanCome around), refl, refl))

pending_some : (around : Around) (actions : List ℕ) → HasSome (PendingPart (Only end_line) around actions)
pending_some around actions = let s = reports_some around in (s.0, ([], s.0, each_none (CanBePending actions), s.1, refl))

histories_some : (around : Around) → HasSome (HistoriesPart (Only end_line) around)
histories_some around = let s = pending_some around [] in (s.0, ([], s.0, each_none (CanFollow around.form), s.1, refl))

-- where the parts behind the first three lines stop, the text stops
from_frame : (computer : List ℕ) (around : Around) (old a new : LineState) → IsName computer → IsFrame computer around → Passes old a (frame_lines around) → IsStuck (HistoriesPart (Only end_line) around) a new → IsStuck (AreSavedLines computer) old new
from_frame computer around old a new name frame first stuck =
    stuck_same (Whole computer) (AreSavedLines computer) old new (whole_back computer name) (whole_there computer)
    (stuck_behind (IsFrame computer) frame_lines (HistoriesPart (Only end_line)) around old a new (one_frame computer) frame first stuck)

-- and where the first three lines stop
pub at_frame : (computer : List ℕ) (old new : LineState) → IsName computer → IsStuck (AreLinesOf (IsFrame computer) frame_lines) old new → IsStuck (AreSavedLines computer) old new
at_frame computer old new name stuck =
    stuck_same (Whole computer) (AreSavedLines computer) old new (whole_back computer name) (whole_there computer)
    (stuck_first (IsFrame computer) frame_lines (HistoriesPart (Only end_line)) old new (one_frame computer) (λ around frame. histories_some around) stuck)

-- ---- in the histories
-- an attempt that can be the first of any action
abbrev first_row : Row
first_row = record { number = 1; begun = pos 0; end = None; cleared = None; note = no_note }

-- it can be saved
first_good : (form : Form) → IsRowIn form first_row
first_good One = ((refl, refl), refl)
first_good Two = (refl, refl)

first_next : (form : Form) → CanBeNext form [] first_row
first_next form = record { few = omega arith; number = refl; ended = tt; moments = ((omega (arith, ints), omega (arith, ints)), tt, tt); good = first_good form }

abbrev with_one : ℕ → PlainHistory
with_one action = record { action = action; rows = first_row ∷ []; pending = false }

one_numbered : IsRows (first_row ∷ [])
one_numbered = record { few = omega arith; numbered = (refl, tt); ended = tt; moments = All-cons HasMoments first_row [] ((omega (arith, ints), omega (arith, ints)), tt, tt) (All-nil HasMoments) }

-- a history with that attempt alone
one_follows : (form : Form) (before : List PlainHistory) (action : ℕ) → IsId action → IsAbove before action → CanFollow form before (with_one action)
one_follows form before action id above = record {
  good = record { action = id; rows = record { some = omega arith; numbered = one_numbered; good = All-cons IsSavedRow first_row [] (refl, refl) (All-nil IsSavedRow) } };
  rows = All-cons (IsRowIn form) first_row [] (first_good form) (All-nil (IsRowIn form));
  above = above;
  told = refl;
}

-- a history has an attempt, which is the first
has_first : (form : Form) (before : List PlainHistory) (h : PlainHistory) → CanFollow form before h → (row : Row) × (rest : List Row) × (h.rows ≡ row ∷ rest) × CanBeNext form [] row
has_first form before h can = from h.rows refl can.good.rows.some
  where
    from : (rows : List Row) → h.rows ≡ rows → 0 < length rows → (row : Row) × (rest : List Row) × (h.rows ≡ row ∷ rest) × CanBeNext form [] row
    from [] e some = absurd (omega (arith, some))
    from (row ∷ rest) e some = (row, rest, e, each_attempt form h.rows can.good.rows.numbered can.rows [] rest row e)

-- the line of an action alone stops where no attempt follows
lacks_stops : (form : Form) (before : List PlainHistory) (action : ℕ) (bad : LineState) → IsId action → IsAbove before action → NoAttempt form [] bad → StopsAt (AreLinesOf (CanFollow form before) (history_lines form)) (action_line action ∷ []) bad
lacks_stops form before action bad id above none = record {
  begins = (attempt_line form first_row ∷ [], (with_one action, one_follows form before action id above, refl));
  unfinished = λ (h, can, e). let f = has_first form before h can in no_more h f.0 f.1 f.2 e;
  ahead = λ line more ahead (rest, (h, can, e)). let f = has_first form before h can in none f.0 more f.3 (ahead ∙ ap (λ l. l ∷ more) (next h f.0 f.1 line rest f.2 e));
}
  where
    no_more : (h : PlainHistory) (row : Row) (rows : List Row) → h.rows ≡ row ∷ rows → action_line action ∷ [] ≡ history_lines form h → ⊥
    no_more h row rows is e =
        let k : [] ≡ attempt_line form row ∷ map (attempt_line form) rows = cons_tail (action_line action) (action_line h.action) [] (map (attempt_line form) h.rows) e ∙ ap (map (attempt_line form)) is in
        cc

    next : (h : PlainHistory) (row : Row) (rows : List Row) (line : List ℕ) (rest : Lines) → h.rows ≡ row ∷ rows → action_line action ∷ line ∷ rest ≡ history_lines form h → line ≡ attempt_line form row
    next h row rows line rest is e =
        cons_head line (attempt_line form row) rest (map (attempt_line form) rows) (cons_tail (action_line action) (action_line h.action) (line ∷ rest) (map (attempt_line form) h.rows) e ∙ ap (map (attempt_line form)) is)

-- and holds no history
lacks_holds : (form : Form) (before : List PlainHistory) (action : ℕ) → HoldsNone (CanFollow form before) (history_lines form) (action_line action ∷ [])
lacks_holds form before action h y can e =
    let f = has_first form before h can in
    let k : [] ≡ (attempt_line form f.0 ∷ map (attempt_line form) f.1) ++ y = cons_tail (action_line action) (action_line h.action) [] (map (attempt_line form) h.rows ++ y) e ∙ ap (λ r. map (attempt_line form) r ++ y) f.2 in
    cc

-- the text stops there
pub no_attempt : (computer : List ℕ) (around : Around) (hs : List PlainHistory) (old a mid : LineState) (number : ℕ) → IsName computer → IsFrame computer around → Passes old a (frame_lines around) → HasHistories around.form a mid hs →
    LacksAttempt around.form hs mid number → (bad : LineState) × IsStuck (AreSavedLines computer) old bad × (number ≡ bad.number)
no_attempt computer around hs old a mid number name frame first has (action, bad, id, above, passes, none, is) = (
  bad,
  from_frame computer around old a bad name frame first
      (stuck_inside (histories_sequence (Only end_line) around only_end) hs (action_line action) [] a mid bad has.each has.passes (λ h can. pending_some around (map action_of (hs ++ h ∷ [])))
      (lacks_holds around.form hs action) passes (lacks_stops around.form hs action bad id above none)),
  is,
)

-- ---- behind the histories
-- no further attempt goes on with the last
ends_histories : (around : Around) (hs : List PlainHistory) (a b : LineState) → HasHistories around.form a b hs → EndsLast (NextAttempt around.form) hs b.lines
ends_histories around hs a b has front h e (line, more, is, (row, next, spelled)) = has.whole front h e row more next (is ∙ ap (λ l. l ∷ more) spelled)

-- what stops behind the histories
from_histories : (computer : List ℕ) (around : Around) (hs : List PlainHistory) (old a b new : LineState) → IsName computer → IsFrame computer around → Passes old a (frame_lines around) → HasHistories around.form a b hs →
    IsNotAhead (CanFollow around.form hs) history_line b → IsStuck (PendingPart (Only end_line) around (map action_of hs)) b new → IsStuck (AreSavedLines computer) old new
from_histories computer around hs old a b new name frame first has none stuck =
    from_frame computer around old a new name frame first (stuck_many (histories_sequence (Only end_line) around only_end) hs a b new has.each has.passes none (ends_histories around hs a b has) stuck)

-- the ids of histories
good_ids : (form : Form) (hs : List PlainHistory) → EachCan (CanFollow form) hs → All IsId (map action_of hs)
good_ids form hs each = All-map IsId action_of hs (each_all (λ h. IsId h.action) (CanFollow form) (λ before h can. can.good.action) hs each)

-- no further pending action is ahead
pending_over : (hs marks : List PlainHistory) (state : LineState) → untold marks ≡ hs → IsNotAhead (CanPend marks) pending_line state → IsNotAhead (CanBePending (map action_of hs) (pending_ids marks)) pending_line state
pending_over hs marks state told none =
    let P : List ℕ → Type 0 = λ l. IsNotAhead (CanBePending l (pending_ids marks)) pending_line state in
    subst P (sym (actions_of marks) ∙ ap (map action_of) told) none

-- behind the pending actions
from_pending : (computer : List ℕ) (around : Around) (hs marks : List PlainHistory) (old a b d new : LineState) → IsName computer → IsFrame computer around → Passes old a (frame_lines around) → HasHistories around.form a b hs →
    IsNotAhead (CanFollow around.form hs) history_line b → TakesPending hs b d marks → IsStuck (ReportsPart (Only end_line) around) d new → IsStuck (AreSavedLines computer) old new
from_pending computer around hs marks old a b d new name frame first has none taken stuck =
    let P : Lines → Type 0 = Passes b d in
    from_histories computer around hs old a b new name frame first has none
    (stuck_many (pending_sequence (Only end_line) around (map action_of hs) only_end (good_ids around.form hs has.each)) (pending_ids marks) b d new (each_waits hs marks (told_histories hs marks taken.same (are_histories around.form hs has.each)) taken.same)
    (subst P (sym (flat_single pending_line (pending_ids marks))) taken.passes) (pending_over hs marks d taken.same taken.over) (λ front id e goes. goes.3) stuck)

-- in a report
pub in_report : (computer : List ℕ) (around : Around) (hs marks : List PlainHistory) (reports : List Report) (old a b d mid : LineState) (number : ℕ) → IsName computer → IsFrame computer around → Passes old a (frame_lines around) →
    HasHistories around.form a b hs → IsNotAhead (CanFollow around.form hs) history_line b → TakesPending hs b d marks → HasReports around d mid reports → IsBadAt (AreLinesOf (CanCome around reports) report_lines) mid number →
    (bad : LineState) × IsStuck (AreSavedLines computer) old bad × (number ≡ bad.number)
in_report computer around hs marks reports old a b d mid number name frame first has none taken read (bad, part, some, passes, stops, is) = (
  bad,
  from_pending computer around hs marks old a b d bad name frame first has none taken (inside part some passes stops),
  is,
)
  where
    inside : (part : Lines) → 0 < length part → Passes mid bad part → StopsAt (AreLinesOf (CanCome around reports) report_lines) part bad → IsStuck (ReportsPart (Only end_line) around) d bad
    inside [] some passes stops = absurd (omega (arith, some))
    inside (start ∷ begun) some passes stops =
        stuck_inside (reports_sequence (Only end_line) around only_end) reports start begun d mid bad read.each read.passes (λ r can. (end_line ∷ [], refl))
        (holds_none (CanCome around reports) (with_first report_line report_tail) (start ∷ begun) bad (λ v w x y can also e. one_report around reports v w x y can also e) stops) passes stops

-- at the last line
pub no_end : (computer : List ℕ) (around : Around) (hs marks : List PlainHistory) (reports : List Report) (old a b d e new : LineState) → IsName computer → IsFrame computer around → Passes old a (frame_lines around) →
    HasHistories around.form a b hs → IsNotAhead (CanFollow around.form hs) history_line b → TakesPending hs b d marks → HasReports around d e reports → IsNotAhead (CanCome around reports) report_line e →
    TakesExactly end_line e new false → IsStuck (AreSavedLines computer) old new
no_end computer around hs marks reports old a b d e new name frame first has none taken read over missing =
    from_pending computer around hs marks old a b d new name frame first has none taken
    (stuck_many (reports_sequence (Only end_line) around only_end) reports d e new read.each read.passes over (λ front r same goes. goes.3) (stuck_only end_line e new missing))

-- ---- all lines were taken
abbrev pub saved_of : List ℕ → Around → List PlainHistory → List Report → Saved
saved_of computer around marks reports = record { computer = computer; next = around.next; histories = marks; reports = reports }

-- what was read can be saved
pub whole_by : (computer : List ℕ) (around : Around) (hs marks : List PlainHistory) (reports : List Report) (b d e : LineState) (a : LineState) → IsName computer → IsFrame computer around → HasHistories around.form a b hs →
    TakesPending hs b d marks → HasReports around d e reports → IsSavedBy computer around.form (saved_of computer around marks reports)
whole_by computer around hs marks reports b d e a name frame has taken read =
    saved_by computer around (saved_of computer around marks reports) hs name frame refl refl taken.same has.each read.each

-- and these are its lines
pub whole_taken : (computer : List ℕ) (around : Around) (hs marks : List PlainHistory) (reports : List Report) (old a b d e new : LineState) → IsFrame computer around → Passes old a (frame_lines around) → HasHistories around.form a b hs →
    TakesPending hs b d marks → HasReports around d e reports → TakesExactly end_line e new true → Passes old new (saved_lines around.form (saved_of computer around marks reports))
whole_taken computer around hs marks reports old a b d e new frame first has taken read last =
    let Q : List ℕ → Type 0 = λ c. Passes old a (frame_lines (let r : Around = record { form = around.form; computer = c; next = around.next } in r)) in
    let hs_lines = flat_map (history_lines around.form) marks in
    let ids_lines = map pending_line (pending_ids marks) in
    let report_part = flat_map report_lines reports in
    passes_then old a new (frame_lines (let r : Around = record { form = around.form; computer = computer; next = around.next } in r)) (hs_lines ++ (ids_lines ++ (report_part ++ end_line ∷ []))) (subst Q frame.0 first)
    (passes_then a b new hs_lines (ids_lines ++ (report_part ++ end_line ∷ [])) (told marks hs taken.same has.passes)
    (passes_then b d new ids_lines (report_part ++ end_line ∷ []) taken.passes
    (passes_then d e new report_part (end_line ∷ []) read.passes last)))
  where
    told : (marks hs : List PlainHistory) → untold marks ≡ hs → Passes a b (flat_map (history_lines around.form) hs) → Passes a b (flat_map (history_lines around.form) marks)
    told marks hs same passes =
        let R : Lines → Type 0 = Passes a b in
        subst R (ap (flat_map (history_lines around.form)) (sym same) ∙ flat_untold around.form marks) passes
