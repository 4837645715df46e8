-- What is answered to a text that is read as a saved one, and the laws of such texts. Other crates may cite these lemmas.
use Rattle.std.proofs.Common.{ℕ, ◌≡◌, ◌≢◌, List, [], ◌++◌, length, take, true, false, map, arith, refl, sym, ap, subst, ◌∙◌, All, Ok, Err, ◌⊎◌, inl, inr, append-nil}
use Rattle.std.specs.declared.result.Result.{Result}
use Rattle.std.proofs.lemmas.List.{length-map, take_at}
use Rattle.std.proofs.lemmas.List.Elements.{All-nil}
use Rattle.line_forms.specs.BadLines.{AnswersBadLine}
use Rattle.line_forms.specs.LineStates.{LineState, before_lines, lines_of, unended_of}
use Rattle.line_forms.specs.Lines.{IsLine, lines_text}
use Rattle.line_forms.specs.Names.{IsName}
use Rattle.line_forms.specs.Readers.{IsOver, IsStuck, Passes, TakesExactly}
use Rattle.line_forms.proofs.BadLines.{first_bad_line-none}
use Rattle.line_forms.proofs.Passing.{left_answers, stuck_answers, text_is}
use Rattle.report_text.specs.declared.form.Form.{Form}
use Rattle.report_text.specs.declared.form.Form.TheVariants.{Two}
use Rattle.report_text.specs.declared.report.Report.{Report}
use Rattle.report_text.specs.Reports.{end_line}
use Rattle.agent_text.specs.declared.error.SavedError.{SavedError}
use Rattle.agent_text.specs.declared.error.SavedError.TheVariants as error
use Rattle.agent_text.specs.declared.history.History.{History}
use Rattle.agent_text.specs.declared.saved.Saved.{Saved}
use Rattle.agent_text.specs.Histories.{AreHistories, PlainHistory, shown_history}
use Rattle.agent_text.specs.SavedTexts.{AreSavedLines, FitsForm, IsSaved, IsSavedBy, ReadsSaved, saved_lines, saved_text}
use Rattle.agent_text.specs.PartReadings.{Around, IsFrame, TakesAllHistories, TakesAllReports, TakesFrame, TakesPending, frame_lines, untold, untold_one}
use Rattle.agent_text.proofs.HistoryLists.{are_histories}
use Rattle.agent_text.proofs.PendingSteps.{told_histories}
use Rattle.agent_text.proofs.SavedBytes.{saved_are}
use Rattle.agent_text.proofs.SavedLines.{never_goes_on, saved_one}
use Rattle.agent_text.proofs.SavedStops.{at_frame, in_report, no_attempt, no_end, saved_of, whole_by, whole_taken}

-- where the cursor is stuck, the line ahead is the first bad one
stuck : (computer text : List ℕ) (start bad : LineState) (n : ℕ) → start ≡ before_lines text → IsStuck (AreSavedLines computer) start bad → n ≡ bad.number → AnswersBadLine (AreSavedLines computer) text n
stuck computer text start bad n begin is number =
    let P : LineState → Type 0 = λ s. IsStuck (AreSavedLines computer) s bad in
    let A : ℕ → Type 0 = AnswersBadLine (AreSavedLines computer) text in
    subst A (sym number) (stuck_answers (AreSavedLines computer) text bad (subst P begin is))

-- a bad line among the first three
pub bad_frame : (computer text : List ℕ) (start new : LineState) (e : SavedError) → start ≡ before_lines text → IsName computer → TakesFrame computer start new (Err e) → ReadsSaved computer text (Err e)
bad_frame computer text start new (error.BadLine n) begin name bad = stuck computer text start new n begin (at_frame computer start new name bad.0) bad.1
bad_frame computer text start new error.Memory begin name bad = tt

-- one among the histories
pub bad_histories : (computer text : List ℕ) (around : Around) (start a b : LineState) (e : SavedError) → start ≡ before_lines text → IsName computer → IsFrame computer around → Passes start a (frame_lines around) →
    TakesAllHistories around.form a b (Err e) → ReadsSaved computer text (Err e)
bad_histories computer text around start a b (error.BadLine n) begin name frame first (hs, mid, has, lacks) =
    let r = no_attempt computer around hs start a mid n name frame first has lacks in
    stuck computer text start r.0 n begin r.1 r.2
bad_histories computer text around start a b error.Memory begin name frame first bad = tt

-- one among the reports
pub bad_reports : (computer text : List ℕ) (around : Around) (list : List History) (marks : List PlainHistory) (start a b d f : LineState) (e : SavedError) → start ≡ before_lines text → IsName computer → IsFrame computer around →
    Passes start a (frame_lines around) → TakesAllHistories around.form a b (Ok list) → TakesPending (map shown_history list) b d marks → TakesAllReports around d f (Err e) → ReadsSaved computer text (Err e)
bad_reports computer text around list marks start a b d f (error.BadLine n) begin name frame first has taken (reports, mid, read, bad) =
    let r = in_report computer around (map shown_history list) marks reports start a b d mid n name frame first has.0 has.1 taken read bad in
    stuck computer text start r.0 n begin r.1 r.2
bad_reports computer text around list marks start a b d f error.Memory begin name frame first has taken bad = tt

-- one in place of the last line
pub not_ended : (computer text : List ℕ) (around : Around) (list : List History) (marks : List PlainHistory) (reports : List Report) (start a b d f new : LineState) (n : ℕ) → start ≡ before_lines text → IsName computer → IsFrame computer around →
    Passes start a (frame_lines around) → TakesAllHistories around.form a b (Ok list) → TakesPending (map shown_history list) b d marks → TakesAllReports around d f (Ok reports) → TakesExactly end_line f new false → n ≡ new.number →
    AnswersBadLine (AreSavedLines computer) text n
not_ended computer text around list marks reports start a b d f new n begin name frame first has taken read missing number =
    stuck computer text start new n begin (no_end computer around (map shown_history list) marks reports start a b d f new name frame first has.0 has.1 taken read.0 read.1 missing) number

-- one behind the last line
pub not_over : (computer text : List ℕ) (around : Around) (list : List History) (marks : List PlainHistory) (reports : List Report) (start a b d f new : LineState) (n : ℕ) → start ≡ before_lines text → IsName computer → IsFrame computer around →
    Passes start a (frame_lines around) → TakesAllHistories around.form a b (Ok list) → TakesPending (map shown_history list) b d marks → TakesAllReports around d f (Ok reports) → TakesExactly end_line f new true → (IsOver new → ⊥) →
    n ≡ new.number → AnswersBadLine (AreSavedLines computer) text n
not_over computer text around list marks reports start a b d f new n begin name frame first has taken read last left number =
    let saved = saved_of computer around marks reports in
    let by = whole_by computer around (map shown_history list) marks reports b d f a name frame has.0 taken read.0 in
    let P : LineState → Type 0 = λ s. Passes s new (saved_lines around.form saved) in
    let A : ℕ → Type 0 = AnswersBadLine (AreSavedLines computer) text in
    subst A (sym number)
    (left_answers (AreSavedLines computer) text (saved_lines around.form saved) new (subst P begin (whole_taken computer around (map shown_history list) marks reports start a b d f new frame first has.0 taken read.0 last))
    (around.form, saved, by, refl) (never_goes_on computer around.form saved by) left)

-- the text is that of what is answered
pub saved_is : (computer text : List ℕ) (around : Around) (list : List History) (marks : List PlainHistory) (reports : List Report) (start a b d f new : LineState) (saved : Saved) → start ≡ before_lines text → IsName computer → IsFrame computer around →
    Passes start a (frame_lines around) → TakesAllHistories around.form a b (Ok list) → TakesPending (map shown_history list) b d marks → TakesAllReports around d f (Ok reports) → TakesExactly end_line f new true → IsOver new →
    saved ≡ saved_of computer around marks reports → ReadsSaved computer text (Ok saved)
saved_is computer text around list marks reports start a b d f new saved begin name frame first has taken read last over is =
    let whole = saved_of computer around marks reports in
    let P : LineState → Type 0 = λ s. Passes s new (saved_lines around.form whole) in
    let R : Saved → Type 0 = λ s. ReadsSaved computer text (Ok s) in
    subst R (sym is) (
      around.form,
      whole_by computer around (map shown_history list) marks reports b d f a name frame has.0 taken read.0,
      text_is text (saved_lines around.form whole) new (subst P begin (whole_taken computer around (map shown_history list) marks reports start a b d f new frame first has.0 taken read.0 last)) over,
    )

-- ---- laws
-- the lines of a text are read again
abbrev pub LinesAgain : Type 0
LinesAgain = (lines : List (List ℕ)) (unended : List ℕ) → All IsLine lines → IsLine unended → lines_of (lines_text lines ++ unended) ≡ lines

abbrev pub UnendedAgain : Type 0
UnendedAgain = (lines : List (List ℕ)) (unended : List ℕ) → All IsLine lines → IsLine unended → unended_of (lines_text lines ++ unended) ≡ unended

-- the lines of what is saved are those of its text
lines_again : LinesAgain → (form : Form) (saved : Saved) → IsSaved saved → FitsForm form saved → lines_of (lines_text (saved_lines form saved)) ≡ saved_lines form saved
lines_again law form saved is fits = ap lines_of (sym (append-nil (lines_text (saved_lines form saved)))) ∙ law (saved_lines form saved) [] (saved_are form saved is fits) (All-nil (λ x. x ≢ 10))

nothing_again : UnendedAgain → (form : Form) (saved : Saved) → IsSaved saved → FitsForm form saved → unended_of (lines_text (saved_lines form saved)) ≡ []
nothing_again law form saved is fits = ap unended_of (sym (append-nil (lines_text (saved_lines form saved)))) ∙ law (saved_lines form saved) [] (saved_are form saved is fits) (All-nil (λ x. x ≢ 10))

-- a text is that of one thing that is saved
pub text_one : LinesAgain → (computer : List ℕ) (form other_form : Form) (saved other : Saved) → IsSavedBy computer form saved → IsSavedBy computer other_form other → lines_text (saved_lines form saved) ≡ lines_text (saved_lines other_form other) →
    (form ≡ other_form) × (saved ≡ other)
text_one law computer form other_form saved other by also e =
    saved_one computer form other_form saved other by also (sym (lines_again law form saved by.0 by.1) ∙ ap lines_of e ∙ lines_again law other_form other also.0 also.1)

-- what was saved is read again
pub read_again : LinesAgain → UnendedAgain → (saved : Saved) (answer : Result Saved SavedError) → IsSaved saved → ReadsSaved saved.computer (saved_text saved) answer → (answer ≡ Ok saved) ⊎ (answer ≡ Err error.Memory)
read_again law rest saved (Ok read) is (form, by, text) =
    inl (ap (λ (s : Saved). Ok s) (sym (text_one law saved.computer Two form saved read (is, tt, refl) by text).1))
read_again law rest saved (Err (error.BadLine line)) is (n, bad, e) =
    absurd (first_bad_line-none (AreSavedLines saved.computer) (saved_text saved) n (nothing_again rest Two saved is tt, (Two, saved, (is, tt, refl), lines_again law Two saved is tt)) bad)
read_again law rest saved (Err error.Memory) is reads = inr refl

-- ---- the list of histories, some of which were marked
-- what stands in the list is what was marked
pub marked_items : (items rest new : List History) (count : ℕ) → untold (map shown_history new) ≡ map shown_history items → length items ≡ count → take count (new ++ rest) ≡ new
marked_items items rest new count same counted =
    let shown : length (untold (map shown_history new)) ≡ length (map shown_history items) = ap (length {A = PlainHistory}) same in
    take_at new rest count (omega (arith, shown, counted, length-map (map shown_history new) untold_one, length-map new shown_history, length-map items shown_history))

-- and can be saved
pub marked_good : (form : Form) (a b d : LineState) (list seen new : List History) → TakesAllHistories form a b (Ok list) → seen ≡ list → TakesPending (map shown_history seen) b d (map shown_history new) → AreHistories (map shown_history new)
marked_good form a b d list seen new has is taken =
    let T : List History → Type 0 = λ l. TakesPending (map shown_history l) b d (map shown_history new) in
    told_histories (map shown_history list) (map shown_history new) (subst T is taken).same (are_histories form (map shown_history list) has.0.each)
