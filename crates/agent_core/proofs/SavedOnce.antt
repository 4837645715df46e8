-- A text is what was saved once, whatever computer and form it names.
use Rattle.std.proofs.Common.{ℕ, ◌≡◌, ◌≢◌, List, [], refl, sym, ap, ◌∙◌, append-nil}
use Rattle.std.specs.Prelude.{codes}
use Rattle.std.proofs.lemmas.List.{append_cancel_left}
use Rattle.std.proofs.lemmas.List.Elements.{All-nil}
use Rattle.line_forms.specs.Fields.{field_text}
use Rattle.line_forms.specs.LineStates.{lines_of}
use Rattle.line_forms.specs.Lines.{lines_text}
use Rattle.line_forms.proofs.Passing.{cons_head, cons_tail}
use Rattle.report_text.specs.declared.form.Form.{Form}
use Rattle.report_text.specs.declared.form.Form.TheVariants.{Two}
use Rattle.report_text.specs.Reports.{computer_line}
use Rattle.agent_text.specs.declared.saved.Saved.{Saved}
use Rattle.agent_text.specs.SavedTexts.{FitsForm, IsSaved, IsSavedBy, agent_line, saved_lines}
use Rattle.agent_text.proofs.SavedAnswers.{LinesAgain}
use Rattle.agent_text.proofs.SavedBytes.{saved_are}
use Rattle.agent_state.specs.States.{State, saved_of, text_of}
use Rattle.agent_core.specs.Stops.{IsTextOfSaved}

-- the law of the texts of one computer
abbrev pub OneSaved : Type 0
OneSaved = (computer : List ℕ) (form other_form : Form) (saved other : Saved) → IsSavedBy computer form saved → IsSavedBy computer other_form other
    → lines_text (saved_lines form saved) ≡ lines_text (saved_lines other_form other) → (form ≡ other_form) × (saved ≡ other)

pub lines_again : LinesAgain → (form : Form) (saved : Saved) → IsSaved saved → FitsForm form saved → lines_of (lines_text (saved_lines form saved)) ≡ saved_lines form saved
lines_again law form saved is fits = ap lines_of (sym (append-nil (lines_text (saved_lines form saved)))) ∙ law (saved_lines form saved) [] (saved_are form saved is fits) (All-nil (λ x. x ≢ 10))

-- the second line names the computer
same_computer : LinesAgain → (form other_form : Form) (saved other : Saved) → IsSavedBy saved.computer form saved → IsSavedBy other.computer other_form other
    → lines_text (saved_lines form saved) ≡ lines_text (saved_lines other_form other) → saved.computer ≡ other.computer
same_computer law form other_form saved other by also e =
    let lines : saved_lines form saved ≡ saved_lines other_form other = sym (lines_again law form saved by.0 by.1) ∙ ap lines_of e ∙ lines_again law other_form other also.0 also.1 in
    let rest = cons_tail (agent_line form) (agent_line other_form) _ _ lines in
    append_cancel_left (field_text (codes "computer")) saved.computer other.computer (cons_head (computer_line saved.computer) (computer_line other.computer) _ _ rest)

pub saved_once : OneSaved → LinesAgain → (text : List ℕ) (saved other : Saved) → IsTextOfSaved text saved → IsTextOfSaved text other → saved ≡ other
saved_once one law text saved other (form, by, e) (other_form, also, f) =
    let same : lines_text (saved_lines form saved) ≡ lines_text (saved_lines other_form other) = sym e ∙ f in
    (one other.computer form other_form saved other (by.0, by.1, same_computer law form other_form saved other by also same) also same).1

-- the text of a state that can be saved is that of what is saved of it
pub own_text : (s : State) → IsSaved (saved_of s) → IsTextOfSaved (text_of s) (saved_of s)
own_text s is = (Two, (is, tt, refl), refl)
