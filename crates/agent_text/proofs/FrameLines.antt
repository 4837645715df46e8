-- The first three lines of a saved text, and where they stop.
use Rattle.std.proofs.Common.{ℕ, ◌≡◌, List, [], ◌∷◌, refl, ap, ◌∙◌, arith, false}
use Rattle.line_forms.specs.LineStates.{LineState}
use Rattle.line_forms.specs.Numbers.{IsId}
use Rattle.line_forms.specs.Readers.{AreLinesOf, IsAny, IsNotAhead, IsStuck, Passes, TakesExactly}
use Rattle.line_forms.proofs.Passing.{passes_then}
use Rattle.report_text.specs.declared.form.Form.{Form}
use Rattle.report_text.specs.declared.form.Form.TheVariants.{One}
use Rattle.report_text.specs.Reports.{computer_line}
use Rattle.agent_text.specs.SavedTexts.{agent_line, next_line}
use Rattle.agent_text.specs.PartReadings.{Around, IsFrame, frame_lines}
use Rattle.line_forms.proofs.Parts.{HasSome, IsOneWay, Lines, Then, one_way-line, single, stuck_behind, stuck_first, stuck_line, stuck_same}
use Rattle.report_text.proofs.ReportParts.{one_name}
use Rattle.agent_text.proofs.ReportLists.{IsOwn, stuck_own}
use Rattle.agent_text.proofs.SavedParts.{agent_one}

-- the lines from the next number on, from the computer on, and all three
abbrev NextPart : Lines → Type 0
NextPart = AreLinesOf IsId (single next_line)

abbrev OwnPart : List ℕ → Lines → Type 0
OwnPart computer = Then (IsOwn computer) (single computer_line) (λ name. NextPart)

abbrev FrameParts : List ℕ → Lines → Type 0
FrameParts computer = Then IsAny (single agent_line) (λ form. OwnPart computer)

abbrev Frames : List ℕ → Lines → Type 0
Frames computer = AreLinesOf (IsFrame computer) frame_lines

-- the set in these parts is that of the first three lines
there : (computer : List ℕ) (lines : Lines) → FrameParts computer lines → Frames computer lines
there computer lines (form, rest, any, (name, rest2, own, (next, id, e3), e2), e) =
    let around : Around = record { form = form; computer = name; next = next } in
    (around, (own, id), e ∙ ap (λ l. agent_line form ∷ l) (e2 ∙ ap (λ l. computer_line name ∷ l) e3))

back : (computer : List ℕ) (lines : Lines) → Frames computer lines → FrameParts computer lines
back computer lines (around, (own, id), e) =
    (around.form, computer_line around.computer ∷ next_line around.next ∷ [], tt, (around.computer, next_line around.next ∷ [], own, (around.next, id, refl), refl), e)

one_form : IsOneWay (IsAny {V = Form}) (single agent_line)
one_form = one_way-line (IsAny {V = Form}) agent_line (λ f g is fine e. agent_one f g e)

an_id : IsId 1
an_id = (omega arith, omega arith)

next_some : HasSome NextPart
next_some = (next_line 1 ∷ [], (1, an_id, refl))

own_some : (computer : List ℕ) → HasSome (OwnPart computer)
own_some computer = (computer_line computer ∷ next_line 1 ∷ [], (computer, next_line 1 ∷ [], refl, (1, an_id, refl), refl))

-- the first line is missing
pub no_form : (computer : List ℕ) (old new : LineState) → (new ≡ old) × IsNotAhead (IsAny {V = Form}) agent_line old → IsStuck (Frames computer) old new
no_form computer old new missing =
    stuck_same (FrameParts computer) (Frames computer) old new (there computer) (back computer)
    (stuck_first (IsAny {V = Form}) (single agent_line) (λ form. OwnPart computer) old new one_form (λ form any. own_some computer) (stuck_line (IsAny {V = Form}) agent_line One old new tt missing))

-- the computer's line is missing
pub no_computer : (computer : List ℕ) (form : Form) (old a new : LineState) → Passes old a (agent_line form ∷ []) → TakesExactly (computer_line computer) a new false → IsStuck (Frames computer) old new
no_computer computer form old a new first missing =
    stuck_same (FrameParts computer) (Frames computer) old new (there computer) (back computer)
    (stuck_behind (IsAny {V = Form}) (single agent_line) (λ form. OwnPart computer) form old a new one_form tt first
    (stuck_first (IsOwn computer) (single computer_line) (λ name. NextPart) a new (one_name (IsOwn computer)) (λ name own. next_some)
    (stuck_own computer a new missing)))

-- the line of the next number is missing
pub no_next : (computer : List ℕ) (form : Form) (old a b new : LineState) → Passes old a (agent_line form ∷ []) → Passes a b (computer_line computer ∷ []) → (new ≡ b) × IsNotAhead IsId next_line b → IsStuck (Frames computer) old new
no_next computer form old a b new first second missing =
    stuck_same (FrameParts computer) (Frames computer) old new (there computer) (back computer)
    (stuck_behind (IsAny {V = Form}) (single agent_line) (λ form. OwnPart computer) form old a new one_form tt first
    (stuck_behind (IsOwn computer) (single computer_line) (λ name. NextPart) computer a b new (one_name (IsOwn computer)) refl second (stuck_line IsId next_line 1 b new an_id missing)))

-- all three were taken
pub three_lines : (computer : List ℕ) (form : Form) (next : ℕ) (old a b new : LineState) → Passes old a (agent_line form ∷ []) → Passes a b (computer_line computer ∷ []) → Passes b new (next_line next ∷ []) →
    let around : Around = record { form = form; computer = computer; next = next } in Passes old new (frame_lines around)
three_lines computer form next old a b new first second third =
    passes_then old a new (agent_line form ∷ []) (computer_line computer ∷ next_line next ∷ []) first (passes_then a b new (computer_line computer ∷ []) (next_line next ∷ []) second third)
