-- The lines of an action that is aimed at computers.
use Rattle.std.proofs.Common.{◌≡◌, ℕ, ◌+◌, ◌<◌, Bool, List, [], ◌∷◌, ◌++◌, length, take, sym, ap, ◌∙◌}
use Rattle.std.specs.Prelude.{codes, flat_map, get_or, map}
use Rattle.std.proofs.lemmas.List.{append_assoc, append-nil, map-append, take_more}
use Rattle.std.proofs.lemmas.List.Concat.{flat_map-append}
use Rattle.line_forms.specs.Lines.{ended_line, lines_text}
use Rattle.line_forms.specs.LineStates.{LineState}
use Rattle.line_forms.specs.Readers.{Passes}
use Rattle.fix_site.specs.Actions as action
use Rattle.office_play.specs.Aiming.{rest_aimed}

flat_map_push : (f : List ℕ → List ℕ) (xs : List (List ℕ)) (x : List ℕ) → flat_map f (xs ++ x ∷ []) ≡ flat_map f xs ++ f x
flat_map_push f xs x = flat_map-append f xs (x ∷ []) ∙ ap (λ l. flat_map f xs ++ l) (append-nil (f x))

-- One line more is said.
pub goes_on : (is_aimed then_aimed : Bool) (computers : List (List ℕ)) (old new : LineState) (line out then all : List ℕ)
    → Passes old new (line ∷ [])
    → ((more : List (List ℕ)) → then ++ lines_text (rest_aimed then_aimed computers more)
    ≡ out ++ lines_text (rest_aimed is_aimed computers (line ∷ more)))
    → out ++ lines_text (rest_aimed is_aimed computers old.lines) ≡ all
    → then ++ lines_text (rest_aimed then_aimed computers new.lines) ≡ all
goes_on is_aimed then_aimed computers old new line out then all passed said so =
    said new.lines ∙ ap (λ l. out ++ lines_text (rest_aimed is_aimed computers l)) (sym passed.0) ∙ so

-- A line of a computer, piece by piece.
pub written_line : (computer start one two three : List ℕ) → one ≡ start ++ codes "target computer " → two ≡ one ++ computer
    → three ≡ two ++ 10 ∷ [] → three ≡ start ++ ended_line (action.computer_line computer)
written_line computer start one two three first second third =
    third ∙ ap (λ t. t ++ 10 ∷ []) (second ∙ ap (λ t. t ++ computer) first)
    ∙ ap (λ t. t ++ 10 ∷ []) (append_assoc start (codes "target computer ") computer)
    ∙ append_assoc start (codes "target computer " ++ computer) (10 ∷ [])

-- One computer more has its line.
pub computer_more : (computers : List (List ℕ)) (at : ℕ) (computer out now then : List ℕ) → at < length computers
    → computer ≡ get_or computers at computer → now ≡ out ++ lines_text (map action.computer_line (take at computers))
    → then ≡ now ++ ended_line (action.computer_line computer)
    → then ≡ out ++ lines_text (map action.computer_line (take (at + 1) computers))
computer_more computers at computer out now then within is so said =
    let before = map action.computer_line (take at computers) in
    let more : take (at + 1) computers ≡ take at computers ++ computer ∷ [] =
    take_more computers at computer within ∙ ap (λ c. take at computers ++ c ∷ []) (sym is) in
    said ∙ ap (λ t. t ++ ended_line (action.computer_line computer)) so
    ∙ append_assoc out (lines_text before) (ended_line (action.computer_line computer))
    ∙ ap (λ t. out ++ t) (sym (flat_map_push ended_line before (action.computer_line computer)))
    ∙ ap (λ l. out ++ lines_text l) (sym (map-append action.computer_line (take at computers) (computer ∷ [])))
    ∙ ap (λ l. out ++ lines_text (map action.computer_line l)) (sym more)
