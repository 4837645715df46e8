-- Commands that are done again on a world, one after another.
use Rattle.std.proofs.Common.{◌≡◌, ℕ, ◌+◌, ◌<◌, ◌≤◌, ℤ, List, [], ◌∷◌, ◌++◌, length, sym, ap, subst, ◌∙◌}
use Rattle.std.specs.Prelude.{drop, get_or}
use Rattle.std.proofs.lemmas.List.{append_assoc, append-nil, drop_all, drop_more}
use Rattle.bf_world.specs.declared.command.Command.{Command}
use Rattle.bf_world.specs.Done.{done}
use Rattle.bf_world.specs.Worlds.{WorldState}
use Rattle.bf_machine.specs.Steps.{answered, answers_from, world_after}
use Rattle.turn_lines.specs.DoLines.{do_line, do_lines}

-- The lines of commands that are still to be done stand behind what is written so far, and this is the world after them.
abbrev pub Again : ℤ → List ℕ → WorldState → List Command → List ℕ → WorldState → Type 0
Again moment out w commands text end = (out ++ do_lines (answers_from moment w commands) ≡ text) × (world_after moment w commands ≡ end)

pub again_more : (moment : ℤ) (out more : List ℕ) (w after : WorldState) (commands : List Command) (i : ℕ) (command : Command) (text : List ℕ) (end : WorldState) → i < length commands → command ≡ get_or commands i command
    → more ≡ out ++ do_line (answered command (done w command moment).answer) → after ≡ (done w command moment).after → Again moment out w (drop i commands) text end → Again moment more after (drop (i + 1) commands) text end
again_more moment out more w after commands i command text end within is said does h =
    let rest = drop (i + 1) commands in
    let line = do_line (answered command (done w command moment).answer) in
    let split : drop i commands ≡ command ∷ rest = drop_more commands i command within ∙ ap (λ c. c ∷ rest) (sym is) in
    let one : Again moment out w (command ∷ rest) text end = subst (λ l. Again moment out w l text end) split h in
    subst (λ m. Again moment m after rest text end) (sym said)
    (subst (λ v. Again moment (out ++ line) v rest text end) (sym does)
    (append_assoc out line (do_lines (answers_from moment (done w command moment).after rest)) ∙ one.0, one.1))

pub again_end : (moment : ℤ) (out : List ℕ) (w : WorldState) (commands : List Command) (i : ℕ) (text : List ℕ) (end : WorldState) → length commands ≤ i → Again moment out w (drop i commands) text end → (out ≡ text) × (w ≡ end)
again_end moment out w commands i text end behind h =
    let none : Again moment out w [] text end = subst (λ l. Again moment out w l text end) (drop_all i commands behind) h in
    (sym (append-nil out) ∙ none.0, none.1)
