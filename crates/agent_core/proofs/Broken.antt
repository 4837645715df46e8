-- The first broken attempt, as the code finds it.
use Rattle.std.proofs.Common.{◌≡◌, Bool, true, false, cond, List, [], ◌∷◌, map, refl, ap, ◌∙◌, Some, None}
use Rattle.std.specs.declared.option.Option.{Option}
use Rattle.std.specs.List.{find}
use Rattle.std.specs.Option.{option_map}
use Rattle.agent_text.specs.declared.history.History.{History}
use Rattle.agent_text.specs.Histories.{PlainHistory, shown_history}
use Rattle.agent_state.specs.States.{State, broken_action, is_broken}

find_shown : {X Y : Type 0} (f : X → Y) (q : Y → Bool) (xs : List X) → option_map f (find (λ x. q (f x)) xs) ≡ find q (map f xs)
find_shown f q [] = refl
find_shown {X} {Y} f q (x ∷ xs) = by_test (q (f x)) (find_shown f q xs)
  where
    by_test : (b : Bool) → option_map f (find (λ x. q (f x)) xs) ≡ find q (map f xs) → option_map f (cond b (Some x) (find (λ x. q (f x)) xs)) ≡ cond b (Some (f x)) (find q (map f xs))
    by_test true e = refl
    by_test false e = e

action_shown : (o : Option History) → option_map (λ (h : History). h.action) o ≡ option_map (λ (h : PlainHistory). h.action) (option_map shown_history o)
action_shown None = refl
action_shown (Some h) = refl

pub broken_found : (s : State) (items : List History) (found : Option History) → map shown_history items ≡ s.histories → found ≡ find (λ (h : History). is_broken s.held (shown_history h)) items
    → option_map (λ (h : History). h.action) found ≡ broken_action s
broken_found s items found view is =
    action_shown found ∙ ap (λ o. option_map (λ (h : PlainHistory). h.action) (option_map shown_history o)) is
    ∙ ap (option_map (λ (h : PlainHistory). h.action)) (find_shown shown_history (is_broken s.held) items ∙ ap (find (is_broken s.held)) view)
