use Rattle.std.proofs.Common.{◌≡◌, ℕ, None, rules, ap, sym, ◌∙◌}
use Rattle.std.specs.declared.option.Option.{Option}
use Rattle.std.specs.List.{find}
use Rattle.std.specs.Option.{option_map}
use Rattle.std.proofs.lemmas.Iterator.{YieldsList-from_slice}
use Rattle.std.proofs.lemmas.Iterator.Search.{find_from_yields_List}
use borrow.Author.Tests.{tests}
use denote.Ref.{Bor}
use Rattle.agent_text.specs.declared.history.History.{History}
use Rattle.agent_text.specs.Histories.{shown_history}
use Rattle.agent_core.specs.Inside.{state_of}
use Rattle.agent_state.specs.States.{State, is_broken}
use Rattle.agent_core.proofs.Broken.{broken_found}
use Rattle.agent_core.proofs.kept_state.KeptState.broken_action.Goals as goal

abbrev action_of : Option (Bor History) → Option ℕ
action_of found = option_map (λ (h : History). h.action) (option_map (λ (b : Bor History). b.now) found)

pub returns-in_err-history : goal.returns-in_err-history
returns-in_err-history c =
    let s : State = state_of c.args.self.now in
    let items = c.as_slice.result.now in
    let found : option_map (λ (b : Bor History). b.now) c.find.result ≡ find (λ (h : History). is_broken s.held (shown_history h)) items =
    find_from_yields_List (λ (h : History). is_broken s.held (shown_history h)) _ _ c.find.result c.find.ensures.ran (YieldsList-from_slice items (cc)) (λ x b q k. search (rules, tests)) in
    let none : c.from_residual.result ≡ None = search rules in
    none ∙ ap action_of (sym c.in_err-history.was) ∙ broken_found s items _ c.as_slice.ensures.value found

pub returns : goal.returns
returns c =
    let s : State = state_of c.args.self.now in
    let items = c.as_slice.result.now in
    let found : option_map (λ (b : Bor History). b.now) c.find.result ≡ find (λ (h : History). is_broken s.held (shown_history h)) items =
    find_from_yields_List (λ (h : History). is_broken s.held (shown_history h)) _ _ c.find.result c.find.ensures.ran (YieldsList-from_slice items (cc)) (λ x b q k. search (rules, tests)) in
    ap action_of (sym c.in_ok-history.was) ∙ broken_found s items _ c.as_slice.ensures.value found
