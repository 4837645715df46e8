use Rattle.std.proofs.Common.{ℕ, ◌≡◌, List, sym, ap, subst, ◌∙◌, Some}
use Rattle.std.specs.declared.option.Option.{Option}
use Rattle.std.specs.Prelude.{IfSome}
use Rattle.std.specs.Option.{option_map}
use Rattle.agent_text.specs.declared.history.History.{History}
use Rattle.agent_text.specs.Befores.{IsHistoryOf, PlainBefore, with_before}
use Rattle.agent_text.specs.Histories.{PlainHistory, shown_history}
use Rattle.agent_text.specs.KeptTexts.{KeepsTextIf}
use Rattle.agent_text.proofs.histories.Histories.put_back.Goals as goal

module _ (b : PlainBefore) (action : ℕ) (o : Option History) (h : History) (is : o ≡ Some h) (view : record { action = action; history = option_map shown_history o } ≡ b) where
  good_of : IfSome (option_map shown_history o) (IsHistoryOf action) → IsHistoryOf action (shown_history h)
  good_of good = subst (λ (x : Option History). IfSome (option_map shown_history x) (IsHistoryOf action)) is good

  put_of : (hs : List PlainHistory) → h.action ≡ action → with_before (record { action = h.action; history = Some (shown_history h) }) hs ≡ with_before b hs
  put_of hs own =
      (λ t. with_before (record { action = own t; history = Some (shown_history h) }) hs)
      ∙ (λ t. with_before (record { action = action; history = option_map shown_history (sym is t) }) hs) ∙ ap (λ x. with_before x hs) view

pub replace-requires-clause-good : goal.replace-requires-clause-good
replace-requires-clause-good c = (good_of c.args.before c.before-2.inside.action c.before-2.inside.history c.in-Some.history c.in-Some.is c.before-2.view_is c.before-2.invariant.0).good

pub replace-requires-clause-kept : goal.replace-requires-clause-kept
replace-requires-clause-kept c = subst KeepsTextIf c.in-Some.is c.before-2.invariant.1

pub returns-in-Some : goal.returns-in-Some
returns-in-Some c =
    let own = (good_of c.args.before c.before-2.inside.action c.before-2.inside.history c.in-Some.history c.in-Some.is c.before-2.view_is c.before-2.invariant.0).own in
    c.replace.ensures ∙ put_of c.args.before c.before-2.inside.action c.before-2.inside.history c.in-Some.history c.in-Some.is c.before-2.view_is c.args.self.now own

pub returns-in-None : goal.returns-in-None
returns-in-None c =
    c.remove.ensures ∙ (λ t. with_before (record { action = c.before-2.inside.action; history = option_map shown_history (sym c.in-None.is t) }) c.args.self.now)
    ∙ ap (λ x. with_before x c.args.self.now) c.before-2.view_is
