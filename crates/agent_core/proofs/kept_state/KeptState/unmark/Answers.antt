use Rattle.std.proofs.Common.{◌≡◌, ◌∷◌, ◌++◌, [], List, refl, sym, ap, arith, ◌∙◌}
use Rattle.std.specs.Prelude.{option_to_list}
use Rattle.std.proofs.lemmas.List.{nil_from_length}
use Rattle.agent_text.specs.Befores.{PlainBefore}
use Rattle.agent_text.specs.Histories.{PlainHistory}
use Rattle.agent_core.specs.declared.kept_state.KeptState.{KeptState}
use Rattle.agent_core.specs.Marked.{undone}
use Rattle.agent_core.proofs.PuttingBack.{undone_last}
use Rattle.agent_core.proofs.kept_state.KeptState.unmark.Goals as goal

pub loop-last-init : goal.loop-last-init
loop-last-init c = record { rest = refl; undo = refl }

pub loop-last-preserved : goal.loop-last-preserved
loop-last-preserved c =
    let left : List PlainBefore = c.pop.new.self.items in
    let hs : List PlainHistory = c.loop-last.self.histories in
    let items : c.loop-last.before.items ≡ left ++ c.in-Some.last ∷ [] = c.pop.ensures.items ∙ ap (λ o. left ++ option_to_list o) c.in-Some.is in
    record {
      rest = ap (λ (a : KeptState). record a { histories = c.put_back.new.self }) c.loop-last.invariant.rest;
      undo = ap (undone left) c.put_back.ensures ∙ sym (undone_last left c.in-Some.last hs) ∙ ap (λ bs. undone bs hs) (sym items) ∙ c.loop-last.invariant.undo;
    }

pub returns : goal.returns
returns c =
    let none : c.loop-last.before.items ≡ [] = nil_from_length c.loop-last.before.items (omega (arith, c.in_default.ensures.cases.0)) in
    c.loop-last.invariant.rest ∙ ap (λ hs. record c.args.self.now { histories = hs }) (ap (λ bs. undone bs c.loop-last.self.histories) (sym none) ∙ c.loop-last.invariant.undo)
