use Rattle.std.proofs.Common.{Some, ap, sym, subst, ◌∙◌}
use Rattle.std.specs.declared.option.Option.{Option}
use Rattle.std.specs.Prelude.{IfSome}
use Rattle.agent_text.specs.Befores.{IsHistoryOf}
use Rattle.line_forms.proofs.Rising.{rises_from_increasing}
use Rattle.agent_text.specs.Histories.{AreHistories, PlainHistory, shown_history}
use Rattle.agent_text.proofs.BeforeLemmas.{found_good, none_found}
use Rattle.agent_text.proofs.HistoryLemmas.{action_of}
use Rattle.agent_text.proofs.ItemLemmas.{item_there}
use Rattle.agent_text.proofs.PlaceLemmas.{found_there, others_there}
use Rattle.agent_text.proofs.histories.Histories.copied.Goals as goal

pub returns-in_ok-copy-in-Ok-clause-found : goal.returns-in_ok-copy-in-Ok-clause-found
returns-in_ok-copy-in-Ok-clause-found c =
    let hs = c.args.self.now in
    let are = subst AreHistories c.self.view_is c.self.invariant.are in
    let shown = shown_history c.index.result.now in
    let there = item_there c.self.inside.list.items hs c.self.view_is c.in-Ok.place c.in-Ok.ensures.0 c.index.result.now c.index.ensures in
    ap (λ (h : PlainHistory). Some h) (c.in_ok-copy-in-Ok.ensures.shown ∙ sym there)
    ∙ sym (found_there hs c.args.action c.in-Ok.place shown (rises_from_increasing action_of hs are.ascending) c.in-Ok.ensures.0 (c.in-Ok.ensures.1 shown))

pub returns-in_ok-copy-in-Ok-clause-good : goal.returns-in_ok-copy-in-Ok-clause-good
returns-in_ok-copy-in-Ok-clause-good c =
    let are = subst AreHistories c.self.view_is c.self.invariant.are in
    subst (λ (o : Option PlainHistory). IfSome o (IsHistoryOf c.args.action)) (sym (returns-in_ok-copy-in-Ok-clause-found c)) (found_good c.args.action c.args.self.now are.good)

pub returns-in-Err-clause-found : goal.returns-in-Err-clause-found
returns-in-Err-clause-found c = sym (none_found c.args.action c.args.self.now (others_there c.args.self.now c.args.action _ c.in-Err.ensures))
