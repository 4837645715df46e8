use Rattle.std.proofs.Common.{All, List, None, refl, sym, ap, subst, ◌∙◌, map}
use Rattle.line_forms.proofs.Rising.{rises_from_increasing}
use Rattle.agent_text.proofs.BeforeLemmas.{others_stay, removed_before}
use Rattle.agent_text.specs.Histories.{AreHistories, shown_history}
use Rattle.agent_text.specs.declared.history.History.{History}
use Rattle.agent_text.specs.KeptTexts.{KeepsText}
use Rattle.agent_text.specs.MadeTexts.{IsMadeOf}
use Rattle.agent_text.specs.HistoryLines.{history_text}
use Rattle.agent_text.specs.MostBytes.{history_bytes}
use Rattle.agent_text.proofs.HistoryLemmas.{action_of, removed_kept}
use Rattle.agent_text.proofs.ItemLemmas.{All-removed, removed_item}
use Rattle.agent_text.proofs.MadeLemmas.{made_removed}
use Rattle.agent_text.proofs.PlaceLemmas.{others_there}
use Rattle.agent_text.proofs.histories.Histories.remove.Goals as goal

pub returns-in-Ok : goal.returns-in-Ok
returns-in-Ok c =
    let hs = c.args.self.now in
    let are = subst AreHistories c.self.view_is c.self.invariant.are in
    let d = shown_history c.remove.result in
    ap (map shown_history) c.remove.ensures.items ∙ removed_item c.self.inside.list.items hs c.self.view_is c.in-Ok.place
    ∙ removed_before _ hs c.in-Ok.place d (rises_from_increasing action_of hs are.ascending) c.in-Ok.ensures.0 (c.in-Ok.ensures.1 d) refl

pub invariant_of-self : goal.invariant_of-self
invariant_of-self c = record {
  are = subst AreHistories (sym (ap (map shown_history) c.remove.ensures.items ∙ removed_item c.self.inside.list.items c.args.self.now c.self.view_is c.in-Ok.place))
      (removed_kept c.args.self.now c.in-Ok.place c.in-Ok.ensures.0 (subst AreHistories c.self.view_is c.self.invariant.are));
  texts = subst (All KeepsText) (sym c.remove.ensures.items) (All-removed KeepsText c.self.inside.list.items c.in-Ok.place c.self.invariant.texts);
  made = subst (λ (l : List History). IsMadeOf history_text history_bytes (map shown_history l) c.leave.new.self) (sym c.remove.ensures.items)
      (made_removed shown_history history_text history_bytes c.self.inside.list.items c.in-Ok.place c.self.inside.made c.leave.new.self c.leave.ensures c.self.invariant.made);
}

pub returns-in_default : goal.returns-in_default
returns-in_default c = sym (others_stay (record { action = c.args.action; history = None }) c.args.self.now (others_there c.args.self.now c.args.action c.in_default.field-0 c.in_default.ensures))
