use Rattle.std.proofs.Common.{Some, refl, sym, ap, subst, ◌∙◌, set}
use Rattle.std.proofs.lemmas.List.Elements.{All-set}
use Rattle.line_forms.proofs.Rising.{rises_from_increasing}
use Rattle.agent_text.specs.Histories.{AreHistories, shown_history}
use Rattle.agent_text.specs.KeptTexts.{KeepsText}
use Rattle.agent_text.specs.HistoryLines.{history_text}
use Rattle.agent_text.specs.MostBytes.{history_bytes}
use Rattle.agent_text.proofs.BeforeLemmas.{others_stay, set_before}
use Rattle.agent_text.proofs.HistoryLemmas.{action_of, with_history_kept}
use Rattle.agent_text.proofs.ItemLemmas.{set_item}
use Rattle.agent_text.proofs.MadeLemmas.{made_set}
use Rattle.agent_text.proofs.PlaceLemmas.{others_there, put_there}
use Rattle.agent_text.proofs.histories.Histories.replace.Goals as goal

pub returns-in-Ok : goal.returns-in-Ok
returns-in-Ok c =
    let hs = c.args.self.now in
    let h = shown_history c.args.history in
    let are = subst AreHistories c.self.view_is c.self.invariant.are in
    set_item c.self.inside.list.items hs c.self.view_is c.in-Ok.place c.in-Ok.ensures.0 c.replace.new.dest ∙ ap (set hs c.in-Ok.place) (ap shown_history c.replace.ensures.after)
    ∙ set_before _ hs c.in-Ok.place h h (rises_from_increasing action_of hs are.ascending) c.in-Ok.ensures.0 (c.in-Ok.ensures.1 h) refl

pub invariant_of-self : goal.invariant_of-self
invariant_of-self c =
    let hs = c.args.self.now in
    let h = shown_history c.args.history in
    record {
      are = subst AreHistories
          (sym (set_item c.self.inside.list.items hs c.self.view_is c.in-Ok.place c.in-Ok.ensures.0 c.replace.new.dest ∙ ap (set hs c.in-Ok.place) (ap shown_history c.replace.ensures.after) ∙ put_there hs h.action c.in-Ok.place h c.in-Ok.ensures refl))
          (with_history_kept h hs c.requires.good (subst AreHistories c.self.view_is c.self.invariant.are));
      texts = All-set KeepsText c.self.inside.list.items c.in-Ok.place c.replace.new.dest (subst KeepsText (sym c.replace.ensures.after) c.requires.kept) c.self.invariant.texts;
      made = made_set shown_history history_text history_bytes c.self.inside.list.items c.in-Ok.place c.self.inside.made c.leave.new.self c.replace.new.dest c.leave.ensures c.self.invariant.made;
    }

pub returns-in_default : goal.returns-in_default
returns-in_default c = sym (others_stay (record { action = c.args.history.action; history = Some (shown_history c.args.history) }) c.args.self.now (others_there c.args.self.now c.args.history.action c.in_default.field-0 c.in_default.ensures))
