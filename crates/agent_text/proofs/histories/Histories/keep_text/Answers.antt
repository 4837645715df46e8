use Rattle.std.proofs.Common.{◌≡◌, List, map, set, sym, subst, ◌∙◌}
use Rattle.std.proofs.lemmas.List.Elements.{All-set}
use Rattle.agent_text.specs.declared.history.History.{History}
use Rattle.agent_text.specs.Histories.{AreHistories, IsHistory, PlainHistory, shown_history}
use Rattle.agent_text.specs.HistoryLines.{history_text}
use Rattle.agent_text.specs.KeptTexts.{KeepsText}
use Rattle.agent_text.specs.MadeTexts.{IsMadeOf}
use Rattle.agent_text.specs.MostBytes.{history_bytes}
use Rattle.agent_text.proofs.ItemLemmas.{item_there, same_item}
use Rattle.agent_text.proofs.MadeLemmas.{made_joined}
use Rattle.agent_text.proofs.histories.Histories.keep_text.Goals as goal

pub keep_text-requires-clause-good : goal.keep_text-requires-clause-good
keep_text-requires-clause-good c =
    let hs : List PlainHistory = c.args.self.now in
    let are = subst AreHistories c.self.view_is c.self.invariant.are in
    let h = shown_history c.index_mut.result.now in
    let there = item_there c.self.inside.list.items hs c.self.view_is c.args.place c.requires c.index_mut.result.now c.index_mut.ensures.value in
    subst IsHistory there (are.good c.args.place h c.requires)

pub returns-in_err-keep_text : goal.returns-in_err-keep_text
returns-in_err-keep_text c =
    same_item c.self.inside.list.items c.args.self.now c.self.view_is c.args.place c.requires c.index_mut.result.now c.keep_text.new.self c.index_mut.ensures.value c.keep_text.ensures.shown

pub invariant_of-self : goal.invariant_of-self
invariant_of-self c =
    let same = same_item c.self.inside.list.items c.args.self.now c.self.view_is c.args.place c.requires c.index_mut.result.now c.keep_text.new.self c.index_mut.ensures.value c.keep_text.ensures.shown in
    let unchanged = c.self.view_is ∙ sym same in
    record {
      are = subst AreHistories unchanged c.self.invariant.are;
      texts = All-set KeepsText c.self.inside.list.items c.args.place c.keep_text.new.self c.keep_text.ensures.kept c.self.invariant.texts;
      made = subst (λ (hs : List PlainHistory). IsMadeOf history_text history_bytes hs c.self.inside.made) unchanged c.self.invariant.made;
    }

pub returns : goal.returns
returns c =
    same_item c.self.inside.list.items c.args.self.now c.self.view_is c.args.place c.requires c.index_mut.result.now c.keep_text.new.self c.index_mut.ensures.value c.keep_text.ensures.shown

pub invariant_of-self-2 : goal.invariant_of-self-2
invariant_of-self-2 c =
    let hs : List PlainHistory = c.args.self.now in
    let items : List History = set c.self.inside.list.items c.args.place c.keep_text.new.self in
    let same : map shown_history items ≡ hs = same_item c.self.inside.list.items hs c.self.view_is c.args.place c.requires c.index_mut.result.now c.keep_text.new.self c.index_mut.ensures.value c.keep_text.ensures.shown in
    let h : PlainHistory = shown_history c.index.result.now in
    let there = item_there items hs same c.args.place c.requires c.index.result.now c.index.ensures in
    let before = subst (λ (l : List PlainHistory). IsMadeOf history_text history_bytes l c.self.inside.made) c.self.view_is c.self.invariant.made in
    record {
      are = subst AreHistories (c.self.view_is ∙ sym same) c.self.invariant.are;
      texts = All-set KeepsText c.self.inside.list.items c.args.place c.keep_text.new.self c.keep_text.ensures.kept c.self.invariant.texts;
      made = subst (λ (l : List PlainHistory). IsMadeOf history_text history_bytes l c.join.new.made) (sym same) (made_joined hs c.args.place h c.self.inside.made c.join.new.made c.requires there c.join.ensures before);
    }
