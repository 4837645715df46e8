use Rattle.std.proofs.Common.{◌≡◌, All, List, ◌<◌, ◌≤◌, length, map, set, false, ap, sym, ◌∙◌, subst, arith, inl, inr}
use Rattle.std.proofs.lemmas.List.{length-map, set-get_or, take_at}
use Rattle.agent_text.specs.declared.history.History.{History}
use Rattle.std.proofs.lemmas.List.Elements.{All-set}
use Rattle.agent_text.specs.KeptTexts.{KeepsText}
use Rattle.agent_text.specs.Histories.{AreHistories, PlainHistory, shown_history, with_reported}
use Rattle.agent_text.specs.HistoryLines.{history_text}
use Rattle.agent_text.specs.MadeTexts.{IsMadeOf}
use Rattle.agent_text.specs.MostBytes.{history_bytes}
use Rattle.agent_text.proofs.HistoryLemmas.{reported_kept}
use Rattle.agent_text.proofs.ItemLemmas.{item_kept, item_reported, reports_all}
use Rattle.agent_text.proofs.MadeLemmas.{made_reported}
use Rattle.agent_text.proofs.histories.Histories.report.Goals as goal
use Rattle.agent_text.proofs.histories.Histories.report.Goals.{then-left-gt0+then-history, else-left-gt0, else-left-gt0-via-then-left-gt0+else-history, else-left-gt0-via-else-left-gt0}

pub loop-history-preserved : goal.loop-history-preserved
loop-history-preserved c =
    let whole = with_reported c.args.most c.args.self.now in
    let items = c.loop-history.history-items in
    let i = c.loop-history.history-index in
    let left = c.loop-history.left in
    let h = c.history-item.result in
    let pending = ap (λ (h : History). h.pending) c.history-item.is in
    let told = λ (h : History). set items i (record h { pending = false }) in
    let inside : i < length items = omega (arith, c.loop-history-test.true, c.loop-history.auto.history-items) in
    let keeps : KeepsText h = subst KeepsText (sym c.history-item.is) (c.loop-history.invariant.texts i h inside) in
    let same : List History → Type 0 = All KeepsText in
    record {
      so_far =
          elim c.if-left-gt0.branch [
            | then-left-gt0+then-history w ↦
                item_reported whole items c.if-left-gt0.history-items i left c.if-left-gt0.left h inside c.history-item.is w.if-left-gt0.true (pending ∙ w.if-history.true) (w.history-items-is ∙ ap told (sym c.history-item.is)) w.left-is c.loop-history.invariant.so_far
            | else-left-gt0 w ↦ elim w.else-left-gt0.branch [
              | else-left-gt0-via-then-left-gt0+else-history v ↦
                  item_kept whole items c.if-left-gt0.history-items i left c.if-left-gt0.left h inside c.history-item.is (inr (pending ∙ v.if-history.false)) (w.history-items-is ∙ v.history-items-is ∙ set-get_or items i h) w.left-is c.loop-history.invariant.so_far
              | else-left-gt0-via-else-left-gt0 v ↦
                  item_kept whole items c.if-left-gt0.history-items i left c.if-left-gt0.left h inside c.history-item.is (inl (omega (arith, v.if-left-gt0.false))) (w.history-items-is ∙ v.history-items-is ∙ set-get_or items i h) w.left-is c.loop-history.invariant.so_far
            ]
          ];
      texts =
          elim c.if-left-gt0.branch [
            | then-left-gt0+then-history w ↦ subst same (sym (w.history-items-is ∙ ap told (sym c.history-item.is))) (All-set KeepsText items i (record h { pending = false }) keeps c.loop-history.invariant.texts)
            | else-left-gt0 w ↦ elim w.else-left-gt0.branch [
              | else-left-gt0-via-then-left-gt0+else-history v ↦ subst same (sym (w.history-items-is ∙ v.history-items-is ∙ set-get_or items i h)) c.loop-history.invariant.texts
              | else-left-gt0-via-else-left-gt0 v ↦ subst same (sym (w.history-items-is ∙ v.history-items-is ∙ set-get_or items i h)) c.loop-history.invariant.texts
            ]
          ];
    }

pub invariant_of-self : goal.invariant_of-self
invariant_of-self c =
    let items = c.loop-history.history-items in
    let now = map shown_history items in
    let long : length now ≡ length items = length-map items shown_history in
    let all : length now ≤ c.loop-history.history-index = omega (arith, c.loop-history-test.false, c.loop-history.auto.history-items) in
    let count : length items ≡ c.self.inside.list.len = omega (arith, c.loop-history.auto.history-items, c.deref_mut-history-items.ensures.len) in
    let are = reported_kept c.args.self.now c.args.most (subst AreHistories c.self.view_is c.self.invariant.are) in
    let told = ap (map shown_history) (take_at items _ c.self.inside.list.len count)
    ∙ reports_all (with_reported c.args.most c.args.self.now) now c.loop-history.history-index c.loop-history.left all c.loop-history.invariant.so_far in
    let made = subst (λ (hs : List PlainHistory). IsMadeOf history_text history_bytes hs c.self.inside.made) c.self.view_is c.self.invariant.made in
    record {
      are = subst AreHistories (sym told) are;
      texts = subst (All KeepsText) (sym (take_at items _ c.self.inside.list.len count)) c.loop-history.invariant.texts;
      made = subst (λ (hs : List PlainHistory). IsMadeOf history_text history_bytes hs c.self.inside.made) (sym told) (made_reported c.args.most c.args.self.now c.self.inside.made made);
    }
