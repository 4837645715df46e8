use Rattle.std.proofs.Common.{ℕ, ◌≡◌, ◌⊎◌, inl, inr, get_or, set, ◌+◌, ◌++◌, [], ◌∷◌, List, length, map, ap, sym, ◌∙◌, subst, refl, true, Result, Ok, Err, All, None}
use Rattle.std.specs.Prelude.{IfSome, OnErr, OnOk}
use Rattle.act_rules.specs.declared.row.Row.{Row}
use Rattle.act_rules.specs.Rows.{HasEnded, last_row}
use Rattle.agent_text.specs.Histories.{AreHistories, PlainHistory, rows_at, shown_history, with_begun}
use Rattle.agent_text.specs.PartReadings.{HasPlace}
use Rattle.std.proofs.lemmas.List.Elements.{All-set}
use Rattle.agent_text.specs.declared.history.History.{History}
use Rattle.agent_text.specs.KeptTexts.{KeepsText}
use Rattle.agent_text.specs.MadeTexts.{IsMadeOf}
use Rattle.agent_text.specs.HistoryLines.{history_text}
use Rattle.agent_text.specs.MostBytes.{history_bytes}
use Rattle.agent_text.proofs.HistoryLemmas.{begun_kept}
use Rattle.agent_text.proofs.ItemLemmas.{All-inserted, id_of_item, new_item, rows_of_item, same_item, told_item}
use Rattle.agent_text.proofs.MadeLemmas.{made_inserted, made_set}
use Rattle.agent_text.proofs.PlaceLemmas.{no_rows_there}
use Rattle.agent_text.proofs.histories.Histories.begin.Goals as goal

on_err : {T E P : Type 0} (r : Result T E) → P → OnErr r P
on_err (Ok x) p = tt
on_err (Err e) p = p

begun_or : {T E P Q : Type 0} (r : Result T E) → OnOk r P → OnErr r Q → P ⊎ Q
begun_or (Ok x) p q = inl p
begun_or (Err e) p q = inr q

on_ok : {T E P Q : Type 0} (r : Result T E) → (P → Q) → OnOk r P → OnOk r Q
on_ok (Ok x) f p = f p
on_ok (Err e) f p = tt

pub begin-requires-clause-ended : goal.begin-requires-clause-ended
begin-requires-clause-ended c =
    let are = subst AreHistories c.self.view_is c.self.invariant.are in
    let rows = rows_of_item c.self.inside.list.items c.args.self.now c.self.view_is c.args.action c.in-Ok.place c.index_mut.result.now are c.in-Ok.ensures c.index_mut.ensures.value in
    subst (λ (r : List Row). IfSome (last_row r) HasEnded) rows c.requires.ended

pub begin-requires-clause-number : goal.begin-requires-clause-number
begin-requires-clause-number c =
    let are = subst AreHistories c.self.view_is c.self.invariant.are in
    let rows = rows_of_item c.self.inside.list.items c.args.self.now c.self.view_is c.args.action c.in-Ok.place c.index_mut.result.now are c.in-Ok.ensures c.index_mut.ensures.value in
    c.requires.number ∙ ap (λ (r : List Row). length r + 1) rows

module _ (items : List History) (hs : List PlainHistory) (view : map shown_history items ≡ hs) (action place : ℕ) (row : Row) (h now : History) where
  pub begun_item : AreHistories hs → HasPlace hs action (Ok place) → h ≡ get_or items place h
      → shown_history now ≡ record { action = h.action; rows = h.rows.rows ++ row ∷ []; pending = true } → map shown_history (set items place now) ≡ with_begun action row hs
  begun_item are here at is =
      let rows = rows_of_item items hs view action place h are here at in
      told_item items hs view action place now (rows_at action hs ++ row ∷ []) here
      (ap (λ (p : PlainHistory). p.action) is ∙ id_of_item items hs view action place h here at)
      (ap (λ (p : PlainHistory). p.rows) is ∙ ap (λ (r : List Row). r ++ row ∷ []) (sym rows)) (ap (λ (p : PlainHistory). p.pending) is)

pub returns-in-Ok-clause-ok : goal.returns-in-Ok-clause-ok
returns-in-Ok-clause-ok c =
    on_ok c.begin.result (begun_item c.self.inside.list.items c.args.self.now c.self.view_is c.args.action c.in-Ok.place c.args.row c.index_mut.result.now c.begin.new.self
    (subst AreHistories c.self.view_is c.self.invariant.are) c.in-Ok.ensures c.index_mut.ensures.value) c.begin.ensures.ok

pub returns-in-Ok-clause-err : goal.returns-in-Ok-clause-err
returns-in-Ok-clause-err c =
    if_err c.begin.result (same_item c.self.inside.list.items c.args.self.now c.self.view_is c.in-Ok.place c.in-Ok.ensures.0 c.index_mut.result.now c.begin.new.self c.index_mut.ensures.value) c.begin.ensures.err
  where
    if_err : {T E P Q : Type 0} (r : Result T E) → (P → Q) → OnErr r P → OnErr r Q
    if_err (Ok x) f p = tt
    if_err (Err e) f p = f p

pub invariant_of-self : goal.invariant_of-self
invariant_of-self c =
    let hs = c.args.self.now in
    let are = subst AreHistories c.self.view_is c.self.invariant.are in
    record {
      are = elim (begun_or c.begin.result c.begin.ensures.ok c.begin.ensures.err) [
        | inl is ↦ subst AreHistories (sym (begun_item c.self.inside.list.items hs c.self.view_is c.args.action c.in-Ok.place c.args.row c.index_mut.result.now c.begin.new.self are c.in-Ok.ensures c.index_mut.ensures.value is))
            (begun_kept hs c.args.action c.args.row are c.requires.action c.requires.ended c.requires.few c.requires.number c.requires.moments c.requires.good)
        | inr same ↦ subst AreHistories (sym (same_item c.self.inside.list.items hs c.self.view_is c.in-Ok.place c.in-Ok.ensures.0 c.index_mut.result.now c.begin.new.self c.index_mut.ensures.value same)) are
      ];
      texts = All-set KeepsText c.self.inside.list.items c.in-Ok.place c.begin.new.self c.begin.ensures.kept c.self.invariant.texts;
      made = made_set shown_history history_text history_bytes c.self.inside.list.items c.in-Ok.place c.self.inside.made c.leave.new.self c.begin.new.self c.leave.ensures c.self.invariant.made;
    }

pub push-requires-clause-number : goal.push-requires-clause-number
push-requires-clause-number c =
    c.requires.number ∙ ap (λ (r : List Row). length r + 1) (no_rows_there c.args.self.now c.args.action c.in-Err.place c.in-Err.ensures ∙ sym c.new-rows.ensures)

pub returns-in_ok-insert-in-Err-clause-ok : goal.returns-in_ok-insert-in-Err-clause-ok
returns-in_ok-insert-in-Err-clause-ok c =
    let hs = c.args.self.now in
    let none = no_rows_there hs c.args.action c.in-Err.place c.in-Err.ensures in
    ap (map shown_history) c.in_ok-insert-in-Err.ensures.items
    ∙ new_item c.self.inside.list.items hs c.self.view_is c.args.action c.in-Err.place (record { action = c.args.action; rows = c.push.new.self; pending = true; text = None })
    (rows_at c.args.action hs ++ c.args.row ∷ []) c.in-Err.ensures refl
    (c.in_ok-push-in-Err.ensures.ok ∙ ap (λ (r : List Row). r ++ c.args.row ∷ []) (c.new-rows.ensures ∙ sym none)) refl

pub invariant_of-self-in-Err : goal.invariant_of-self-in-Err
invariant_of-self-in-Err c =
    let new : History = record { action = c.args.action; rows = c.push.new.self; pending = true; text = None } in
    record {
      are = subst AreHistories (sym (returns-in_ok-insert-in-Err-clause-ok c))
          (begun_kept c.args.self.now c.args.action c.args.row (subst AreHistories c.self.view_is c.self.invariant.are) c.requires.action c.requires.ended c.requires.few
          c.requires.number c.requires.moments c.requires.good);
      texts = subst (All KeepsText) (sym c.in_ok-insert-in-Err.ensures.items) (All-inserted KeepsText c.self.inside.list.items c.in-Err.place new tt c.self.invariant.texts);
      made = subst (λ (l : List History). IsMadeOf history_text history_bytes (map shown_history l) c.leave-in-Err.new.self) (sym c.in_ok-insert-in-Err.ensures.items)
          (made_inserted shown_history history_text history_bytes c.self.inside.list.items c.in-Err.place c.self.inside.made c.leave-in-Err.new.self new c.leave-in-Err.ensures c.self.invariant.made);
    }
