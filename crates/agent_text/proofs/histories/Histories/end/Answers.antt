use Rattle.std.proofs.Common.{◌≡◌, ◌∙◌, List, ap, sym, subst, Some, None, SFits, w64}
use Rattle.std.proofs.lemmas.Int.{to_z-of_z}
use Rattle.std.specs.Prelude.{IsSomeAnd}
use Rattle.std.proofs.lemmas.List.Elements.{All-set}
use Rattle.act_rules.specs.declared.row.Row.{Row}
use Rattle.act_rules.specs.Rows.{last_row, with_last}
use Rattle.agent_text.specs.Histories.{AreHistories, PlainHistory, rows_at, shown_history}
use Rattle.agent_text.specs.KeptTexts.{KeepsText}
use Rattle.agent_text.specs.HistoryLines.{history_text}
use Rattle.agent_text.specs.MostBytes.{history_bytes}
use Rattle.agent_text.proofs.HistoryLemmas.{ended_kept}
use Rattle.agent_text.proofs.ItemLemmas.{id_of_item, rows_of_item, told_item}
use Rattle.agent_text.proofs.MadeLemmas.{made_set}
use Rattle.agent_text.proofs.PlaceLemmas.{no_rows_there}
use Rattle.agent_text.proofs.histories.Histories.end.Goals as goal

pub end-requires-clause-running : goal.end-requires-clause-running
end-requires-clause-running c =
    let are = subst AreHistories c.self.view_is c.self.invariant.are in
    let rows = rows_of_item c.self.inside.list.items c.args.self.now c.self.view_is c.args.action c.in-Ok.place c.index_mut.result.now are c.in-Ok.ensures c.index_mut.ensures.value in
    subst (λ (r : List Row). IsSomeAnd (last_row r) (λ row. row.end ≡ None)) rows c.requires.running

pub returns-in-Ok : goal.returns-in-Ok
returns-in-Ok c =
    let f : SFits w64 c.args.moment = c.ranges.moment in
    let shown = simp to_z-of_z at c.end.ensures.shown in
    let hs = c.args.self.now in
    let are = subst AreHistories c.self.view_is c.self.invariant.are in
    let h = c.index_mut.result.now in
    let at = c.index_mut.ensures.value in
    let change = λ (row : Row). record row { end = Some (c.args.moment, c.args.outcome); note = c.args.note } in
    let rows = rows_of_item c.self.inside.list.items hs c.self.view_is c.args.action c.in-Ok.place h are c.in-Ok.ensures at in
    told_item c.self.inside.list.items hs c.self.view_is c.args.action c.in-Ok.place c.end.new.self
    (with_last (rows_at c.args.action hs) change) c.in-Ok.ensures
    (ap (λ (p : PlainHistory). p.action) shown ∙ id_of_item c.self.inside.list.items hs c.self.view_is c.args.action c.in-Ok.place h c.in-Ok.ensures at)
    (ap (λ (p : PlainHistory). p.rows) shown ∙ ap (λ (r : List Row). with_last r change) (sym rows)) (ap (λ (p : PlainHistory). p.pending) shown)

pub invariant_of-self : goal.invariant_of-self
invariant_of-self c = record {
  are = subst AreHistories (sym (returns-in-Ok c))
      (ended_kept c.args.self.now c.args.action c.args.moment c.args.outcome c.args.note (subst AreHistories c.self.view_is c.self.invariant.are) c.requires.moment c.requires.running c.requires.note);
  texts = All-set KeepsText c.self.inside.list.items c.in-Ok.place c.end.new.self c.end.ensures.kept c.self.invariant.texts;
  made = made_set shown_history history_text history_bytes c.self.inside.list.items c.in-Ok.place c.self.inside.made c.leave.new.self c.end.new.self c.leave.ensures c.self.invariant.made;
}

pub returns-in_default : goal.returns-in_default
returns-in_default c =
    absurd (subst (λ (r : List Row). IsSomeAnd (last_row r) (λ row. row.end ≡ None)) (no_rows_there c.args.self.now c.args.action c.in_default.field-0 c.in_default.ensures) c.requires.running)
