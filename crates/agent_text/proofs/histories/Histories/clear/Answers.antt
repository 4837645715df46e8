use Rattle.std.proofs.Common.{◌≡◌, List, sym, subst, None, SFits, w64}
use Rattle.std.proofs.lemmas.Int.{to_z-of_z}
use Rattle.std.specs.Prelude.{IsSomeAnd}
use Rattle.std.proofs.lemmas.List.Elements.{All-set}
use Rattle.act_rules.specs.declared.row.Row.{Row}
use Rattle.act_rules.specs.Rows.{HasEnded, last_row}
use Rattle.agent_text.specs.Histories.{AreHistories, shown_history}
use Rattle.agent_text.specs.KeptTexts.{KeepsText}
use Rattle.agent_text.specs.HistoryLines.{history_text}
use Rattle.agent_text.specs.MostBytes.{history_bytes}
use Rattle.agent_text.proofs.HistoryLemmas.{cleared_kept}
use Rattle.agent_text.proofs.ItemLemmas.{cleared_item, rows_of_item}
use Rattle.agent_text.proofs.MadeLemmas.{made_set}
use Rattle.agent_text.proofs.PlaceLemmas.{no_rows_there}
use Rattle.agent_text.proofs.histories.Histories.clear.Goals as goal

pub clear-requires-clause-ended : goal.clear-requires-clause-ended
clear-requires-clause-ended c =
    let are = subst AreHistories c.self.view_is c.self.invariant.are in
    let rows = rows_of_item c.self.inside.list.items c.args.self.now c.self.view_is c.args.action c.in-Ok.place c.index_mut.result.now are c.in-Ok.ensures c.index_mut.ensures.value in
    subst (λ (r : List Row). IsSomeAnd (last_row r) HasEnded) rows c.requires.ended

pub clear-requires-clause-unmarked : goal.clear-requires-clause-unmarked
clear-requires-clause-unmarked c =
    let are = subst AreHistories c.self.view_is c.self.invariant.are in
    let rows = rows_of_item c.self.inside.list.items c.args.self.now c.self.view_is c.args.action c.in-Ok.place c.index_mut.result.now are c.in-Ok.ensures c.index_mut.ensures.value in
    subst (λ (r : List Row). IsSomeAnd (last_row r) (λ row. row.cleared ≡ None)) rows c.requires.unmarked

pub returns-in-Ok : goal.returns-in-Ok
returns-in-Ok c =
    let f : SFits w64 c.args.moment = c.ranges.moment in
    let shown = simp to_z-of_z at c.clear.ensures.shown in
    cleared_item c.self.inside.list.items c.args.self.now c.self.view_is c.args.action c.in-Ok.place c.args.moment c.index_mut.result.now c.clear.new.self
    (subst AreHistories c.self.view_is c.self.invariant.are) c.in-Ok.ensures c.index_mut.ensures.value shown

pub invariant_of-self : goal.invariant_of-self
invariant_of-self c = record {
  are = subst AreHistories (sym (returns-in-Ok c))
      (cleared_kept c.args.self.now c.args.action c.args.moment (subst AreHistories c.self.view_is c.self.invariant.are) c.requires.moment c.requires.ended);
  texts = All-set KeepsText c.self.inside.list.items c.in-Ok.place c.clear.new.self c.clear.ensures.kept c.self.invariant.texts;
  made = made_set shown_history history_text history_bytes c.self.inside.list.items c.in-Ok.place c.self.inside.made c.leave.new.self c.clear.new.self c.leave.ensures c.self.invariant.made;
}

pub returns-in_default : goal.returns-in_default
returns-in_default c =
    absurd (subst (λ (r : List Row). IsSomeAnd (last_row r) HasEnded) (no_rows_there c.args.self.now c.args.action c.in_default.field-0 c.in_default.ensures) c.requires.ended)
