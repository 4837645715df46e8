use Rattle.std.proofs.Common.{All, Ok, Option, map, subst, sym}
use Rattle.std.proofs.lemmas.List.Elements.{All-push}
use Rattle.agent_text.specs.declared.history.History.{History}
use Rattle.agent_text.specs.Histories.{shown_history}
use Rattle.agent_text.specs.KeptTexts.{KeepsText, KeepsTextIf}
use Rattle.agent_text.specs.PartReadings.{TakesHistory}
use Rattle.agent_text.proofs.HistoryLists.{shown_more}
use Rattle.agent_text.proofs.history_reader.take_histories.Goals as goal

pub loop-histories-preserved : goal.loop-histories-preserved
loop-histories-preserved c =
    let T : Option History → Type 0 = λ o. TakesHistory c.args.form (map shown_history c.as_slice.result.now) c.loop-histories.lines c.take_history.new.lines (Ok o) in
    let taken = subst T c.in-Some.is c.in_ok-history.ensures.taken in
    record {
      taken = shown_more c.args.form c.args.lines.now c.loop-histories.lines c.take_history.new.lines c.loop-histories.histories.items c.as_slice.result.now c.add.new.list.items c.in-Some.history
          c.loop-histories.invariant.taken c.as_slice.ensures.value c.in_ok-add.ensures.ok taken.0 taken.1 taken.2;
      texts = subst (All KeepsText) (sym c.in_ok-add.ensures.ok) (All-push KeepsText c.loop-histories.histories.items c.in-Some.history c.loop-histories.invariant.texts (subst KeepsTextIf c.in-Some.is c.in_ok-history.ensures.kept));
    }
