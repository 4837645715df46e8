use Rattle.std.proofs.Common.{◌<◌, get_or, length, map, rules, true}
use Rattle.std.proofs.lemmas.List.Elements.{All-set}
use Rattle.agent_text.specs.KeptTexts.{KeepsText}
use Rattle.agent_text.specs.Histories.{shown_history}
use Rattle.agent_text.proofs.PendingPlaces.{shown_within}
use Rattle.agent_text.proofs.PendingSteps.{marks_all, marks_none, shown_marks, told_histories}
use Rattle.agent_text.proofs.history_reader.take_pending.Goals as goal

pub loop-place-init : goal.loop-place-init
loop-place-init c = record { marked = marks_none (map shown_history c.args.histories.now) c.args.lines.now c.requires.told; texts = c.requires.kept }

pub take_pending_line-requires : goal.take_pending_line-requires
take_pending_line-requires c =
    told_histories (map shown_history c.args.histories.now) (map shown_history c.loop-place.histories) c.loop-place.invariant.marked.same c.requires.good

pub offset_bounds-histories-place : goal.offset_bounds-histories-place
offset_bounds-histories-place c =
    let within : c.in-Some.place < length c.loop-place.histories = shown_within c.loop-place.histories c.in-Some.place c.in-Some.ensures.1.0 c.in-Some.ensures.1.1 in
    search rules

pub bounds-histories-place : goal.bounds-histories-place
bounds-histories-place c = shown_within c.loop-place.histories c.in-Some.place c.in-Some.ensures.1.0 c.in-Some.ensures.1.1

pub bounds-histories-place-in-Some : goal.bounds-histories-place-in-Some
bounds-histories-place-in-Some c = shown_within c.loop-place.histories c.in-Some.place c.in-Some.ensures.1.0 c.in-Some.ensures.1.1

pub loop-place-preserved : goal.loop-place-preserved
loop-place-preserved c =
    let within : c.in-Some.place < length c.loop-place.histories = shown_within c.loop-place.histories c.in-Some.place c.in-Some.ensures.1.0 c.in-Some.ensures.1.1 in
    record {
      marked = shown_marks (map shown_history c.args.histories.now) c.loop-place.from c.in-Some.place c.args.lines.now c.loop-place.lines c.take_pending_line.new.lines c.loop-place.histories c.in-Some.ensures.1.0
          c.index-histories-place.result c.loop-place.invariant.marked c.in-Some.ensures.0 c.in-Some.ensures.1.1 c.in-Some.ensures.1.2 within;
      texts = All-set KeepsText c.loop-place.histories c.in-Some.place (record (get_or c.loop-place.histories c.in-Some.place c.index-histories-place.result) { pending = true }) (c.loop-place.invariant.texts c.in-Some.place c.index-histories-place.result within) c.loop-place.invariant.texts;
    }

pub returns-clause-taken : goal.returns-clause-taken
returns-clause-taken c =
    marks_all (map shown_history c.args.histories.now) c.loop-place.from c.args.lines.now c.loop-place.lines c.take_pending_line.new.lines (map shown_history c.loop-place.histories) c.loop-place.invariant.marked
    (told_histories (map shown_history c.args.histories.now) (map shown_history c.loop-place.histories) c.loop-place.invariant.marked.same c.requires.good) c.in_default.ensures.0 c.in_default.ensures.1
