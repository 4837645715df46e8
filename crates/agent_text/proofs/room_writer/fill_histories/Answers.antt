use Rattle.std.proofs.Common.{ℕ, ◌<◌, ◌≤◌, List, length, map, arith, sym, subst}
use Rattle.std.specs.Prelude.{flat_map}
use Rattle.std.proofs.lemmas.List.Folds.{flat_map-map}
use Rattle.agent_text.specs.declared.history.History.{History}
use Rattle.agent_text.specs.Histories.{shown_history}
use Rattle.agent_text.specs.HistoryLines.{history_text}
use Rattle.agent_text.specs.KeptTexts.{KeepsText}
use Rattle.agent_text.proofs.FillLemmas.{fills_all, room_item}
use Rattle.agent_text.proofs.room_writer.fill_histories.Goals as goal

abbrev text : History → List ℕ
text x = history_text (shown_history x)

pub fill_history-requires-clause-kept : goal.fill_history-requires-clause-kept
fill_history-requires-clause-kept c =
    let items : List History = c.args.histories.now in
    let inside : c.loop-history.history-index < length items = search (arith, c.loop-history-test.true) in
    subst KeepsText (sym c.history-item.is) (c.requires.kept c.loop-history.history-index c.history-item.result inside)

pub fill_history-requires-clause-room : goal.fill_history-requires-clause-room
fill_history-requires-clause-room c =
    let items : List History = c.args.histories.now in
    let inside : c.loop-history.history-index < length items = search (arith, c.loop-history-test.true) in
    room_item text items (flat_map history_text (map shown_history items)) c.loop-history.history-index c.history-item.result c.args.room.now c.loop-history.room (flat_map-map history_text shown_history items) inside c.history-item.is c.requires.room c.loop-history.invariant

pub returns : goal.returns
returns c =
    let items : List History = c.args.histories.now in
    let all : length items ≤ c.loop-history.history-index = search (arith, c.loop-history-test.false) in
    fills_all text items (flat_map history_text (map shown_history items)) c.loop-history.history-index c.args.room.now c.loop-history.room (flat_map-map history_text shown_history items) all c.loop-history.invariant
