use Rattle.std.proofs.Common.{ℕ, ◌<◌, ◌≤◌, List, length, map, arith, ◌∙◌}
use Rattle.std.proofs.lemmas.List.Folds.{flat_map-map}
use Rattle.line_forms.specs.Lines.{lines_text}
use Rattle.agent_text.specs.declared.history.History.{History}
use Rattle.agent_text.specs.Histories.{pending_ids, shown_history}
use Rattle.agent_text.specs.SavedTexts.{pending_line}
use Rattle.agent_text.specs.PartWritings.{pending_text}
use Rattle.agent_text.proofs.FillLemmas.{fills_all, pending_of_histories, room_item}
use Rattle.agent_text.proofs.room_writer.fill_pending.Goals as goal

abbrev text : History → List ℕ
text x = pending_text (shown_history x)

pub fill_pending_line-requires : goal.fill_pending_line-requires
fill_pending_line-requires c =
    let items : List History = c.args.histories.now in
    let inside : c.loop-history.history-index < length items = search (arith, c.loop-history-test.true) in
    room_item text items (lines_text (map pending_line (pending_ids (map shown_history items)))) c.loop-history.history-index c.history-item.result c.args.room.now c.loop-history.room (pending_of_histories (map shown_history items) ∙ flat_map-map pending_text shown_history items) inside c.history-item.is c.requires c.loop-history.invariant

pub returns : goal.returns
returns c =
    let items : List History = c.args.histories.now in
    let all : length items ≤ c.loop-history.history-index = search (arith, c.loop-history-test.false) in
    fills_all text items (lines_text (map pending_line (pending_ids (map shown_history items)))) c.loop-history.history-index c.args.room.now c.loop-history.room (pending_of_histories (map shown_history items) ∙ flat_map-map pending_text shown_history items) all c.loop-history.invariant
