use Rattle.std.proofs.Common.{ℕ, List, ◌++◌, map, subst, sym, arith}
use Rattle.std.specs.Prelude.{codes, flat_map}
use Rattle.desk_base.specs.Rooms.{Fills}
use Rattle.line_forms.specs.Lines.{lines_text}
use Rattle.report_text.specs.Reports.{report_text}
use Rattle.agent_text.specs.declared.saved.Saved.{Saved}
use Rattle.agent_text.specs.Histories.{PlainHistory, pending_ids}
use Rattle.agent_text.specs.SavedTexts.{pending_line}
use Rattle.agent_text.specs.PartWritings.{head_text}
use Rattle.agent_text.specs.HistoryLines.{history_text}
use Rattle.agent_text.proofs.FillLemmas.{filled_length, fills_then, rest_text, saved_length, saved_parts}
use Rattle.agent_text.proofs.room_writer.fill_saved.Goals as goal

abbrev pending_lines : List PlainHistory → List ℕ
pending_lines hs = lines_text (map pending_line (pending_ids hs))

pub fill_kept-requires-clause-room : goal.fill_kept-requires-clause-room
fill_kept-requires-clause-room c =
    let hs = c.args.histories.now in
    let saved : Saved = record { computer = c.args.computer.now; next = c.args.next; histories = hs; reports = c.args.reports.reports.now } in
    let filled_head = filled_length (head_text c.args.computer.now c.args.next) c.args.room.now c.fill_head.new.room c.fill_head.ensures in
    rw c.kept.ensures.value (omega (arith, c.requires.room, saved_length saved, filled_head, c.fill_head.ensures.1))

pub fill_pending-requires : goal.fill_pending-requires
fill_pending-requires c =
    let hs = c.args.histories.now in
    let saved : Saved = record { computer = c.args.computer.now; next = c.args.next; histories = hs; reports = c.args.reports.reports.now } in
    let filled_head = filled_length (head_text c.args.computer.now c.args.next) c.args.room.now c.fill_head.new.room c.fill_head.ensures in
    let histories : Fills c.fill_head.new.room c.fill_kept.new.room (flat_map history_text hs) = rw (← c.kept.ensures.value) c.fill_kept.ensures in
    let filled_histories = filled_length (flat_map history_text hs) c.fill_head.new.room c.fill_kept.new.room histories in
    rw c.as_slice.ensures.value (omega (arith, c.requires.room, saved_length saved, filled_head, c.fill_head.ensures.1, filled_histories, histories.1))

pub fill_made-requires-clause-room : goal.fill_made-requires-clause-room
fill_made-requires-clause-room c =
    let hs = c.args.histories.now in
    let saved : Saved = record { computer = c.args.computer.now; next = c.args.next; histories = hs; reports = c.args.reports.reports.now } in
    let filled_head = filled_length (head_text c.args.computer.now c.args.next) c.args.room.now c.fill_head.new.room c.fill_head.ensures in
    let histories : Fills c.fill_head.new.room c.fill_kept.new.room (flat_map history_text hs) = rw (← c.kept.ensures.value) c.fill_kept.ensures in
    let filled_histories = filled_length (flat_map history_text hs) c.fill_head.new.room c.fill_kept.new.room histories in
    let pending : Fills c.fill_kept.new.room c.fill_pending.new.room (pending_lines hs) = rw (← c.as_slice.ensures.value) c.fill_pending.ensures in
    let filled_pending = filled_length (pending_lines hs) c.fill_kept.new.room c.fill_pending.new.room pending in
    omega (arith, c.requires.room, saved_length saved, filled_head, c.fill_head.ensures.1, filled_histories, histories.1, filled_pending, pending.1)

pub extend-requires : goal.extend-requires
extend-requires c =
    let hs = c.args.histories.now in
    let saved : Saved = record { computer = c.args.computer.now; next = c.args.next; histories = hs; reports = c.args.reports.reports.now } in
    let filled_head = filled_length (head_text c.args.computer.now c.args.next) c.args.room.now c.fill_head.new.room c.fill_head.ensures in
    let histories : Fills c.fill_head.new.room c.fill_kept.new.room (flat_map history_text hs) = rw (← c.kept.ensures.value) c.fill_kept.ensures in
    let filled_histories = filled_length (flat_map history_text hs) c.fill_head.new.room c.fill_kept.new.room histories in
    let pending : Fills c.fill_kept.new.room c.fill_pending.new.room (pending_lines hs) = rw (← c.as_slice.ensures.value) c.fill_pending.ensures in
    let filled_pending = filled_length (pending_lines hs) c.fill_kept.new.room c.fill_pending.new.room pending in
    let filled_reports = filled_length (flat_map report_text c.args.reports.reports.now) c.fill_pending.new.room c.fill_made.new.room c.fill_made.ensures in
    omega (arith, c.requires.room, saved_length saved, filled_head, c.fill_head.ensures.1, filled_histories, histories.1, filled_pending, pending.1, filled_reports, c.fill_made.ensures.1)

pub returns : goal.returns
returns c =
    let hs = c.args.histories.now in
    let saved : Saved = record { computer = c.args.computer.now; next = c.args.next; histories = hs; reports = c.args.reports.reports.now } in
    let histories : Fills c.fill_head.new.room c.fill_kept.new.room (flat_map history_text hs) = rw (← c.kept.ensures.value) c.fill_kept.ensures in
    let pending : Fills c.fill_kept.new.room c.fill_pending.new.room (pending_lines hs) = rw (← c.as_slice.ensures.value) c.fill_pending.ensures in
    let reports = flat_map report_text c.args.reports.reports.now in
    let from_reports = fills_then reports (codes "end\n") c.fill_pending.new.room c.fill_made.new.room c.extend.new.self c.fill_made.ensures c.extend.ensures in
    let from_pending = fills_then (pending_lines hs) (reports ++ codes "end\n") c.fill_kept.new.room c.fill_pending.new.room c.extend.new.self pending from_reports in
    let from_histories = fills_then (flat_map history_text hs) (pending_lines hs ++ (reports ++ codes "end\n")) c.fill_head.new.room c.fill_kept.new.room c.extend.new.self histories from_pending in
    subst (λ t. Fills c.args.room.now c.extend.new.self t) (sym (saved_parts saved))
    (fills_then (head_text c.args.computer.now c.args.next) (rest_text hs c.args.reports.reports.now) c.args.room.now c.fill_head.new.room c.extend.new.self c.fill_head.ensures from_histories)
