use Rattle.std.proofs.Common.{ℕ, ◌<◌, ◌≤◌, List, length, map, arith}
use Rattle.line_forms.specs.Lines.{ended_line, lines_text}
use Rattle.act_rules.specs.declared.row.Row.{Row}
use Rattle.report_text.specs.declared.form.Form.TheVariants.{Two}
use Rattle.agent_text.specs.AttemptLines.{attempt_line}
use Rattle.agent_text.proofs.FillLemmas.{fills_all, lines_of_items, room_more}
use Rattle.agent_text.proofs.room_writer.fill_attempts.Goals as goal

abbrev text : Row → List ℕ
text row = ended_line (attempt_line Two row)

abbrev whole : List Row → List ℕ
whole rows = lines_text (map (attempt_line Two) rows)

pub fill_attempt-requires : goal.fill_attempt-requires
fill_attempt-requires c =
    let rows : List Row = c.args.rows.now in
    let inside : c.loop-row.row-index < length rows = search (arith, c.loop-row-test.true) in
    room_more text rows (whole rows) c.loop-row.row-index _ c.args.room.now c.loop-row.room (lines_of_items (attempt_line Two) rows) inside c.requires c.loop-row.invariant

pub returns : goal.returns
returns c =
    let rows : List Row = c.args.rows.now in
    let all : length rows ≤ c.loop-row.row-index = search (arith, c.loop-row-test.false) in
    fills_all text rows (whole rows) c.loop-row.row-index c.args.room.now c.loop-row.room (lines_of_items (attempt_line Two) rows) all c.loop-row.invariant
