use Rattle.std.proofs.Common.{List, map, subst}
use Rattle.act_rules.specs.declared.row.Row.{Row}
use Rattle.act_rules.specs.Rows.{IsRows}
use Rattle.agent_text.specs.Histories.{shown_history}
use Rattle.agent_text.proofs.HistoryLists.{history_taken, lacks, no_rows, some_rows}
use Rattle.agent_text.proofs.history_reader.take_history.Goals as goal

pub returns-then-is_empty-clause-taken : goal.returns-then-is_empty-clause-taken
returns-then-is_empty-clause-taken c =
    lacks c.args.form (map shown_history c.args.before.now) c.args.lines.now c.take_action.new.lines c.take_attempts.new.lines c.in-Some.action c.number.result c.in_ok-rows.rows.rows
    c.in-Some.ensures.0.0 c.in-Some.ensures.0.1 c.in-Some.ensures.1 c.in_ok-rows.ensures
    (no_rows c.in_ok-rows.rows.rows c.as_slice.result.now c.is_empty.result c.as_slice.ensures.value c.is_empty.ensures c.if-is_empty.true) c.number.ensures

pub returns-clause-taken : goal.returns-clause-taken
returns-clause-taken c =
    let R : List Row → Type 0 = IsRows in
    history_taken c.args.form (map shown_history c.args.before.now) c.args.lines.now c.take_action.new.lines c.take_attempts.new.lines c.in-Some.action c.in_ok-rows.rows.rows
    c.in-Some.ensures.0.0 c.in-Some.ensures.0.1 c.in-Some.ensures.1 c.in_ok-rows.ensures
    (some_rows c.in_ok-rows.rows.rows c.as_slice.result.now c.is_empty.result c.as_slice.ensures.value c.is_empty.ensures c.if-is_empty.false) (subst R c.as_slice.ensures.value c.as_slice.ensures.rows)
