use Rattle.std.proofs.Common.{map, refl}
use Rattle.std.specs.Prelude.{codes, decimal}
use Rattle.line_forms.proofs.Passing.{takes_rest}
use Rattle.agent_text.specs.Histories.{shown_history}
use Rattle.agent_text.specs.PartReadings.{IsAbove}
use Rattle.std.proofs.lemmas.Bool.{iff_false}
use Rattle.agent_text.proofs.IdLines.{other_id}
use Rattle.agent_text.proofs.history_reader.take_action.Goals as goal

pub returns-then-not-is_above : goal.returns-then-not-is_above
returns-then-not-is_above c = (
  refl,
  other_id (IsAbove (map shown_history c.args.before.now)) (codes "action") c.in_ok-rest_ahead.field-0.now c.args.lines.now c.in_ok-rest_ahead.ensures.0 c.in_ok-action.action
      c.in_ok-rest_ahead.ensures.1 c.in_ok-action.ensures.0 c.in_ok-action.ensures.1 (iff_false c.is_above.ensures c.if-not-is_above.true),
)

pub returns : goal.returns
returns c = (
  (c.in_ok-action.ensures.0, c.is_above.ensures.0 c.if-not-is_above.false),
  takes_rest c.args.lines.now c.skip_line.new.self (codes "action") c.in_ok-rest_ahead.field-0.now (decimal c.in_ok-action.action) c.in_ok-rest_ahead.ensures.0 c.in_ok-rest_ahead.ensures.1 c.in_ok-action.ensures.1 c.skip_line.ensures,
)
