use Rattle.std.proofs.lemmas.Result.{IfOk-weaker}
use Rattle.line_forms.specs.Readers.{ReadsPart}
use Rattle.fix_site.specs.Actions.{IsAction, action_lines, action_rest}
use Rattle.fix_site.specs.Readings.{IsActionOf}
use Rattle.fix_site.proofs.Actions.{at_id, reads_whole}
use Rattle.fix_site.proofs.action_reader.take_whole_action.Goals as goal

pub returns-in_default : goal.returns-in_default
returns-in_default c = at_id c.args.lines.now c.take_action_id.new.lines c.in_default.ensures

pub returns : goal.returns
returns c =
    IfOk-weaker c.take_action.result (λ a. ReadsPart (IsActionOf c.in-Some.id) action_rest c.take_action_id.new.lines c.take_action.new.lines a) (λ a. ReadsPart IsAction action_lines c.args.lines.now c.take_action.new.lines a)
    (λ a h. reads_whole c.in-Some.id c.args.lines.now c.take_action_id.new.lines c.take_action.new.lines a c.in-Some.ensures.0 c.in-Some.ensures.1 h) c.take_action.ensures
