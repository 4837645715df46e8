use Rattle.std.proofs.Common.{Bool, subst}
use Rattle.line_forms.specs.Readers.{TakesExactly}
use Rattle.fix_site.specs.Actions.{end_line}
use Rattle.fix_site.proofs.Actions.{at_rules, at_state, behind_rules, behind_state, stuck_end, end_pass}
use Rattle.fix_site.proofs.action_reader.take_end.Goals as goal

pub returns-in_default : goal.returns-in_default
returns-in_default c = stuck_end c.args.lines.now c.take_rules.new.lines (at_rules c.args.lines.now c.take_rules.new.lines c.in_default.ensures)

pub returns-in_default-take_choice : goal.returns-in_default-take_choice
returns-in_default-take_choice c =
    stuck_end c.args.lines.now c.take_choice.new.lines
    (behind_rules c.in-Some.rules c.args.lines.now c.take_rules.new.lines c.take_choice.new.lines c.in-Some.ensures.0 c.in-Some.ensures.1
    (at_state c.take_rules.new.lines c.take_choice.new.lines c.in_default-take_choice.ensures))

pub returns-then-not-take_exactly : goal.returns-then-not-take_exactly
returns-then-not-take_exactly c =
    let P : Bool → Type 0 = λ b. TakesExactly end_line c.take_choice.new.lines c.take_exactly.new.self b in
    stuck_end c.args.lines.now c.take_exactly.new.self
    (behind_rules c.in-Some.rules c.args.lines.now c.take_rules.new.lines c.take_exactly.new.self c.in-Some.ensures.0 c.in-Some.ensures.1
    (behind_state c.in-Some-take_choice.stopped c.take_rules.new.lines c.take_choice.new.lines c.take_exactly.new.self c.in-Some-take_choice.ensures.1
    (subst P c.if-not-take_exactly.true c.take_exactly.ensures)))

pub returns : goal.returns
returns c =
    let P : Bool → Type 0 = λ b. TakesExactly end_line c.take_choice.new.lines c.take_exactly.new.self b in (
      c.in-Some.ensures.0,
      end_pass c.in-Some.rules c.in-Some-take_choice.stopped c.args.lines.now c.take_rules.new.lines c.take_choice.new.lines c.take_exactly.new.self
          c.in-Some.ensures.1 c.in-Some-take_choice.ensures.1 (subst P c.if-not-take_exactly.false c.take_exactly.ensures),
    )
