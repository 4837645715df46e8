use Rattle.std.proofs.Common.{rules, SFits, w64}
use Rattle.std.proofs.lemmas.Int.{to_z-of_z}
use Rattle.fix_site.specs.Readings.{HeadValue}
use Rattle.fix_site.proofs.Actions.{at_issued, at_content, at_members, behind_issued, behind_content, stuck_head, head_pass}
use Rattle.fix_site.proofs.action_reader.take_head.Goals as goal

pub returns-in_default : goal.returns-in_default
returns-in_default c = stuck_head c.args.lines.now c.take_issued.new.lines (at_issued c.args.lines.now c.take_issued.new.lines c.in_default.ensures)

pub returns-in_default-take_content : goal.returns-in_default-take_content
returns-in_default-take_content c =
    stuck_head c.args.lines.now c.take_content.new.lines
    (behind_issued c.in-Some.issued c.args.lines.now c.take_issued.new.lines c.take_content.new.lines c.in-Some.ensures.0 c.in-Some.ensures.1
    (at_content c.take_issued.new.lines c.take_content.new.lines c.in_default-take_content.ensures))

pub returns-in_default-take_choice : goal.returns-in_default-take_choice
returns-in_default-take_choice c =
    stuck_head c.args.lines.now c.take_choice.new.lines
    (behind_issued c.in-Some.issued c.args.lines.now c.take_issued.new.lines c.take_choice.new.lines c.in-Some.ensures.0 c.in-Some.ensures.1
    (behind_content c.in-Some-take_content.content.name.now c.in-Some-take_content.content.id c.take_issued.new.lines c.take_content.new.lines c.take_choice.new.lines
    c.in-Some-take_content.ensures.0 c.in-Some-take_content.ensures.1 c.in-Some-take_content.ensures.2
    (at_members c.take_content.new.lines c.take_choice.new.lines c.in_default-take_choice.ensures)))

pub returns : goal.returns
returns c =
    let fits : SFits w64 c.in-Some.issued = search rules in
    let head : HeadValue = record { issued = c.in-Some.issued; site = c.in-Some-take_content.content.name.now; content = c.in-Some-take_content.content.id; all_members = c.in-Some-take_choice.all_members } in
    simp to_z-of_z (
      record { issued = c.in-Some.ensures.0; site = c.in-Some-take_content.ensures.0; content = c.in-Some-take_content.ensures.1 },
      head_pass head c.args.lines.now c.take_issued.new.lines c.take_content.new.lines c.take_choice.new.lines c.in-Some.ensures.1 c.in-Some-take_content.ensures.2 c.in-Some-take_choice.ensures.1,
    )
