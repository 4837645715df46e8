use Rattle.std.proofs.Common.{ℕ, List, Option, sym, subst, refl, rules, SFits, w64}
use Rattle.std.proofs.lemmas.Int.{to_z-of_z}
use Rattle.line_forms.specs.Readers.{Passes}
use Rattle.fix_site.specs.declared.action.Target.{Target}
use Rattle.fix_site.specs.declared.action.Action.{Action}
use Rattle.fix_site.specs.Actions.{action_rest}
use Rattle.fix_site.specs.Readings.{TakesTarget, head_value, IsActionOf}
use Rattle.fix_site.proofs.Actions.{at_head, at_target, behind_head, behind_target, stuck_action, action_good, action_pass}
use Rattle.fix_site.proofs.action_reader.take_action.Goals as goal

pub returns-in_default : goal.returns-in_default
returns-in_default c = stuck_action c.args.id c.args.lines.now c.take_head.new.lines c.requires (at_head c.args.lines.now c.take_head.new.lines c.in_default.ensures)

pub returns-in_default-2 : goal.returns-in_default-2
returns-in_default-2 c =
    let P : Option Target → Type 0 = λ o. TakesTarget c.take_head.new.lines c.take_target.new.lines o in
    stuck_action c.args.id c.args.lines.now c.take_target.new.lines c.requires
    (behind_head (head_value c.in-Some.head) c.args.lines.now c.take_head.new.lines c.take_target.new.lines c.in-Some.ensures.0 c.in-Some.ensures.1
    (at_target c.take_head.new.lines c.take_target.new.lines (subst P c.in_default-2.is c.in_ok-target.ensures)))

pub returns-in_default-take_end : goal.returns-in_default-take_end
returns-in_default-take_end c =
    let P : Option Target → Type 0 = λ o. TakesTarget c.take_head.new.lines c.take_target.new.lines o in
    let target = subst P c.in-Some-2.is c.in_ok-target.ensures in
    stuck_action c.args.id c.args.lines.now c.take_end.new.lines c.requires
    (behind_head (head_value c.in-Some.head) c.args.lines.now c.take_head.new.lines c.take_end.new.lines c.in-Some.ensures.0 c.in-Some.ensures.1
    (behind_target c.in-Some-2.target c.take_head.new.lines c.take_target.new.lines c.take_end.new.lines target.0 target.1 target.2 c.in_default-take_end.ensures))

pub returns : goal.returns
returns c =
    let P : Option Target → Type 0 = λ o. TakesTarget c.take_head.new.lines c.take_target.new.lines o in
    let target = subst P c.in-Some-2.is c.in_ok-target.ensures in
    let Q : List ℕ → Type 0 = λ site.
    let a : Action = record { id = c.args.id; issued = c.in-Some.head.issued; site = site; content = c.in-Some.head.content.id; all_members = c.in-Some.head.all_members; target = c.in-Some-2.target; rules = c.in-Some-take_end.end.rules; stopped = c.in-Some-take_end.end.stopped } in
    IsActionOf c.args.id a × Passes c.args.lines.now c.take_end.new.lines (action_rest a) in
    let fits : SFits w64 c.in-Some.head.issued = search rules in
    simp to_z-of_z (subst Q (sym c.in_ok-from_str.ensures) (
      (action_good c.args.id (head_value c.in-Some.head) c.in-Some-2.target c.in-Some-take_end.end c.requires c.in-Some.ensures.0 target.0 c.in-Some-take_end.ensures.0, refl),
      action_pass c.args.id (head_value c.in-Some.head) c.in-Some-2.target c.in-Some-take_end.end c.args.lines.now c.take_head.new.lines c.take_target.new.lines c.take_end.new.lines c.in-Some.ensures.1 target.1 c.in-Some-take_end.ensures.1,
    ))
