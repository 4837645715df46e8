use Rattle.std.proofs.Common.{Option, subst}
use Rattle.line_forms.specs.Readers.{ReadsPart}
use Rattle.fix_site.specs.declared.action.Action.{Action}
use Rattle.fix_site.specs.declared.baseline.Baseline.{Baseline}
use Rattle.fix_site.specs.declared.fixlet.Fixlet.{Fixlet}
use Rattle.fix_site.specs.declared.block_reader.Kind.{Kind}
use Rattle.fix_site.specs.Actions.{action_rest}
use Rattle.fix_site.specs.Contents.{fixlet_rest, baseline_rest}
use Rattle.fix_site.specs.Readings.{IsFixletOf, IsBaselineOf, IsActionOf}
use Rattle.fix_site.specs.BlockHeads.{CanBegin}
use Rattle.fix_site.proofs.BlockLines.{a_component, fixlet_stuck, baseline_stuck, action_stuck}
use Rattle.fix_site.proofs.block_reader.take_block_behind.Goals as goal

pub take_baseline-requires-clause-some : goal.take_baseline-requires-clause-some
take_baseline-requires-clause-some c =
    let P : Kind → Type 0 = λ k. CanBegin c.args.blocks.now k c.args.head.id in
    a_component c.requires.good.0 c.args.blocks.now c.requires.good.1 (subst P c.in-Baseline.is c.requires.some)

pub returns-in_default : goal.returns-in_default
returns-in_default c =
    let P : Option Fixlet → Type 0 = λ o. ReadsPart (IsFixletOf c.args.head.id) fixlet_rest c.args.lines.now c.take_fixlet.new.lines o in
    fixlet_stuck c.args.blocks.now c.args.head c.args.lines.now c.take_fixlet.new.lines c.in-Fixlet.is (subst P c.in_default.is c.in_ok-fixlet-in-Fixlet.ensures)

pub returns-in_default-2 : goal.returns-in_default-2
returns-in_default-2 c =
    let P : Option Baseline → Type 0 = λ o. ReadsPart (IsBaselineOf c.args.blocks.now c.args.head.id) baseline_rest c.args.lines.now c.take_baseline.new.lines o in
    baseline_stuck c.args.blocks.now c.args.head c.args.lines.now c.take_baseline.new.lines c.in-Baseline.is (subst P c.in_default-2.is c.in_ok-baseline-in-Baseline.ensures)

pub returns-in_default-3 : goal.returns-in_default-3
returns-in_default-3 c =
    let P : Option Action → Type 0 = λ o. ReadsPart (IsActionOf c.args.head.id) action_rest c.args.lines.now c.take_action.new.lines o in
    action_stuck c.args.blocks.now c.args.head c.args.lines.now c.take_action.new.lines c.in-Action.is (subst P c.in_default-3.is c.in_ok-action-in-Action.ensures)
