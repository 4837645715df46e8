use Rattle.line_forms.proofs.Sequences.{taken_all, taken_more}
use Rattle.std.proofs.Common.{refl}
use Rattle.fix_site.specs.Contents.{component_line}
use Rattle.fix_site.specs.Readings.{Anywhere, IsComponent}
use Rattle.fix_site.proofs.content_reader.take_components.Goals as goal

pub loop-component-preserved : goal.loop-component-preserved
loop-component-preserved c =
    let taken = taken_more (Anywhere (IsComponent c.args.blocks.now)) component_line c.args.lines.now c.loop-component.lines c.take_component.new.lines c.loop-component.components.items c.loop-component.components.items c.push.new.self.items c.in-Some.component
    c.loop-component.invariant.good c.loop-component.invariant.passes refl c.in_ok-push.ensures.items c.in-Some.ensures.0 c.in-Some.ensures.1 in
    record { good = taken.0; passes = taken.1 }

pub returns : goal.returns
returns c =
    taken_all (Anywhere (IsComponent c.args.blocks.now)) component_line c.args.lines.now c.loop-component.lines c.take_component.new.lines c.loop-component.components.items c.loop-component.components.items c.from_vec.result
    c.loop-component.invariant.good c.loop-component.invariant.passes refl c.from_vec.ensures c.in_default.ensures.0 c.in_default.ensures.1
