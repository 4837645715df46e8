use Rattle.std.proofs.Common.{Option, refl, subst}
use Rattle.line_forms.specs.Readers.{TakesOne}
use Rattle.line_forms.proofs.Sequences.{taken_all, taken_more}
use Rattle.group_text.specs.declared.property.Property.{Property}
use Rattle.group_text.specs.Analyses.{CanFollow}
use Rattle.group_text.specs.Properties.{property_line}
use Rattle.group_text.proofs.analysis_reader.take_properties.Goals as goal

pub loop-properties-preserved : goal.loop-properties-preserved
loop-properties-preserved c =
    let T : Option Property → Type 0 = TakesOne (CanFollow c.as_slice.result.now) property_line c.loop-properties.lines c.take_property.new.lines in
    let read = subst T c.in-Some.is c.in_ok-property.ensures in
    let taken = taken_more CanFollow property_line c.args.lines.now c.loop-properties.lines c.take_property.new.lines c.loop-properties.properties.items c.as_slice.result.now c.add.new.list.items c.in-Some.property
    c.loop-properties.invariant.each c.loop-properties.invariant.passes c.as_slice.ensures.value c.in_ok-add.ensures.ok read.0 read.1 in
    record { each = taken.0; passes = taken.1 }

pub returns : goal.returns
returns c =
    let T : Option Property → Type 0 = TakesOne (CanFollow c.as_slice.result.now) property_line c.loop-properties.lines c.take_property.new.lines in
    let none = subst T c.in_default.is c.in_ok-property.ensures in
    taken_all CanFollow property_line c.args.lines.now c.loop-properties.lines c.take_property.new.lines c.loop-properties.properties.items c.as_slice.result.now c.loop-properties.properties.items
    c.loop-properties.invariant.each c.loop-properties.invariant.passes c.as_slice.ensures.value refl none.0 none.1
