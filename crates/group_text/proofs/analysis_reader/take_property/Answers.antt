use Rattle.std.proofs.Common.{ℕ, List, Option, refl, sym, subst}
use Rattle.std.specs.Prelude.{codes}
use Rattle.std.proofs.lemmas.Bool.{iff_false}
use Rattle.line_forms.specs.Readers.{Spells}
use Rattle.line_forms.proofs.Passing.{takes_rest}
use Rattle.group_text.specs.declared.property.Property.{Property}
use Rattle.group_text.specs.Analyses.{HasName}
use Rattle.group_text.specs.Properties.{IsProperty, property_rest}
use Rattle.group_text.proofs.AnalysisReading.{name_again, other_rest, other_word, too_many}
use Rattle.group_text.proofs.analysis_reader.take_property.Goals as goal

pub returns-then-before-ge-MOST_PROPERTIES : goal.returns-then-before-ge-MOST_PROPERTIES
returns-then-before-ge-MOST_PROPERTIES c = (refl, too_many c.args.before.now c.args.lines.now c.if-before-ge-MOST_PROPERTIES.true)

pub returns-in_default : goal.returns-in_default
returns-in_default c = (refl, other_word c.args.before.now c.args.lines.now c.in_default.ensures)

pub returns-in_default-2 : goal.returns-in_default-2
returns-in_default-2 c =
    let S : Option Property → Type 0 = Spells IsProperty property_rest c.in-Some.rest.now in
    (refl, other_rest c.args.before.now c.args.lines.now c.in-Some.rest.now c.in-Some.ensures.0 c.in-Some.ensures.1 (subst S c.in_default-2.is c.in_ok-property.ensures))

pub returns-then-has_name : goal.returns-then-has_name
returns-then-has_name c =
    let S : Option Property → Type 0 = Spells IsProperty property_rest c.in-Some.rest.now in
    let H : List ℕ → Type 0 = HasName c.args.before.now in
    let read = subst S c.in-Some-2.is c.in_ok-property.ensures in
    (refl, name_again c.args.before.now c.args.lines.now c.in-Some.rest.now c.in-Some.ensures.0 c.in-Some-2.property c.in-Some.ensures.1 read.0 read.1 (subst H c.as_str.ensures (c.has_name.ensures.0 c.if-has_name.true)))

pub returns : goal.returns
returns c =
    let S : Option Property → Type 0 = Spells IsProperty property_rest c.in-Some.rest.now in
    let H : List ℕ → Type 0 = HasName c.args.before.now in
    let read = subst S c.in-Some-2.is c.in_ok-property.ensures in (
      record { good = read.0; other = λ has. iff_false c.has_name.ensures c.if-has_name.false (subst H (sym c.as_str.ensures) has); few = c.if-before-ge-MOST_PROPERTIES.false },
      takes_rest c.args.lines.now c.skip_line.new.self (codes "property") c.in-Some.rest.now (property_rest c.in-Some-2.property) c.in-Some.ensures.0 c.in-Some.ensures.1 read.1 c.skip_line.ensures,
    )
