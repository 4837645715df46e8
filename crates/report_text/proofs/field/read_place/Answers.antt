use Rattle.std.proofs.lemmas.Bool.{iff_false}
use Rattle.report_text.proofs.FieldLemmas.{half_place}
use Rattle.report_text.proofs.field.read_place.Goals as goal

pub returns-then-not-is_dash : goal.returns-then-not-is_dash
returns-then-not-is_dash c = λ place is spells.
    half_place c.args.component.now c.args.line.now (c.is_dash.ensures.0 c.if-is_dash.true) (iff_false c.is_dash-then-is_dash.ensures c.if-not-is_dash.true) place is spells.0 spells.1
