use Rattle.std.proofs.Common.{w64}
use Rattle.std.proofs.lemmas.Bool.{iff_false}
use Rattle.std.proofs.lemmas.Int.{to_z-of_z}
use Rattle.group_text.proofs.AnalysisReading.{no_property, no_question, property_whole}
use Rattle.group_text.proofs.FieldLemmas.{period_fits}
use Rattle.group_text.proofs.analysis_reader.read_property.Goals as goal

pub returns-in_default : goal.returns-in_default
returns-in_default c = no_property c.args.rest.now c.in_default.ensures

pub returns-then-not-branch : goal.returns-then-not-branch
returns-then-not-branch c =
    no_question c.args.rest.now c.in-Some.fields.name.now c.in-Some.fields.period c.in-Some.fields.question.now c.in-Some.ensures (iff_false c.in_ok-is_question.ensures c.if-not-branch.true)

pub returns : goal.returns
returns c =
    property_whole c.args.rest.now c.in-Some.fields.name.now c.in-Some.fields.period c.in-Some.fields.question.now _ c.in-Some.ensures (c.in_ok-is_question.ensures.0 c.if-not-branch.false)
    c.in_ok-from_str.ensures (to_z-of_z w64 c.in-Some.fields.period (period_fits c.in-Some.fields.period c.in-Some.ensures.1)) c.in_ok-from_str-2.ensures
