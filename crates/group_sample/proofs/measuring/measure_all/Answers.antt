use Rattle.std.proofs.Common.{◌<◌, ◌≤◌, Option, List, [], ◌∷◌, ◌++◌, length, filter, refl, subst, arith}
use Rattle.std.proofs.lemmas.List.{take_all}
use Rattle.bf_world.specs.Worlds.{WorldState}
use Rattle.bf_machine.proofs.Looking.{OnlyLooks-refl, OnlyLooks-trans}
use Rattle.bf_machine.proofs.Telling.{CountsFailed-none}
use Rattle.group_text.specs.declared.property.Property.{Property}
use Rattle.group_sample.specs.Due.{is_due}
use Rattle.group_sample.specs.Rows.{IsRowOf}
use Rattle.group_sample.specs.Samples.{Measures}
use Rattle.group_sample.proofs.MeasureLemmas.{failed_few, measured_next, question_at}
use Rattle.group_sample.proofs.measuring.measure_all.Goals as goal

pub loop-property-init : goal.loop-property-init
loop-property-init g c = record { measures = (c.new.ensures.items, refl); counts = CountsFailed-none _ _ refl; looks = OnlyLooks-refl _ }

pub measure-requires-clause-few : goal.measure-requires-clause-few
measure-requires-clause-few g c =
    let within : c.loop-property.property-index < length c.args.properties.now = search (arith, c.loop-property-test.true) in
    failed_few _ (is_due c.args.moments.now c.args.scene.now.moment) c.args.properties.now c.loop-property.property-index c.loop-property.measured.rows.items c.loop-property.measured.failed
    c.requires.properties.few within c.loop-property.invariant.measures

pub measure-requires-clause-question : goal.measure-requires-clause-question
measure-requires-clause-question g c =
    let within : c.loop-property.property-index < length c.args.properties.now = search (arith, c.loop-property-test.true) in
    question_at c.args.properties.now c.loop-property.property-index c.property-item.result within c.property-item.is c.requires.properties.good

pub loop-property-preserved : goal.loop-property-preserved
loop-property-preserved g c =
    let so = c.loop-property.invariant in
    let moment = c.args.scene.now.moment in
    let offset = c.args.scene.now.offset in
    let test = is_due c.args.moments.now moment in
    let p : Property = c.property-item.result in
    let S : Option WorldState → Type 0 = λ w. (done : List Property) → Measures (IsRowOf w moment offset) done c.loop-property.measured.rows.items c.loop-property.measured.failed
    → Measures (IsRowOf w moment offset) (done ++ filter test (p ∷ [])) c.measure.new.self.rows.items c.measure.new.self.failed in
    let within : c.loop-property.property-index < length c.args.properties.now = search (arith, c.loop-property-test.true) in
    record {
      measures = measured_next (IsRowOf (g.M.Machine.told c.args.machine.now).world moment offset) test c.args.properties.now c.loop-property.property-index p
          c.loop-property.measured.rows.items c.measure.new.self.rows.items c.loop-property.measured.failed c.measure.new.self.failed within c.property-item.is so.measures
          (subst S so.looks.world c.in_ok-measure.ensures.measures);
      counts = c.in_ok-measure.ensures.counts (g.M.Machine.told c.args.machine.now).faults so.counts;
      looks = OnlyLooks-trans so.looks c.in_ok-measure.ensures.looks;
    }

pub returns-clause-measures : goal.returns-clause-measures
returns-clause-measures g c =
    let past : length c.args.properties.now ≤ c.loop-property.property-index = search (arith, c.loop-property-test.false) in
    let P : List Property → Type 0 = λ ps. Measures (IsRowOf (g.M.Machine.told c.args.machine.now).world c.args.scene.now.moment c.args.scene.now.offset)
    (filter (is_due c.args.moments.now c.args.scene.now.moment) ps) c.loop-property.measured.rows.items c.loop-property.measured.failed in
    subst P (take_all c.loop-property.property-index c.args.properties.now past) c.loop-property.invariant.measures
