use Rattle.std.proofs.Common.{rules, refl, SFits, w64}
use Rattle.std.proofs.lemmas.Int.{to_z-of_z}
use Rattle.act_rules.proofs.WindowLemmas.{open_where}
use Rattle.act_rules.proofs.times.window.Goals as goal

pub returns : goal.returns
returns c =
    let moment_fits : SFits w64 c.args.moment = c.ranges.moment in
    let offset_fits : SFits w64 c.args.offset = c.ranges.offset in
    let local_fits : SFits w64 c.local_time-local.result = search rules in
    let mark_fits : SFits w64 c.mark_of-mark.result = search rules in
    let mark = simp to_z-of_z at c.mark_of-mark.ensures in
    let local = simp to_z-of_z at c.local_time-local.ensures.value in
    let started = simp to_z-of_z at c.if-not-has_started.ensures in
    let going = simp to_z-of_z at c.if-not-goes_on.ensures in
    let hours = simp to_z-of_z at c.has_hours.ensures in
    open_where c.args.rules.now c.args.moment c.local_time-local.result c.mark_of-mark.result _ c.has_hours.result mark local (started.0 refl) (going.0 refl) hours
