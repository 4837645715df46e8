use Rattle.std.proofs.Common.{◌≡◌, List, ℕ, OnOk, subst, FitsSigned, w64}
use Rattle.std.proofs.lemmas.Int.{to_z-of_z}
use Rattle.rel_value.proofs.Spelled.{time-written}
use Rattle.rel_value.proofs.time_text.write_time.Goals as goal

pub returns : goal.returns
returns c =
    let fm : FitsSigned w64 c.args.moment = c.ranges.moment in
    let fo : FitsSigned w64 c.args.offset = c.ranges.offset in
    let seconds = simp to_z-of_z at c.seconds_shown-seconds.ensures.value in
    let last = simp to_z-of_z at c.write_offset.ensures in
    let e = time-written c.args.moment c.args.offset c.seconds_shown-seconds.result c.date_after.result c.args.out.now c.weekday.result.now c.push.new.self c.push-2.new.self c.write_date.new.out c.push-3.new.self c.write_clock.new.out c.push-4.new.self seconds c.weekday.ensures c.date_after.ensures.value c.in_ok-push.ensures.ok c.in_ok-push-2.ensures.ok c.in_ok-write_date.ensures c.in_ok-push-3.ensures.ok c.in_ok-write_clock.ensures c.in_ok-push-4.ensures.ok in
    let P : List ℕ → Type 0 = λ l. OnOk c.write_offset.result (c.write_offset.new.out ≡ l) in
    subst P e last
