use Rattle.std.proofs.Common.{◌≡◌, ◌/◌, arith}
use Rattle.std.proofs.lemmas.Int.{ints}
use Rattle.rel_value.specs.Spellings.{shown_seconds}
use Rattle.rel_value.proofs.TimeReads.{shown-is, shown-same}
use Rattle.rel_value.proofs.time_read.read.Goals as goal
use Rattle.rel_value.proofs.time_read.read.Goals.{then-offset-ltminus840-via-then-offset-ltminus840, then-offset-ltminus840-via-else-offset-ltminus840+then-offset-gt840, then-offset-ltminus840-via-else-offset-ltminus840+else-offset-gt840+then-moment-lt0, then-offset-ltminus840-via-else-offset-ltminus840+else-offset-gt840+else-moment-lt0+then-moment-gt-LAST_MOMENT}

pub returns-then-offset-ltminus840-clause-whole : goal.returns-then-offset-ltminus840-clause-whole
returns-then-offset-ltminus840-clause-whole c = λ moment offset hm ho e.
    let k = c.in_ok-days.ensures.value moment offset hm ho e in
    let d : c.in_ok-days.days ≡ shown_seconds moment offset / 86400 = cc in
    let s = c.clock_at.ensures.value moment offset hm ho e in
    let o = c.offset_at-offset.ensures.value moment offset hm ho e in
    let i = shown-is moment offset hm ho in
    elim c.then-offset-ltminus840.branch [
      | then-offset-ltminus840-via-then-offset-ltminus840 w ↦ absurd (omega (arith, ints, d, s, o, i, hm.0, hm.1, ho.0, ho.1, w.if-offset-ltminus840.true))
      | then-offset-ltminus840-via-else-offset-ltminus840+then-offset-gt840 w ↦ absurd (omega (arith, ints, d, s, o, i, hm.0, hm.1, ho.0, ho.1, w.if-offset-gt840.true))
      | then-offset-ltminus840-via-else-offset-ltminus840+else-offset-gt840+then-moment-lt0 w ↦ absurd (omega (arith, ints, d, s, o, i, hm.0, hm.1, ho.0, ho.1, w.if-moment-lt0.true))
      | then-offset-ltminus840-via-else-offset-ltminus840+else-offset-gt840+else-moment-lt0+then-moment-gt-LAST_MOMENT w ↦ absurd (omega (arith, ints, d, s, o, i, hm.0, hm.1, ho.0, ho.1, w.if-moment-gt-LAST_MOMENT.true))
    ]

pub returns-clause-whole : goal.returns-clause-whole
returns-clause-whole c = λ moment offset hm ho e.
    let k = c.in_ok-days.ensures.value moment offset hm ho e in
    let d : c.in_ok-days.days ≡ shown_seconds moment offset / 86400 = cc in
    let s = c.clock_at.ensures.value moment offset hm ho e in
    let o = c.offset_at-offset.ensures.value moment offset hm ho e in
    let i = shown-is moment offset hm ho in
    shown-same _ _ moment offset (omega (arith, ints, d, s, o, i, hm.0, hm.1, ho.0, ho.1)) (omega (arith, ints, o, ho.0, ho.1))
