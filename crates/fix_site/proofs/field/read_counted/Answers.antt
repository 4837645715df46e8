use Rattle.std.proofs.Common.{arith, rules, SFits, w64}
use Rattle.std.specs.Prelude.{decimal}
use Rattle.std.specs.Fmt.{signed_decimal}
use Rattle.std.proofs.lemmas.Int.{to_z-of_z}
use Rattle.fix_site.specs.Readings.{counted_fields}
use Rattle.line_forms.proofs.FieldReading.{again}
use Rattle.fix_site.proofs.FieldLemmas.{plain_counted, first_same, second_same, pair_text}
use Rattle.fix_site.proofs.field.read_counted.Goals as goal

pub returns-in_default : goal.returns-in_default
returns-in_default c = λ count wait h k e.
    c.in_default.ensures (decimal count) (signed_decimal wait) (again c.args.text.now (counted_fields count wait) (omega arith) (plain_counted count wait h k) e)

pub returns-in_default-read_count : goal.returns-in_default-read_count
returns-in_default-read_count c = λ count wait h k e.
    c.in_default-read_count.ensures count h (first_same c.args.text.now c.in-Some.pair.first.now c.in-Some.pair.second.now (decimal count) (signed_decimal wait) c.in-Some.ensures
    (again c.args.text.now (counted_fields count wait) (omega arith) (plain_counted count wait h k) e))

pub returns-in_default-read_wait : goal.returns-in_default-read_wait
returns-in_default-read_wait c = λ count wait h k e.
    c.in_default-read_wait.ensures wait k (second_same c.args.text.now c.in-Some.pair.first.now c.in-Some.pair.second.now (decimal count) (signed_decimal wait) c.in-Some.ensures
    (again c.args.text.now (counted_fields count wait) (omega arith) (plain_counted count wait h k) e))

pub returns : goal.returns
returns c =
    let fits : SFits w64 c.in-Some-read_wait.wait = search rules in
    simp to_z-of_z (
      c.in-Some-read_count.ensures.0,
      c.in-Some-read_wait.ensures.0,
      pair_text c.args.text.now c.in-Some.pair.first.now c.in-Some.pair.second.now (decimal c.in-Some-read_count.count) (signed_decimal c.in-Some-read_wait.wait) c.in-Some.ensures
          c.in-Some-read_count.ensures.1 c.in-Some-read_wait.ensures.1,
    )
