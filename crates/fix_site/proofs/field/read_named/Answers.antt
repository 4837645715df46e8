use Rattle.std.proofs.Common.{ℕ, List, arith, sym, subst}
use Rattle.std.specs.Prelude.{decimal}
use Rattle.line_forms.specs.Names.{IsName}
use Rattle.fix_site.specs.Readings.{named_fields}
use Rattle.line_forms.proofs.FieldReading.{again}
use Rattle.fix_site.proofs.FieldLemmas.{plain_named, first_same, second_same, pair_text}
use Rattle.fix_site.proofs.field.read_named.Goals as goal

pub returns-in_default : goal.returns-in_default
returns-in_default c = λ name id h k e.
    c.in_default.ensures name (decimal id) (again c.args.text.now (named_fields name id) (omega arith) (plain_named name id h k) e)

pub returns-in_default-read_name : goal.returns-in_default-read_name
returns-in_default-read_name c = λ name id h k e.
    let same = first_same c.args.text.now c.in-Some.pair.first.now c.in-Some.pair.second.now name (decimal id) c.in-Some.ensures
    (again c.args.text.now (named_fields name id) (omega arith) (plain_named name id h k) e) in
    let P : List ℕ → Type 0 = IsName in
    c.in_default-read_name.ensures (subst P (sym same) h)

pub returns-in_default-read_id : goal.returns-in_default-read_id
returns-in_default-read_id c = λ name id h k e.
    c.in_default-read_id.ensures id k (second_same c.args.text.now c.in-Some.pair.first.now c.in-Some.pair.second.now name (decimal id) c.in-Some.ensures
    (again c.args.text.now (named_fields name id) (omega arith) (plain_named name id h k) e))

pub returns : goal.returns
returns c =
    let P : List ℕ → Type 0 = IsName in (
      subst P (sym c.in-Some-read_name.ensures.1) c.in-Some-read_name.ensures.0,
      c.in-Some-read_id.ensures.0,
      pair_text c.args.text.now c.in-Some.pair.first.now c.in-Some.pair.second.now c.in-Some-read_name.name.now (decimal c.in-Some-read_id.id) c.in-Some.ensures (sym c.in-Some-read_name.ensures.1) c.in-Some-read_id.ensures.1,
    )
