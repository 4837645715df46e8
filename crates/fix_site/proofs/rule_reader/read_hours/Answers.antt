use Rattle.std.proofs.Common.{◌≡◌, ◌∷◌, [], ◌≤◌, arith, sym, ◌∙◌, inl, inr}
use Rattle.std.specs.Prelude.{decimal}
use Rattle.line_forms.proofs.FieldReading.{again}
use Rattle.fix_site.proofs.FieldLemmas.{hours_plain, first_same, second_same, pair_text}
use Rattle.fix_site.proofs.rule_reader.read_hours.Goals as goal

pub returns-in_default : goal.returns-in_default
returns-in_default c = λ hours is e.
    c.in_default.ensures (decimal hours.from) (decimal hours.to) (again c.args.text.now (decimal hours.from ∷ decimal hours.to ∷ []) (omega arith) (hours_plain hours is) e)

pub returns-in_default-read_number : goal.returns-in_default-read_number
returns-in_default-read_number c = λ hours is e.
    c.in_default-read_number.ensures hours.from (
      is.from,
      first_same c.args.text.now c.in-Some.pair.first.now c.in-Some.pair.second.now (decimal hours.from) (decimal hours.to) c.in-Some.ensures
          (again c.args.text.now (decimal hours.from ∷ decimal hours.to ∷ []) (omega arith) (hours_plain hours is) e),
    )

pub returns-in_default-read_number-2 : goal.returns-in_default-read_number-2
returns-in_default-read_number-2 c = λ hours is e.
    c.in_default-read_number-2.ensures hours.to (
      is.to.1,
      second_same c.args.text.now c.in-Some.pair.first.now c.in-Some.pair.second.now (decimal hours.from) (decimal hours.to) c.in-Some.ensures
          (again c.args.text.now (decimal hours.from ∷ decimal hours.to ∷ []) (omega arith) (hours_plain hours is) e),
    )

pub returns-then-to-eq0 : goal.returns-then-to-eq0
returns-then-to-eq0 c = λ hours is e.
    let fields = again c.args.text.now (decimal hours.from ∷ decimal hours.to ∷ []) (omega arith) (hours_plain hours is) e in
    let first = first_same c.args.text.now c.in-Some.pair.first.now c.in-Some.pair.second.now (decimal hours.from) (decimal hours.to) c.in-Some.ensures fields in
    let second = second_same c.args.text.now c.in-Some.pair.first.now c.in-Some.pair.second.now (decimal hours.from) (decimal hours.to) c.in-Some.ensures fields in
    let from : hours.from ≡ c.in-Some-read_number.from = c.in-Some-read_number.ensures.1 hours.from (is.from, first) in
    let to : hours.to ≡ c.in-Some-read_number-2.to = c.in-Some-read_number-2.ensures.1 hours.to (is.to.1, second) in
    elim c.then-to-eq0.either [
      | inl zero ↦ absurd (omega (arith, is.to.0, zero, to))
      | inr same ↦ is.apart (from ∙ same.1 ∙ sym to)
    ]

pub returns : goal.returns
returns c =
    let one = c.in-Some-read_number.ensures.0 in
    let two = c.in-Some-read_number-2.ensures.0 in
    let some : 1 ≤ c.in-Some-read_number-2.to = omega (arith, c.if-to-eq0.false) in (
      record { from = one.0; to = (some, two.0); apart = c.if-from-to.false },
      pair_text c.args.text.now c.in-Some.pair.first.now c.in-Some.pair.second.now (decimal c.in-Some-read_number.from) (decimal c.in-Some-read_number-2.to) c.in-Some.ensures one.1 two.1,
    )
