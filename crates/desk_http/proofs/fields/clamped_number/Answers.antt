use Rattle.std.proofs.Common.{◌+◌, ◌*◌, ◌-◌, get_or, sym, ◌∙◌, arith}
use Rattle.desk_http.proofs.Numbers.{empty_is_none, zero_is_none, other_is_none, all_is_some, value_at_end, digits_step, all_step}
use Rattle.std.specs.Str.Parse.{digits_value}
use Rattle.desk_http.proofs.fields.clamped_number.Goals as goal

pub returns-then-not-is_ascii_digit : goal.returns-then-not-is_ascii_digit
returns-then-not-is_ascii_digit c =
    other_is_none c.args.text.now c.loop-rest.rest.now c.in-len1-up.len_at_least c.loop-rest.invariant.all (sym c.is_ascii_digit.ensures.value ∙ c.if-not-is_ascii_digit.true)

pub returns-then-is_empty : goal.returns-then-is_empty
returns-then-is_empty c = empty_is_none c.args.text.now (sym c.is_empty.ensures ∙ c.if-is_empty.true)

pub returns-then-has_leading_zero : goal.returns-then-has_leading_zero
returns-then-has_leading_zero c = zero_is_none c.args.text.now (sym c.has_leading_zero.ensures ∙ c.if-has_leading_zero.true)

pub returns : goal.returns
returns c =
    let i = c.loop-rest.invariant in
    (digits_value 10 c.args.text.now, all_is_some c.args.text.now c.loop-rest.rest.now (sym c.is_empty.ensures ∙ c.if-is_empty.false) (sym c.has_leading_zero.ensures ∙ c.if-has_leading_zero.false) i.all c.in_default.len_below, value_at_end c.args.text.now c.loop-rest.rest.now i.number c.loop-rest.value i.clamped i.digits c.in_default.len_below)

pub loop-rest-preserved : goal.loop-rest-preserved
loop-rest-preserved c =
    let i = c.loop-rest.invariant in
    let rest = c.loop-rest.rest.now in
    let is = sym c.is_ascii_digit.ensures.value ∙ c.if-not-is_ascii_digit.false in
    record { number = i.number * 10 + (get_or rest 0 0 - 48); clamped = omega (arith, i.clamped, c.saturating_add-value.ensures, c.from.ensures, c.saturating_mul.ensures); digits = digits_step rest i.number _ c.in-len1-up.len_at_least is i.digits; all = all_step rest _ c.in-len1-up.len_at_least is i.all }
