use Rattle.fix_site.proofs.RuleFields.{seven_text, wrong_day}
use Rattle.std.proofs.Common.{◌≡◌, length, refl, arith}
use Rattle.fix_site.proofs.rule_reader.read_days.Goals as goal

pub returns-in_err-read_day : goal.returns-in_err-read_day
returns-in_err-read_day c = wrong_day c.args.text.now 0 c.from_residual.result (omega arith) c.from_residual.ensures c.in_err-read_day.ensures

pub returns-in_err-read_day-2 : goal.returns-in_err-read_day-2
returns-in_err-read_day-2 c = wrong_day c.args.text.now 1 c.from_residual-in_err-read_day-2.result (omega arith) c.from_residual-in_err-read_day-2.ensures c.in_err-read_day-2.ensures

pub returns-in_err-read_day-3 : goal.returns-in_err-read_day-3
returns-in_err-read_day-3 c = wrong_day c.args.text.now 2 c.from_residual-in_err-read_day-3.result (omega arith) c.from_residual-in_err-read_day-3.ensures c.in_err-read_day-3.ensures

pub returns-in_err-read_day-4 : goal.returns-in_err-read_day-4
returns-in_err-read_day-4 c = wrong_day c.args.text.now 3 c.from_residual-in_err-read_day-4.result (omega arith) c.from_residual-in_err-read_day-4.ensures c.in_err-read_day-4.ensures

pub returns-in_err-read_day-5 : goal.returns-in_err-read_day-5
returns-in_err-read_day-5 c = wrong_day c.args.text.now 4 c.from_residual-in_err-read_day-5.result (omega arith) c.from_residual-in_err-read_day-5.ensures c.in_err-read_day-5.ensures

pub returns-in_err-read_day-6 : goal.returns-in_err-read_day-6
returns-in_err-read_day-6 c = wrong_day c.args.text.now 5 c.from_residual-in_err-read_day-6.result (omega arith) c.from_residual-in_err-read_day-6.ensures c.in_err-read_day-6.ensures

pub returns-in_err-read_day-7 : goal.returns-in_err-read_day-7
returns-in_err-read_day-7 c = wrong_day c.args.text.now 6 c.from_residual-in_err-read_day-7.result (omega arith) c.from_residual-in_err-read_day-7.ensures c.in_err-read_day-7.ensures

pub returns : goal.returns
returns c =
    let seven : length c.args.text.now ≡ 7 = omega arith in (
      refl,
      seven_text c.args.text.now c.in_ok-read_day.field-0 c.in_ok-read_day-2.field-0 c.in_ok-read_day-3.field-0 c.in_ok-read_day-4.field-0 c.in_ok-read_day-5.field-0 c.in_ok-read_day-6.field-0 c.in_ok-read_day-7.field-0
          seven c.in_ok-read_day.ensures c.in_ok-read_day-2.ensures c.in_ok-read_day-3.ensures c.in_ok-read_day-4.ensures c.in_ok-read_day-5.ensures c.in_ok-read_day-6.ensures c.in_ok-read_day-7.ensures,
    )
