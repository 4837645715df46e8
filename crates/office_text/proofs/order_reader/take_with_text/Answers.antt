use Rattle.std.proofs.Common.{refl}
use Rattle.std.specs.Prelude.{codes}
use Rattle.office_text.specs.declared.order.Order.TheVariants as order
use Rattle.office_text.proofs.OrderReading.{act_read, file_read, handed, no_text, not_ahead, publish_read, still, word_taken}
use Rattle.office_text.proofs.ShortLemmas.{mapped}
use Rattle.office_text.proofs.order_reader.take_with_text.Goals as goal

pub returns-then-take_exactly : goal.returns-then-take_exactly
returns-then-take_exactly c before =
    let one = word_taken (codes "publish") c.args.lines.now c.args.lines.now c.take_exactly.new.self c.take_exactly.result refl c.if-take_exactly.true c.take_exactly.ensures in
    publish_read before c.args.lines.now c.take_exactly.new.self c.take_text.new.lines c.in_ok-take_text.field-0 c.whole.result one c.in_ok-take_text.ensures
    (handed order.Publish c.take_text.new.lines.number c.in_ok-take_text.field-0 c.map.result c.whole.result (mapped order.Publish c.in_ok-take_text.field-0 c.map.result c.map.ensures.cases) c.whole.ensures)

pub returns-then-take_exactly-2 : goal.returns-then-take_exactly-2
returns-then-take_exactly-2 c before =
    let still_one = still (codes "publish") c.args.lines.now c.args.lines.now c.take_exactly.new.self c.take_exactly.result refl c.if-take_exactly.false c.take_exactly.ensures in
    let one = word_taken (codes "act") c.args.lines.now c.take_exactly.new.self c.take_exactly-2.new.self c.take_exactly-2.result still_one c.if-take_exactly-2.true c.take_exactly-2.ensures in
    act_read before c.args.lines.now c.take_exactly-2.new.self c.take_text-then-take_exactly-2.new.lines c.in_ok-take_text-2.field-0 c.whole-then-take_exactly-2.result one c.in_ok-take_text-2.ensures
    (handed order.Act c.take_text-then-take_exactly-2.new.lines.number c.in_ok-take_text-2.field-0 c.map-then-take_exactly-2.result c.whole-then-take_exactly-2.result
    (mapped order.Act c.in_ok-take_text-2.field-0 c.map-then-take_exactly-2.result c.map-then-take_exactly-2.ensures.cases) c.whole-then-take_exactly-2.ensures)

pub returns-then-take_exactly-3 : goal.returns-then-take_exactly-3
returns-then-take_exactly-3 c before =
    let still_one = still (codes "publish") c.args.lines.now c.args.lines.now c.take_exactly.new.self c.take_exactly.result refl c.if-take_exactly.false c.take_exactly.ensures in
    let still_two = still (codes "act") c.args.lines.now c.take_exactly.new.self c.take_exactly-2.new.self c.take_exactly-2.result still_one c.if-take_exactly-2.false c.take_exactly-2.ensures in
    let one = word_taken (codes "file") c.args.lines.now c.take_exactly-2.new.self c.take_exactly-3.new.self c.take_exactly-3.result still_two c.if-take_exactly-3.true c.take_exactly-3.ensures in
    file_read before c.args.lines.now c.take_exactly-3.new.self c.take_content.new.lines c.in_ok-take_content.field-0 c.whole-then-take_exactly-3.result one c.in_ok-take_content.ensures
    (handed order.File c.take_content.new.lines.number c.in_ok-take_content.field-0 c.map-then-take_exactly-3.result c.whole-then-take_exactly-3.result
    (mapped order.File c.in_ok-take_content.field-0 c.map-then-take_exactly-3.result c.map-then-take_exactly-3.ensures.cases) c.whole-then-take_exactly-3.ensures)

pub returns : goal.returns
returns c before =
    let still_one = still (codes "publish") c.args.lines.now c.args.lines.now c.take_exactly.new.self c.take_exactly.result refl c.if-take_exactly.false c.take_exactly.ensures in
    let still_two = still (codes "act") c.args.lines.now c.take_exactly.new.self c.take_exactly-2.new.self c.take_exactly-2.result still_one c.if-take_exactly-2.false c.take_exactly-2.ensures in
    let still_three = still (codes "file") c.args.lines.now c.take_exactly-2.new.self c.take_exactly-3.new.self c.take_exactly-3.result still_two c.if-take_exactly-3.false c.take_exactly-3.ensures in
    let no_publish = not_ahead (codes "publish") c.args.lines.now c.args.lines.now c.take_exactly.new.self c.take_exactly.result refl c.if-take_exactly.false c.take_exactly.ensures in
    let no_act = not_ahead (codes "act") c.args.lines.now c.take_exactly.new.self c.take_exactly-2.new.self c.take_exactly-2.result still_one c.if-take_exactly-2.false c.take_exactly-2.ensures in
    let no_file = not_ahead (codes "file") c.args.lines.now c.take_exactly-2.new.self c.take_exactly-3.new.self c.take_exactly-3.result still_two c.if-take_exactly-3.false c.take_exactly-3.ensures in
    (still_three, no_text before c.args.lines.now no_publish no_act no_file)
