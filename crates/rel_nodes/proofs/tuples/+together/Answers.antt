use Rattle.std.proofs.Common.{length, ap, ◌∙◌, arith, length-drop, rules}
use Rattle.std.proofs.lemmas.Result.{IfOk-weaker}
use Rattle.std.specs.Vec.Iter.{into_iter_items}
use Rattle.rel_nodes.specs.declared.tuples.Section.{Section}
use Rattle.rel_nodes.proofs.TupleParts.{halves_joined, halves_left, leftless_drop, part_alone, part_left}
use Rattle.rel_nodes.proofs.tuples.+together.Goals as goal

pub returns-then-count-eq1-clause-whole : goal.returns-then-count-eq1-clause-whole
returns-then-count-eq1-clause-whole t c = part_alone c.in-Some.part (into_iter_items c.args.parts.now) (into_iter_items c.next.new.self) c.args.count c.if-count-eq1.true c.in-Some.ensures.items

pub returns-then-count-eq1-clause-rest : goal.returns-then-count-eq1-clause-rest
returns-then-count-eq1-clause-rest t c = part_left c.in-Some.part (into_iter_items c.args.parts.now) (into_iter_items c.next.new.self) c.args.count c.if-count-eq1.true c.in-Some.ensures.items

pub together-requires-2 : goal.together-requires-2
together-requires-2 t c =
    let less = ap (length {A = Section}) c.in_ok-first.ensures.rest ∙ length-drop _ (into_iter_items c.args.parts.now) in
    (search rules, (omega arith, (omega (arith, less), leftless_drop _ (into_iter_items c.args.parts.now) (into_iter_items c.together.new.parts) c.in_ok-first.ensures.rest c.requires.leftless)))

pub returns-clause-whole : goal.returns-clause-whole
returns-clause-whole t c =
    IfOk-weaker c.joined.result _ _
    (λ whole comma.
    halves_joined c.joining.result whole c.in_ok-first.first c.in_ok-second.second (into_iter_items c.args.parts.now) (into_iter_items c.together.new.parts) c.args.count _ _
    (omega arith) (omega arith) (omega arith) (omega arith) c.in_ok-first.ensures.rest c.requires.leftless c.joining.ensures.pair c.joining.ensures.push c.joining.ensures.append c.in_ok-first.ensures.whole c.in_ok-second.ensures.whole comma)
    c.joined.ensures

pub returns-clause-rest : goal.returns-clause-rest
returns-clause-rest t c =
    IfOk-weaker c.joined.result _ _
    (λ whole comma. halves_left (into_iter_items c.args.parts.now) (into_iter_items c.together.new.parts) (into_iter_items c.together-2.new.parts) c.args.count _ _ (omega arith) c.in_ok-first.ensures.rest c.in_ok-second.ensures.rest)
    c.joined.ensures
