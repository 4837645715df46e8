use Rattle.std.proofs.Common.{rules, arith, ap, ◌∙◌, sym, ◌++◌}
use Rattle.rel_print.proofs.Escaping.{cut_at, lacks_at, quotes_step, quotes-whole}
use Rattle.rel_print.proofs.escape.push_quotes_escaped.Goals as goal

pub loop-front-preserved : goal.loop-front-preserved
loop-front-preserved c =
    (search rules, quotes_step c.loop-front.out c.loop-front.rest.now c.in-Some.front.now c.in-Some.back.now c.push.new.self c.push-in-Some.new.self _ (cut_at 34 c.loop-front.rest.now c.split_once.result (c.in-Some.front, c.in-Some.back) (omega arith) c.split_once.ensures.cases c.in-Some.is) c.in_ok-push.ensures.ok c.in_ok-push-2.ensures.ok c.loop-front.invariant.1)

pub returns : goal.returns
returns c = c.in_ok-push-3.ensures.ok ∙ ap (λ l. c.loop-front.out ++ l) (sym (quotes-whole c.loop-front.rest.now (lacks_at 34 c.loop-front.rest.now c.split_once.result (omega arith) c.split_once.ensures.cases c.in_default.not-Some))) ∙ c.loop-front.invariant.1
