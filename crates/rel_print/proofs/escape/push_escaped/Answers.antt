use Rattle.std.proofs.Common.{rules, arith, ap, ◌∙◌, sym, ◌++◌}
use Rattle.rel_print.proofs.Escaping.{cut_at, lacks_at, escaped_step, escaped-whole}
use Rattle.rel_print.proofs.escape.push_escaped.Goals as goal

pub loop-front-preserved : goal.loop-front-preserved
loop-front-preserved c =
    (search rules, escaped_step c.loop-front.out c.loop-front.rest.now c.in-Some.front.now c.in-Some.back.now c.push_quotes_escaped.new.out c.push.new.self c.percent.result.now _ (cut_at 37 c.loop-front.rest.now c.split_once.result (c.in-Some.front, c.in-Some.back) (omega arith) c.split_once.ensures.cases c.in-Some.is) c.in_ok-push_quotes_escaped.ensures c.in_ok-push.ensures.ok c.percent.ensures c.loop-front.invariant.1)

pub returns : goal.returns
returns c = c.in_ok-push_quotes_escaped-2.ensures ∙ ap (λ l. c.loop-front.out ++ l) (sym (escaped-whole c.loop-front.rest.now (lacks_at 37 c.loop-front.rest.now c.split_once.result (omega arith) c.split_once.ensures.cases c.in_default.not-Some))) ∙ c.loop-front.invariant.1
