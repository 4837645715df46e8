use Rattle.std.proofs.Common.{false}
use Rattle.std.proofs.lemmas.Result.{err_from_is_err_and}
use Rattle.rel_grammar.proofs.Naming.{casts_begin, casts_more, casts_last, casts_fail}
use Rattle.rel_grammar.proofs.words.read_casts.Goals as goal

pub loop-list-init : goal.loop-list-init
loop-list-init c = λ x. casts_begin x _ _ _ c.new-list.result (c.in-Some.ensures false) c.new-list.ensures

pub returns-in_err-cast : goal.returns-in_err-cast
returns-in_err-cast c = let p = err_from_is_err_and c.from_residual.result c.from_residual.ensures.1 in rw (p.1, p.2) (λ x. casts_fail x c.args.end _ c.loop-list.list _ _ (c.loop-list.invariant x) c.in_err-cast.ensures)

pub loop-list-preserved : goal.loop-list-preserved
loop-list-preserved c = λ x. casts_more x _ c.loop-list.list c.push.new.self _ _ _ _ _ (c.loop-list.invariant x) c.in_ok-cast.ensures (c.in-Some-after.ensures false) c.in_ok-push.ensures

pub returns-in-None : goal.returns-in-None
returns-in-None c = λ x. casts_last x _ c.loop-list.list c.push.new.self _ _ _ (c.loop-list.invariant x) c.in_ok-cast.ensures (c.in-None.ensures false) c.in_ok-push.ensures
