use Rattle.std.proofs.Common.{arith, ◌+◌, ◌∙◌, ap, sym, drop}
use Rattle.std.proofs.lemmas.Result.{err_from_is_err_and}
use Rattle.rel_types.specs.Tables.{shown_casted}
use Rattle.rel_types.specs.Typing.{typed_casts}
use Rattle.rel_types.proofs.Lists.{casts_go, casts_fail, next_of}
use Rattle.rel_types.proofs.casts.casts.Goals as goal

pub loop-cast-preserved : goal.loop-cast-preserved
loop-cast-preserved c = casts_go (shown_casted c.loop-cast.done) (shown_casted c.in_ok-done.done) c.cast-item.result (drop (c.loop-cast.cast-index + 1) c.as_slice-cast-items.result.now) _ (ap (typed_casts (shown_casted c.loop-cast.done)) (sym (next_of c.as_slice-cast-items.result.now c.loop-cast.cast-index c.cast-item.result (omega arith) c.cast-item.is)) ∙ c.loop-cast.invariant) c.in_ok-done.ensures

pub returns-in_err-done : goal.returns-in_err-done
returns-in_err-done c = let p = err_from_is_err_and c.from_residual.result c.from_residual.ensures.1 in rw (p.1, p.2) (casts_fail (shown_casted c.loop-cast.done) c.cast-item.result (drop (c.loop-cast.cast-index + 1) c.as_slice-cast-items.result.now) _ _ (ap (typed_casts (shown_casted c.loop-cast.done)) (sym (next_of c.as_slice-cast-items.result.now c.loop-cast.cast-index c.cast-item.result (omega arith) c.cast-item.is)) ∙ c.loop-cast.invariant) c.in_err-done.ensures)
