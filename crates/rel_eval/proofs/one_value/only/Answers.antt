use Rattle.std.proofs.Common.{Some}
use Rattle.rel_value.specs.Views.{shown}
use Rattle.rel_eval.specs.Cursors.{cursor_rest}
use Rattle.rel_eval.proofs.Singles.{ones_only, ones_second, ones_error, ones_failed, ones_memory, ones_closed}
use Rattle.rel_eval.proofs.one_value.only.Goals as goal

pub returns-in-Value-clause-goes : goal.returns-in-Value-clause-goes
returns-in-Value-clause-goes g c = λ w h. ones_second _ _ _ _ _ _ _ (c.in-Value.ensures.goes w h)

pub returns-in-End-clause-goes : goal.returns-in-End-clause-goes
returns-in-End-clause-goes g c = λ w h. ones_only _ _ _ _ _ _ (c.in-End.ensures.goes w h)

pub returns-in-Error-clause-goes : goal.returns-in-Error-clause-goes
returns-in-Error-clause-goes g c = λ w h. ones_error _ _ _ _ _ _ _ _ (c.in-Error.ensures.goes w h)

pub returns-in-Failed-clause-goes : goal.returns-in-Failed-clause-goes
returns-in-Failed-clause-goes g c = λ w h. ones_failed _ _ _ _ _ _ _ (c.in-Failed.ensures.goes w h)

pub returns-in-Memory-clause-goes : goal.returns-in-Memory-clause-goes
returns-in-Memory-clause-goes g c = λ w h. ones_memory _ _ _ _ _ (cursor_rest w c.pull.new.self) (c.in-Memory.ensures.goes w h)

pub returns-in-Closed-clause-goes : goal.returns-in-Closed-clause-goes
returns-in-Closed-clause-goes g c = λ w h. ones_closed _ _ c.args.span (Some (shown c.args.value)) (cursor_rest w c.args.cursor.now) (cursor_rest w c.pull.new.self) (c.in-Closed.ensures.goes w h)
