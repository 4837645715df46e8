use Rattle.rel_eval.specs.Cursors.{cursor_rest}
use Rattle.group_sample.proofs.Bringing.{end_brings, error_brings, value_answered, value_brought, value_short}
use Rattle.group_sample.proofs.drawing.bring.Goals as goal

pub returns-in-Value-clause-brings : goal.returns-in-Value-clause-brings
returns-in-Value-clause-brings g c =
    value_brought _ _ c.args.scene.now.offset c.in-Value.value _ (λ w. cursor_rest w c.args.cursor.now) (λ w. cursor_rest w c.pull.new.self) c.of_value.result (λ w told. c.in-Value.ensures.goes w told) c.of_value.ensures

pub returns-in-Value-clause-short : goal.returns-in-Value-clause-short
returns-in-Value-clause-short g c = value_short c.args.scene.now.offset c.in-Value.value c.of_value.result c.of_value.ensures

pub returns-in-Value-clause-cause : goal.returns-in-Value-clause-cause
returns-in-Value-clause-cause g c = rw (value_answered c.args.scene.now.offset c.in-Value.value c.of_value.result c.of_value.ensures) c.in-Value.ensures.cause

pub returns-in-End-clause-brings : goal.returns-in-End-clause-brings
returns-in-End-clause-brings g c = λ w told. end_brings _ _ c.args.scene.now.offset (cursor_rest w c.args.cursor.now) (cursor_rest w c.pull.new.self) (c.in-End.ensures.goes w told)

pub returns-in-Error-clause-brings : goal.returns-in-Error-clause-brings
returns-in-Error-clause-brings g c = λ w told. error_brings _ _ c.args.scene.now.offset _ _ (cursor_rest w c.args.cursor.now) (cursor_rest w c.pull.new.self) (c.in-Error.ensures.goes w told)
