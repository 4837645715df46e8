use Rattle.std.proofs.Common.{ap}
use Rattle.rel_value.specs.Plain.{booleans}
use Rattle.rel_types.specs.Plans.{is_plural, kind_of}
use Rattle.rel_types.specs.Alike.{same_kind}
use Rattle.rel_eval.specs.Questions.{plan_of}
use Rattle.script_run.proofs.Asked.{judges_kind, judges_question}
use Rattle.agent_attempt.proofs.Asked.{asks_question, asks_none}
use Rattle.agent_attempt.proofs.Reading.{read_some, read_none}
use Rattle.agent_attempt.proofs.clause.Clause.ask.Goals as goal

pub returns-in-Some : goal.returns-in-Some
returns-in-Some g c =
    let plan = plan_of c.in-Some.question in
    let e = c.truth.ensures in
    let scene = c.scene.result.now in
    let world = (g.M.Machine.told c.args.machine.now).world in
    asks_question c.args.time.now c.args.self.now plan scene _ _ c.truth.result c.of.result
    (read_some c.self.inside.text c.args.self.now c.self.inside.question c.in-Some.question c.self.view_is c.in-Some.is c.self.invariant) c.scene.ensures
    (judges_question (is_plural plan) world scene plan _ _ _ (λ p. let h = e.plural p in (h.0, ap (λ m. (g.M.Machine.told m).looked) h.1))
    (λ p. judges_kind (same_kind (kind_of plan) booleans) world scene plan _ _ _ (λ s. let h = e.other p s in (h.0, ap (λ m. (g.M.Machine.told m).looked) h.1)) (e.judges p)))
    e.looks e.cause c.of.ensures

pub returns-in-None : goal.returns-in-None
returns-in-None g c =
    asks_none c.args.time.now c.args.self.now _ (read_none c.self.inside.text c.args.self.now c.self.inside.question c.self.view_is c.in-None.is c.self.invariant)
