use Rattle.std.proofs.Common.{◌∙◌}
use Rattle.agent_attempt.proofs.Rules.{relevant_refused, relevant_asked}
use Rattle.agent_attempt.proofs.read_fixlet.ReadFixlet.is_relevant.Goals as goal

pub returns-then-not-self : goal.returns-then-not-self
returns-then-not-self g c = relevant_refused _ c.args.self.now c.self.inside.texts.value c.self.inside.has_script _ c.self.view_is c.if-not-self.true c.self.invariant.script

pub returns : goal.returns
returns g c =
    relevant_asked _ c.args.self.now c.self.inside.texts.value c.self.inside.has_script c.as_slice.result.now _ _ _ c.self.view_is c.if-not-self.false c.self.invariant.script (c.as_slice.ensures ∙ c.self.invariant.relevance)
    c.ask_all.ensures
