use Rattle.std.proofs.Common.{sym}
use Rattle.agent_attempt.proofs.Rules.{has_script}
use Rattle.agent_attempt.proofs.fixlet_texts.FixletTexts.has_script.Goals as goal

pub returns : goal.returns
returns c = has_script c.one_verdict.ensures c.args.self.now c.self.inside.fixlet c.self.inside.script c.is_some.result c.self.view_is (sym c.is_some.ensures) c.self.invariant.script
