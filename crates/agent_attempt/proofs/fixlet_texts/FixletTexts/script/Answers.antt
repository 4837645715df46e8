use Rattle.std.proofs.Common.{sym, subst}
use Rattle.fix_site.specs.declared.fixlet.Fixlet.{Fixlet}
use Rattle.agent_attempt.specs.ReadTexts.{IsScriptOf}
use Rattle.agent_attempt.specs.Relevance.{HasScript}
use Rattle.agent_attempt.proofs.Asked.{no_script}
use Rattle.agent_attempt.proofs.fixlet_texts.FixletTexts.script.Goals as goal

pub unreachable-requires : goal.unreachable-requires
unreachable-requires c =
    let lines = c.self.inside.fixlet.script in
    no_script c.one_verdict.ensures lines (subst (IsScriptOf lines) c.in-None.is c.self.invariant.script) (subst (λ (f : Fixlet). HasScript f.script) (sym c.self.view_is) c.requires)
