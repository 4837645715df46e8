use Rattle.std.proofs.Common.{◌∙◌, ap, sym}
use Rattle.fix_site.specs.declared.fixlet.Fixlet.{Fixlet}
use Rattle.agent_attempt.proofs.Rules.{succeeds_lines, succeeds_relevance, succeeds_clause}
use Rattle.agent_attempt.proofs.fixlet_texts.FixletTexts.succeeds.Goals as goal

pub returns-in-Lines : goal.returns-in-Lines
returns-in-Lines g c = succeeds_lines _ c.args.self.now c.self.inside.fixlet _ c.self.view_is c.in-Lines.is

pub returns-in-Relevance : goal.returns-in-Relevance
returns-in-Relevance g c =
    succeeds_relevance _ c.args.self.now c.self.inside.fixlet c.args.relevance.now _ c.ask_all.result c.opposite.result _ c.self.view_is c.in-Relevance.is
    (c.requires ∙ ap (λ (f : Fixlet). f.relevance) (sym c.self.view_is)) c.opposite.ensures c.ask_all.ensures

pub returns-in-Clause : goal.returns-in-Clause
returns-in-Clause g c =
    succeeds_clause _ c.args.self.now c.self.inside.fixlet c.in-Clause.field-0 c.self.inside.success _ _ _ c.self.view_is c.in-Clause.is c.self.invariant.success c.ask_given.ensures
