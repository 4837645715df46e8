use Rattle.std.proofs.Common.{ap, subst}
use Rattle.std.specs.Prelude.{IsSomeAnd}
use Rattle.fix_site.specs.declared.action.Action.{Action}
use Rattle.agent_text.specs.Histories.{rows_at}
use Rattle.agent_attempt.specs.ReadBlocks.{shown_block}
use Rattle.agent_attempt.specs.ActionContents.{as_action}
use Rattle.agent_attempt.specs.Relevance.{MayBegin}
use Rattle.agent_core.specs.Inside.{state_of}
use Rattle.agent_core.proofs.Searching.{finds_block}
use Rattle.agent_core.proofs.kept_state.KeptState.try_block.Goals as goal

pub try_one-requires : goal.try_one-requires
try_one-requires g c =
    subst (λ o. IsSomeAnd o (λ (a : Action). MayBegin c.args.time.now a (rows_at a.id c.args.marked.now))) (ap (λ b. as_action (shown_block b)) c.in-Action.is) c.requires

pub returns-in-Action : goal.returns-in-Action
returns-in-Action g c =
    finds_block c.args.time.now (state_of c.args.self.now) c.args.block.now c.in-Action.action c.args.marked.now _ _ _ (ap (λ b. as_action (shown_block b)) c.in-Action.is) c.try_one.ensures
