use Rattle.std.proofs.Common.{subst}
use Rattle.agent_core.specs.Agents.{AgentState, shown_state}
use Rattle.agent_core.specs.Inside.{state_of}
use Rattle.agent_state.specs.Changes.{GathersSite}
use Rattle.agent_core.proofs.OverCalls.{gathered_lawful, gathered_rules}
use Rattle.agent_core.proofs.agent.Agent.gather.Goals as goal

pub returns-clause-rules : goal.returns-clause-rules
returns-clause-rules c = λ table its theirs.
    let gathers = subst (λ (a : AgentState). GathersSite (shown_state a) c.args.site.now c.gather.result (state_of c.gather.new.self)) c.self.view_is c.gather.ensures.gathers in
    gathered_rules table c.args.site.now c.gather.result (shown_state c.args.self.now) (state_of c.gather.new.self) its theirs gathers

pub returns-clause-lawful : goal.returns-clause-lawful
returns-clause-lawful c = λ table told lawful.
    let gathers = subst (λ (a : AgentState). GathersSite (shown_state a) c.args.site.now c.gather.result (state_of c.gather.new.self)) c.self.view_is c.gather.ensures.gathers in
    gathered_lawful table c.args.site.now c.gather.result (shown_state c.args.self.now) (state_of c.gather.new.self) told gathers lawful
