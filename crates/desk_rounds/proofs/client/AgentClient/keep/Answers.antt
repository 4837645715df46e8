use Rattle.agent_core.specs.Agents.{shown_state}
use Rattle.desk_rounds.proofs.Agents.{held_gathered}
use Rattle.desk_rounds.proofs.client.AgentClient.keep.Goals as goal

pub returns-clause-fixed : goal.returns-clause-fixed
returns-clause-fixed c =
    held_gathered (shown_state c.args.self.now) (shown_state c.gather-answer.new.self) c.args.site.now c.gather-answer.result c.gather-answer.ensures.gathers
