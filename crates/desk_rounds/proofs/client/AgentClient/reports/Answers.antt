use Rattle.std.proofs.Common.{All, sym, subst}
use Rattle.report_text.specs.Reports.{IsReport}
use Rattle.agent_core.specs.Agents.{shown_state}
use Rattle.desk_rounds.proofs.Agents.{shown_good}
use Rattle.desk_rounds.proofs.client.AgentClient.reports.Goals as goal

pub returns-clause-good : goal.returns-clause-good
returns-clause-good c = subst (All IsReport) (sym c.outbox.ensures) (shown_good (shown_state c.args.self.now) c.requires)
