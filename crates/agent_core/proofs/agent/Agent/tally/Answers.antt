use Rattle.std.proofs.Common.{◌≡◌, Some, None, ap, sym, subst, ◌∙◌}
use Rattle.std.specs.declared.option.Option.{Option}
use Rattle.std.specs.Prelude.{option_copied}
use Rattle.act_rules.specs.declared.tally.Tally.{Tally}
use Rattle.agent_attempt.specs.ActionContents.{actions_of}
use Rattle.agent_core.specs.declared.kept_state.KeptState.{KeptState}
use Rattle.agent_state.specs.declared.tallies.ActionTally.{ActionTally}
use Rattle.agent_core.specs.Agents.{AgentState, shown_state}
use Rattle.agent_state.specs.Changes.{AnswersTally}
use Rattle.agent_core.specs.Inside.{state_of}
use Rattle.agent_state.proofs.TallyLists.{answers_rows}
use Rattle.agent_core.proofs.agent.Agent.tally.Goals as goal
use denote.Ref.{Bor}

pub returns : goal.returns
returns c =
    let a : KeptState = c.self.inside.kept in
    let t : ActionTally = c.in_ok-get.field-0.now in
    subst (λ (s : AgentState). AnswersTally (shown_state s) c.args.action (Some t.tally)) c.self.view_is
    (answers_rows (state_of a) c.args.action a.tallies (actions_of a.sites) (Some t) c.self.invariant.tallies c.in_ok-get.ensures)

pub returns-in_err-get : goal.returns-in_err-get
returns-in_err-get c =
    let a : KeptState = c.self.inside.kept in
    let none : option_copied c.get.result ≡ None = ap option_copied c.in_err-get.was in
    subst (λ (s : AgentState). AnswersTally (shown_state s) c.args.action (option_copied c.from_residual.result)) c.self.view_is
    (subst (λ (o : Option (Bor Tally)). AnswersTally (state_of a) c.args.action (option_copied o)) (sym c.from_residual.ensures)
    (answers_rows (state_of a) c.args.action a.tallies (actions_of a.sites) None c.self.invariant.tallies (sym none ∙ c.get.ensures)))
