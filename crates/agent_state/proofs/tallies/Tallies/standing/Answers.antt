use Rattle.std.proofs.Common.{ℕ, subst}
use Rattle.act_rules.specs.Tallies.{StandsFor}
use Rattle.agent_text.specs.Histories.{rows_at}
use Rattle.agent_state.specs.declared.tallies.ActionTally.{ActionTally}
use Rattle.agent_state.proofs.TallyLists.{found_stands}
use Rattle.agent_state.proofs.tallies.Tallies.standing.Goals as goal

pub returns : goal.returns
returns c =
    let hs = c.args.histories.now in
    let kept : ActionTally = c.in-Some.kept.now in
    subst (λ (n : ℕ). StandsFor kept.tally n (rows_at c.args.action hs)) c.if-kept-retries.true (found_stands c.args.action c.args.self.now hs kept c.requires c.in-Some.ensures)
