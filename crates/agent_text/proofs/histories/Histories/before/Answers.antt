use Rattle.agent_text.proofs.histories.Histories.before.Goals as goal

pub invariant_of-result : goal.invariant_of-result
invariant_of-result c = (c.in_ok-copied.ensures.good, c.in_ok-copied.ensures.kept)
