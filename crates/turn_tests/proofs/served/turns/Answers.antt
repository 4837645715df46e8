use Rattle.turn_tests.proofs.served.turns.Goals as goal

pub turn_with_files-turned-requires-clause-waits : goal.turn_with_files-turned-requires-clause-waits
turn_with_files-turned-requires-clause-waits c = c.gather-2.ensures.waits _ (c.gather.ensures.waits _ (c.in_ok-agent.ensures _))
