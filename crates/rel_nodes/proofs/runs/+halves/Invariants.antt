use Rattle.rel_nodes.proofs.runs.+halves.Given as goal

abbrev pub decreases-halves : goal.decreases-halves
decreases-halves l = l.count
