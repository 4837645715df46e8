use Rattle.rel_nodes.proofs.tuples.+together.Given as goal

abbrev pub decreases-together : goal.decreases-together
decreases-together l = l.count
