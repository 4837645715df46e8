use Rattle.rel_nodes.specs.Nodes.{boxed_shape}
use Rattle.rel_nodes.specs.Runs.{run_core}
use Rattle.rel_nodes.proofs.Alikes.{alike_same, alike_trans}
use Rattle.rel_nodes.proofs.runs.Run.by.Goals as goal

pub returns-clause-same : goal.returns-clause-same
returns-clause-same c = alike_trans (run_core c.new.result) (boxed_shape c.in_ok-first.first) (run_core c.args.self) (alike_same (run_core c.new.result) (boxed_shape c.in_ok-first.first) c.new.ensures.first) c.in_ok-first.ensures
