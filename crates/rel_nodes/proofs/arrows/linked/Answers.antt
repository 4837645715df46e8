use Rattle.std.proofs.lemmas.Result.{IfOk-weaker}
use Rattle.rel_trace.specs.Twos.{bar_kind}
use Rattle.rel_nodes.specs.Core.{Alike, infix_core, two_core}
use Rattle.rel_nodes.specs.Nodes.{boxed_shape}
use Rattle.rel_nodes.specs.Runs.{run_core}
use Rattle.rel_nodes.proofs.Links.{linked_bar}
use Rattle.rel_nodes.proofs.arrows.linked.Goals as goal

pub returns-in-Bar : goal.returns-in-Bar
returns-in-Bar c =
    IfOk-weaker c.with.result (λ r. Alike (run_core r) (two_core bar_kind (run_core c.args.run) (boxed_shape c.args.right))) (λ r. Alike (run_core r) (infix_core c.args.sign c.args.place (run_core c.args.run) (boxed_shape c.args.right)))
    (λ r h. linked_bar c.args.sign c.args.place (run_core r) (run_core c.args.run) (boxed_shape c.args.right) c.in-Bar.is h) c.with.ensures
