-- A value leaves a cursor nearer its end.
use Rattle.std.proofs.Common.{ℕ, ◌≡◌, ◌≤◌, ◌+◌, ◌*◌}
use Rattle.rel_trace.specs.declared.step.Step.{Step}
use Rattle.rel_trace.specs.Steps.{Falls}
use Rattle.rel_nodes.specs.declared.node.Node.{Node}
use Rattle.rel_nodes.specs.Measure.{cap, quiet}
use Rattle.rel_nodes.specs.Nodes.{shape}
use Rattle.rel_nodes.proofs.Measures.{step_nearer}
use Rattle.rel_eval.specs.declared.cursor.Pulled.{Pulled}
use Rattle.rel_eval.specs.declared.cursor.Pulled.TheVariants as pulled
use Rattle.rel_eval.specs.Cursors.{Nearer}

-- a cursor whose node keeps its shape
pub weighs : (n n' : Node) (budget budget' : ℕ) (s : Step) (r : Pulled) → shape n' ≡ shape n → budget' ≤ budget → (budget' ≡ budget → Falls s (quiet n) (quiet n')) → ((q q' : ℕ) → Falls s q q' → Nearer r q q') →
    Nearer r (budget * (cap (shape n) + 1) + quiet n) (budget' * (cap (shape n') + 1) + quiet n')
weighs n n' budget budget' s (pulled.Value v) e w f h = step_nearer n n' budget budget' e w (λ same. h (quiet n) (quiet n') (f same))
weighs n n' budget budget' s _ e w f h = tt
