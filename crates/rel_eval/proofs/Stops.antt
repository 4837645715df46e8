-- Where a node stopped at a look that failed.
use Rattle.std.proofs.Common.{ℕ, zero, suc, ◌≡◌, ◌<◌, List, [], arith, ap, true}
use Rattle.std.proofs.lemmas.Bool.{ltb-true}
use Rattle.bf_world.specs.declared.key.Key.{Key}
use Rattle.rel_lexer.specs.declared.place.Place.{Place}
use Rattle.rel_trace.specs.declared.step.Step.TheVariants as step
use Rattle.rel_trace.specs.Steps.{Goes, LooksAt}
use Rattle.rel_trace.specs.Trace.{Trace}
use Rattle.rel_nodes.specs.Steps.{has_room}
use Rattle.rel_eval.specs.declared.cursor.Pulled.TheVariants as pulled
use Rattle.rel_eval.specs.Cuts.{cut}
use Rattle.rel_eval.specs.Stops.{Meets}

looks_within : (n : ℕ) (t : Trace) (p : Place) → 0 < n → LooksAt p t → LooksAt p (cut n t)
looks_within zero t p h l = absurd (omega (arith, h))
looks_within (suc n) t p h l = (l.0, cut n l.1, ap (cut (suc n)) l.2)

-- with room for a look it is still ahead
pub failed_meets : (n : ℕ) (t u : Trace) (looks : List Key) (p : Place) → has_room n ≡ true → Goes [] t (step.Failed p) looks u → (looks ≡ []) × Meets (cut n t) (pulled.Failed p) (cut n u)
failed_meets n t u looks p r h = (h.2, (looks_within n t p (ltb-true 0 n r) h.0, ap (cut n) h.1))
