-- Where no look was made, the next event is still the look.
use Rattle.std.proofs.Common.{refl, sym, ap, subst}
use Rattle.rel_sources.specs.declared.event.WalkEvent.{WalkEvent}
use Rattle.rel_sources.specs.Steps as walks
use Rattle.rel_trace.specs.declared.step.Step.TheVariants.{Full, Failed}
use Rattle.rel_nodes.specs.Meaning.{placed}
use Rattle.rel_nodes.proofs.Going.{went_same}
use Rattle.rel_nodes.proofs.walking.placed.Goals as goal

pub returns-in-Full-clause-goes : goal.returns-in-Full-clause-goes
returns-in-Full-clause-goes c = λ l l' t t' h.
    let p = c.args.head in
    let d = subst (λ (e : WalkEvent). walks.Goes l t e l' t') c.in-Full.is h in
    went_same l l' (placed p t) (placed p t') (Full p) d.2 (λ m. ((d.0.0, placed p d.0.1, ap (placed p) d.0.2), ap (placed p) (sym d.1), refl))

pub returns-in-Failed-clause-goes : goal.returns-in-Failed-clause-goes
returns-in-Failed-clause-goes c = λ l l' t t' h.
    let p = c.args.head in
    let d = subst (λ (e : WalkEvent). walks.Goes l t e l' t') c.in-Failed.is h in
    went_same l l' (placed p t) (placed p t') (Failed p) d.2 (λ m. ((d.0.0, placed p d.0.1, ap (placed p) d.0.2), ap (placed p) (sym d.1), refl))
