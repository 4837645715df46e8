-- How stretches in which nothing but looks was done follow one another. Other crates may cite these lemmas.
use Rattle.std.proofs.Common.{refl, ◌∙◌, arith}
use Rattle.bf_machine.specs.Views.{MachineView, OnlyLooks}

pub OnlyLooks-refl : (a : MachineView) → OnlyLooks a a
OnlyLooks-refl a = record { world = refl; acted = refl; polled = refl; started = refl; later = omega arith; holds = refl }

pub OnlyLooks-trans : {a b c : MachineView} → OnlyLooks a b → OnlyLooks b c → OnlyLooks a c
OnlyLooks-trans p q = record {
  world = q.world ∙ p.world;
  acted = q.acted ∙ p.acted;
  polled = q.polled ∙ p.polled;
  started = q.started ∙ p.started;
  later = omega (arith, p.later, q.later);
  holds = q.holds ∙ p.holds;
}
