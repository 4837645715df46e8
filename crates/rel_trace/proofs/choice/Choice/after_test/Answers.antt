-- The branch that is chosen begins with less than the test had left.
use Rattle.std.proofs.Common.{ℕ, sym, subst}
use Rattle.rel_trace.specs.declared.step.Next.{Next}
use Rattle.rel_trace.specs.declared.choice.Choice.TheVariants.{Yes, No}
use Rattle.rel_trace.specs.Choices.{choice_quiet}
use Rattle.rel_trace.specs.Twos.{begun_quiet}
use Rattle.rel_trace.specs.Steps.{Falls}
use Rattle.rel_trace.proofs.Measures.{yes-falls, no-falls}
use Rattle.rel_trace.proofs.choice.Choice.after_test.Goals as goal

pub returns-then-is_yes-clause-falls : goal.returns-then-is_yes-clause-falls
returns-then-is_yes-clause-falls c =
    subst (λ (x : Next). (q q' r w n m : ℕ) → Falls c.args.step q q' → Falls x.step (choice_quiet c.args.self.now q r w n m) (choice_quiet Yes q' (begun_quiet x.begins r n) (begun_quiet x.begins w m) n m)) (sym c.beginning.ensures)
    (λ q q' r w n m h. yes-falls c.args.self.now c.in-Given.value c.args.step q q' r w n m c.requires c.in-Given.is h)

pub returns-else-is_yes-clause-falls : goal.returns-else-is_yes-clause-falls
returns-else-is_yes-clause-falls c =
    subst (λ (x : Next). (q q' r w n m : ℕ) → Falls c.args.step q q' → Falls x.step (choice_quiet c.args.self.now q r w n m) (choice_quiet No q' (begun_quiet x.begins r n) (begun_quiet x.begins w m) n m)) (sym c.beginning-else-is_yes.ensures)
    (λ q q' r w n m h. no-falls c.args.self.now c.in-Given.value c.args.step q q' r w n m c.requires c.in-Given.is h)
