-- What was used up and handed over so far, and what the cursor has left.
use Rattle.std.proofs.Common.{◌≡◌, List}
use Rattle.std.specs.declared.option.Option.TheVariants.{Some}
use Rattle.bf_machine.specs.Views.{OnlyLooks}
use Rattle.bf_world.specs.Worlds.{WorldState}
use Rattle.rel_value.specs.Plain.{Plain}
use Rattle.rel_eval.specs.Answers.{Took}
use Rattle.rel_eval.specs.Cursors.{cursor_rest, weight}
use Rattle.rel_eval.specs.Cuts.{meaning}
use Rattle.rel_eval.specs.Questions.{plan_of}
use Rattle.rel_eval.proofs.Uses.{SoFar}
use Rattle.rel_eval.proofs.question.Question.answer.Given as goal

abbrev pub invariant-loop-value : goal.invariant-loop-value
invariant-loop-value g l =
    let old = g.M.Machine.told l.fn.machine in
    let now = g.M.Machine.told l.machine in
    record {
      used : (w : WorldState) → old.world ≡ Some w
          → SoFar g.T.Taker.takes old.looked (meaning w l.fn.scene (plan_of l.fn.self)) l.fn.taker now.looked (cursor_rest w l.cursor) l.taker;
      handed : (vs : List Plain) × Took g.T.Taker.takes l.fn.taker vs l.taker;
      steady : now.faults ≡ old.faults;
      looks : OnlyLooks old now;
    }

abbrev pub decreases-loop-value : goal.decreases-loop-value
decreases-loop-value g l = weight l.cursor
