-- Devices that tell go on telling over a turn in which the machine doesn't fail and that ends by neither a pocket's fault nor want of memory.
use Rattle.std.proofs.Common.{◌≡◌, ◌≢◌, ℕ, ◌-◌, ◌^◌, ◌<◌, ◌≤◌, List, IsSome, Option, Some, None, refl, arith}
use Rattle.script_run.specs.Asking.{When}
use Rattle.bf_machine.specs.Views.{MachineView}
use Rattle.agent_text.specs.declared.pocket.SaveResult.{SaveResult}
use Rattle.agent_text.specs.Pockets.{Changes, PocketView, SavedAs, SavesTo}
use Rattle.agent_attempt.specs.declared.found.Found.{Found}
use Rattle.agent_attempt.specs.declared.found.Found.TheVariants as found
use Rattle.agent_attempt.specs.declared.went.Went.{Went}
use Rattle.agent_attempt.specs.declared.went.Went.TheVariants as went
use Rattle.agent_attempt.specs.Attempts.{PlainAttempt}
use Rattle.agent_attempt.specs.Going.{GoesOn}
use Rattle.agent_attempt.specs.Relevance.{Asking, HasAsked}
use Rattle.agent_core.specs.declared.turned.Turned.{Turned}
use Rattle.agent_core.specs.declared.turned.Turned.TheVariants.{Memory, PocketFault}
use Rattle.agent_state.specs.States.{State}
use Rattle.agent_core.specs.Devices.{Devices, NoFaults, TellsWorld}
use Rattle.agent_core.specs.Turns.{Turn}
use Rattle.agent_attempt.proofs.GoingPoints.{going_later}
use Rattle.agent_attempt.proofs.Quiet.{content_quiet, due_quiet}
use Rattle.agent_core.proofs.OneAsking.{Once as FoundOnce, content_once, due_once}
use Rattle.agent_core.proofs.OneGoing.{OneVerdict, going_once}
use Rattle.agent_core.proofs.OneLook.{Calm, OnePlan}
use Rattle.agent_core.proofs.TurnPoints.{Keeps, turn_keeps, with_machine, with_pocket}

-- what changes goes on to be told
changes_told : (P : Option (List ℕ) → Option (List ℕ) → Type 0) (old new : Option (Option (List ℕ))) → IsSome old → Changes old new P → IsSome new
changes_told P None new is h = absurd (cc)
changes_told P (Some before) None is h = absurd h
changes_told P (Some before) (Some now) is h = refl

module _ (plan : OnePlan) (verdict : OneVerdict) (at : When) (faults : ℕ) (low : faults < 2 ^ 64 - 1) where
  -- the machine's count hasn't fallen below this one, and where it stands there the machine tells all; the pocket tells its text
  record Telling (d : Devices) : Type 0 where
    later : faults ≤ d.machine.faults
    calm : d.machine.faults ≡ faults → Calm faults d.machine
    saved : IsSome d.pocket.saved

  abbrev Ends : Turned → Devices → Type 0
  Ends a d = a ≢ PocketFault → a ≢ Memory → Telling d

  asked : (ask : Asking) → FoundOnce plan faults low ask → (f : Found) (d : Devices) (machine : MachineView) → f ≢ found.Memory → Telling d → ask d.machine f machine → HasAsked d.machine f machine
      → Telling (with_machine machine d)
  asked ask once f d machine ample t is quiet =
      let below = t.later in
      let more = quiet.only.later in
      record {
        later = omega (arith, below, more);
        calm = λ e. (once d.machine f f machine machine (t.calm (omega (arith, below, more, e))) is is e e ample ample).1.1;
        saved = t.saved;
      }

  went_on : (attempt : PlainAttempt) (w : Went) (d : Devices) (machine : MachineView) (after : Option PlainAttempt) → w ≢ went.Memory → Telling d → GoesOn at attempt d.machine w machine after
      → Telling (with_machine machine d)
  went_on attempt w d machine after ample t goes =
      let below = t.later in
      let more = (going_later at attempt d.machine w machine after goes).faults in
      record {
        later = omega (arith, below, more);
        calm = λ e. (going_once plan verdict faults low at attempt d.machine w w machine machine after after (t.calm (omega (arith, below, more, e))) goes goes e e ample ample).1.1;
        saved = t.saved;
      }

  saves : (text : List ℕ) (result : SaveResult) (d : Devices) (pocket : PocketView) → Telling d → SavesTo text d.pocket result pocket → Telling (with_pocket pocket d)
  saves text result d pocket t h =
      record { later = t.later; calm = t.calm; saved = changes_told (SavedAs text result) d.pocket.saved pocket.saved t.saved h.saves }

  keeps_telling : Keeps at (λ s d. Telling d) (λ marks s d. Telling d) (λ began attempt s d. Telling d) (λ changed would s d. Telling d) (λ a s d. Ends a d)
  keeps_telling = record {
    memory = λ s d t fault memory. absurd (memory refl);
    broken_done = λ s d id pocket t broken h. saves _ _ d pocket t h;
    broken_failed = λ s d id pocket t broken h fault memory. absurd (fault refl);
    broken_memory = λ s d id pocket t broken h fault memory. absurd (memory refl);
    resumes = λ s d attempt t none held. t;
    held = λ began attempt s d component line machine after t goes. went_on attempt _ d machine after (λ e. absurd (cc)) t goes;
    wants = λ began attempt s d digest machine after t goes. went_on attempt _ d machine after (λ e. absurd (cc)) t goes;
    ends = λ began attempt s d fail note machine after t goes. went_on attempt _ d machine after (λ e. absurd (cc)) t goes;
    lacks = λ began attempt s d machine after t goes fault memory. absurd (memory refl);
    tries = λ s d t none held. t;
    tested = λ marks s d action machine t may is. asked _ (content_once plan faults low at _) _ d machine (λ e. absurd (cc)) t is (content_quiet at _ d.machine _ machine is);
    marked = λ marks s d action machine t may is. asked _ (content_once plan faults low at _) _ d machine (λ e. absurd (cc)) t is (content_quiet at _ d.machine _ machine is);
    test_failed = λ marks s d action machine t is fault memory. asked _ (content_once plan faults low at _) _ d machine (λ e. absurd (cc)) t is (content_quiet at _ d.machine _ machine is);
    test_memory = λ marks s d action machine t is fault memory. absurd (memory refl);
    passed = λ marks s d action machine t is. asked _ (due_once plan faults low at _ action _ _) _ d machine (λ e. absurd (cc)) t is (due_quiet at _ action _ _ d.machine _ machine is);
    try_failed = λ marks s d action machine t is fault memory. asked _ (due_once plan faults low at _ action _ _) _ d machine (λ e. absurd (cc)) t is (due_quiet at _ action _ _ d.machine _ machine is);
    try_memory = λ marks s d action machine t is fault memory. absurd (memory refl);
    begun_done = λ marks s d action content machine pocket t due there among h.
        saves _ _ (with_machine machine d) pocket (asked _ (due_once plan faults low at _ action _ _) _ d machine (λ e. absurd (cc)) t due (due_quiet at _ action _ _ d.machine _ machine due)) h;
    begun_failed = λ marks s d action machine pocket t due among h fault memory. absurd (fault refl);
    begun_memory = λ marks s d action machine pocket t due h fault memory. absurd (memory refl);
    no_memory = λ marks s d t fault memory. absurd (memory refl);
    idle = λ marks s d t. t;
    reported_done = λ changed would s d pocket t can h fault memory. saves _ _ d pocket t h;
    reported_failed = λ changed would s d pocket t can h fault memory. absurd (fault refl);
    reported_memory = λ changed would s d pocket t can h fault memory. absurd (memory refl);
    changed_done = λ would s d pocket t h fault memory. saves _ _ d pocket t h;
    changed_failed = λ would s d pocket t h fault memory. absurd (fault refl);
    changed_memory = λ would s d pocket t h fault memory. absurd (memory refl);
    unchanged = λ would s d t fault memory. t;
  }

pub turn_tells : OnePlan → OneVerdict → (at : When) (s : State) (d : Devices) (answer : Turned) (s2 : State) (d2 : Devices) → TellsWorld d → Turn at s d answer s2 d2 → NoFaults d d2 → answer ≢ PocketFault → answer ≢ Memory
    → TellsWorld d2
turn_tells plan verdict at s d answer s2 d2 tells turn none fault memory =
    let start : Telling plan verdict at d.machine.faults none.machine_counts d = record {
      later = omega arith;
      calm = λ e. record { world = tells.world; looked = tells.looked; acted = tells.acted; polled = tells.polled; count = refl };
      saved = tells.saved;
    } in
    let ended : Telling plan verdict at d.machine.faults none.machine_counts d2 =
    turn_keeps at _ _ _ _ _ (keeps_telling plan verdict at d.machine.faults none.machine_counts) answer s2 d2 s d (λ e. start) (λ pocket h. saves plan verdict at d.machine.faults none.machine_counts _ _ d pocket start h)
    (λ pocket h fault memory. absurd (fault refl)) (λ pocket h fault memory. absurd (memory refl)) turn fault memory in
    let calm = ended.calm none.machine in
    record { world = calm.world; looked = calm.looked; acted = calm.acted; polled = calm.polled; saved = ended.saved }
