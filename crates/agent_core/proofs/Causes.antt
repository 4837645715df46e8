-- A turn that ends by a fault of a device: its count went up, and else it stayed. No program that was started is forgotten.
use Rattle.std.proofs.Common.{ℕ, ◌≡◌, ◌≢◌, ◌≤◌, List, refl, ◌∙◌, arith}
use Rattle.desk_base.specs.Counts.{CountsFaults, Rose}
use Rattle.script_run.specs.Asking.{When}
use Rattle.bf_machine.specs.Views.{IsLater, MachineView}
use Rattle.agent_text.specs.declared.pocket.SaveResult.TheVariants as save
use Rattle.agent_text.specs.Pockets.{PocketView, SavesTo}
use Rattle.agent_attempt.specs.declared.found.Found.{Found}
use Rattle.agent_attempt.specs.declared.found.Found.TheVariants as found
use Rattle.agent_core.specs.declared.turned.Turned.{Turned}
use Rattle.agent_core.specs.declared.turned.Turned.TheVariants.{MachineFault, Memory, PocketFault}
use Rattle.agent_state.specs.States.{State}
use Rattle.agent_core.specs.Devices.{Devices}
use Rattle.agent_core.specs.Stops.{MachineHasCause, TurnHasCause}
use Rattle.agent_core.specs.Turns.{Turn}
use Rattle.agent_attempt.proofs.GoingPoints.{going_later}
use Rattle.agent_attempt.proofs.Lasting.{later_looks, later_refl, later_trans}
use Rattle.agent_attempt.specs.Relevance.{HasAsked}
use Rattle.agent_attempt.proofs.Quiet.{content_quiet, due_quiet}
use Rattle.agent_core.proofs.TurnPoints.{Keeps, turn_keeps, with_machine, with_pocket}

-- nothing has failed
record IsSteady (old new : Devices) : Type 0 where
  later : IsLater old.machine new.machine
  machine : new.machine.faults ≡ old.machine.faults
  pocket : new.pocket.faults ≡ old.pocket.faults

-- an attempt goes on, and the pocket hasn't failed
record Underway (old new : Devices) : Type 0 where
  later : IsLater old.machine new.machine
  pocket : new.pocket.faults ≡ old.pocket.faults

-- what the turn comes to with its last save
record Closes (old : Devices) (would : Turned) (new : Devices) : Type 0 where
  later : IsLater old.machine new.machine
  machine : MachineHasCause old.machine.faults new.machine.faults would
  pocket : new.pocket.faults ≡ old.pocket.faults
  other : would ≢ PocketFault

pub record Came (old : Devices) (answer : Turned) (new : Devices) : Type 0 where
  pub started : old.machine.started ≤ new.machine.started
  pub cause : TurnHasCause old answer new

-- ---- saves
not_done : save.Done ≡ save.Failed → ⊥
not_done e = cc

not_memory : save.Memory ≡ save.Failed → ⊥
not_memory e = cc

-- the pocket's count stays but at a fault
counts_still : (old new : ℕ) (answer : Turned) → answer ≢ PocketFault → new ≡ old → CountsFaults (answer ≡ PocketFault) old new
counts_still old new answer other same = record { rose = λ e. absurd (other e); steady = λ n. same; later = omega (arith, same) }

counts_rose : (old now new : ℕ) → now ≡ old → Rose now new → CountsFaults (PocketFault ≡ PocketFault) old new
counts_rose old now new same rose = record { rose = λ e. omega (arith, same, rose); steady = λ n. absurd (n refl); later = omega (arith, same, rose) }

-- ---- the points of a turn
asked_steady : (old d : Devices) (f : Found) (machine : MachineView) → f ≢ found.Failed → IsSteady old d → HasAsked d.machine f machine → IsSteady old (with_machine machine d)
asked_steady old d f machine isnt is quiet = record {
  later = later_trans old.machine d.machine machine is.later (later_looks d.machine machine quiet.only);
  machine = quiet.counts.steady isnt ∙ is.machine;
  pocket = is.pocket;
}

-- the turn ends here
steady_ends : (old d : Devices) (answer : Turned) → answer ≢ PocketFault → MachineHasCause old.machine.faults d.machine.faults answer → IsSteady old d → Came old answer d
steady_ends old d answer other machine is = record {
  started = is.later.started;
  cause = record { machine = machine; pocket = counts_still old.pocket.faults d.pocket.faults answer other is.pocket };
}

-- a look fails
asked_fails : (old d : Devices) (machine : MachineView) → IsSteady old d → HasAsked d.machine found.Failed machine → Came old MachineFault (with_machine machine d)
asked_fails old d machine is quiet =
    let later = later_trans old.machine d.machine machine is.later (later_looks d.machine machine quiet.only) in
    let rose = quiet.counts.rose refl in
    record {
      started = later.started;
      cause = record { machine = omega (arith, is.machine, rose); pocket = counts_still old.pocket.faults d.pocket.faults MachineFault (λ e. absurd (cc)) is.pocket };
    }

-- memory runs out
asked_lacks : (old d : Devices) (machine : MachineView) → IsSteady old d → HasAsked d.machine found.Memory machine → Came old Memory (with_machine machine d)
asked_lacks old d machine is quiet =
    let still = asked_steady old d found.Memory machine (λ e. absurd (cc)) is quiet in
    steady_ends old (with_machine machine d) Memory (λ e. absurd (cc)) still.later.faults still

-- the last save
comes_done : (old d : Devices) (would : Turned) (text : List ℕ) (pocket : PocketView) → Closes old would d → SavesTo text d.pocket save.Done pocket → Came old would (with_pocket pocket d)
comes_done old d would text pocket c saves = record {
  started = c.later.started;
  cause = record { machine = c.machine; pocket = counts_still old.pocket.faults pocket.faults would c.other (saves.counts.steady not_done ∙ c.pocket) };
}

fault_comes : (old d : Devices) (text : List ℕ) (pocket : PocketView) → Underway old d → SavesTo text d.pocket save.Failed pocket → Came old PocketFault (with_pocket pocket d)
fault_comes old d text pocket g saves = record {
  started = g.later.started;
  cause = record { machine = g.later.faults; pocket = counts_rose old.pocket.faults d.pocket.faults pocket.faults g.pocket (saves.counts.rose refl) };
}

memory_comes : (old d : Devices) (text : List ℕ) (pocket : PocketView) → Underway old d → SavesTo text d.pocket save.Memory pocket → Came old Memory (with_pocket pocket d)
memory_comes old d text pocket g saves = record {
  started = g.later.started;
  cause = record { machine = g.later.faults; pocket = counts_still old.pocket.faults pocket.faults Memory (λ e. absurd (cc)) (saves.counts.steady not_memory ∙ g.pocket) };
}

goes_from : (old d : Devices) → IsSteady old d → Underway old d
goes_from old d is = record { later = is.later; pocket = is.pocket }

come_from : (old d : Devices) (would : Turned) → Closes old would d → Underway old d
come_from old d would c = record { later = c.later; pocket = c.pocket }

-- an attempt went on
went_on : (old d : Devices) (machine : MachineView) → Underway old d → IsLater d.machine machine → Underway old (with_machine machine d)
went_on old d machine g later = record { later = later_trans old.machine d.machine machine g.later later; pocket = g.pocket }

keeps_cause : (at : When) (old : Devices) →
    Keeps at (λ s d. IsSteady old d) (λ marks s d. IsSteady old d) (λ began attempt s d. Underway old d) (λ changed would s d. Closes old would d) (λ a s d. Came old a d)
keeps_cause at old = record {
  memory = λ s d is. steady_ends old d Memory (λ e. absurd (cc)) is.later.faults is;
  broken_done = λ s d id pocket is broken saves. record { later = is.later; machine = is.machine; pocket = saves.counts.steady not_done ∙ is.pocket; other = λ e. absurd (cc) };
  broken_failed = λ s d id pocket is broken saves. fault_comes old d _ pocket (goes_from old d is) saves;
  broken_memory = λ s d id pocket is broken saves. memory_comes old d _ pocket (goes_from old d is) saves;
  resumes = λ s d attempt is none held. goes_from old d is;
  held = λ began attempt s d component line machine after g goes.
      let on = went_on old d machine g (going_later at attempt _ _ _ after goes) in
      record { later = on.later; machine = on.later.faults; pocket = on.pocket; other = λ e. absurd (cc) };
  wants = λ began attempt s d digest machine after g goes.
      let on = went_on old d machine g (going_later at attempt _ _ _ after goes) in
      record { later = on.later; machine = on.later.faults; pocket = on.pocket; other = λ e. absurd (cc) };
  ends = λ began attempt s d fail note machine after g goes.
      let on = went_on old d machine g (going_later at attempt _ _ _ after goes) in
      record { later = on.later; machine = on.later.faults; pocket = on.pocket; other = λ e. absurd (cc) };
  lacks = λ began attempt s d machine after g goes.
      let on = went_on old d machine g (going_later at attempt _ _ _ after goes) in
      record {
        started = on.later.started;
        cause = record { machine = on.later.faults; pocket = counts_still old.pocket.faults d.pocket.faults Memory (λ e. absurd (cc)) on.pocket };
      };
  tries = λ s d is none held. is;
  tested = λ marks s d action machine is may asks. asked_steady old d _ machine (λ e. absurd (cc)) is (content_quiet at _ d.machine _ machine asks);
  marked = λ marks s d action machine is may asks. asked_steady old d _ machine (λ e. absurd (cc)) is (content_quiet at _ d.machine _ machine asks);
  test_failed = λ marks s d action machine is asks. asked_fails old d machine is (content_quiet at _ d.machine _ machine asks);
  test_memory = λ marks s d action machine is asks. asked_lacks old d machine is (content_quiet at _ d.machine _ machine asks);
  passed = λ marks s d action machine is asks. asked_steady old d _ machine (λ e. absurd (cc)) is (due_quiet at _ action _ _ d.machine _ machine asks);
  try_failed = λ marks s d action machine is asks. asked_fails old d machine is (due_quiet at _ action _ _ d.machine _ machine asks);
  try_memory = λ marks s d action machine is asks. asked_lacks old d machine is (due_quiet at _ action _ _ d.machine _ machine asks);
  begun_done = λ marks s d action content machine pocket is due there among saves.
      let still = asked_steady old d _ machine (λ e. absurd (cc)) is (due_quiet at _ action _ _ d.machine _ machine due) in
      record { later = still.later; pocket = saves.counts.steady not_done ∙ still.pocket };
  begun_failed = λ marks s d action machine pocket is due among saves.
      let still = asked_steady old d _ machine (λ e. absurd (cc)) is (due_quiet at _ action _ _ d.machine _ machine due) in
      fault_comes old (with_machine machine d) _ pocket (goes_from old (with_machine machine d) still) saves;
  begun_memory = λ marks s d action machine pocket is due saves.
      let still = asked_steady old d _ machine (λ e. absurd (cc)) is (due_quiet at _ action _ _ d.machine _ machine due) in
      memory_comes old (with_machine machine d) _ pocket (goes_from old (with_machine machine d) still) saves;
  no_memory = λ marks s d is. steady_ends old d Memory (λ e. absurd (cc)) is.later.faults is;
  idle = λ marks s d is. record { later = is.later; machine = is.machine; pocket = is.pocket; other = λ e. absurd (cc) };
  reported_done = λ changed would s d pocket c can saves. comes_done old d would _ pocket c saves;
  reported_failed = λ changed would s d pocket c can saves. fault_comes old d _ pocket (come_from old d would c) saves;
  reported_memory = λ changed would s d pocket c can saves. memory_comes old d _ pocket (come_from old d would c) saves;
  changed_done = λ would s d pocket c saves. comes_done old d would _ pocket c saves;
  changed_failed = λ would s d pocket c saves. fault_comes old d _ pocket (come_from old d would c) saves;
  changed_memory = λ would s d pocket c saves. memory_comes old d _ pocket (come_from old d would c) saves;
  unchanged = λ would s d c. record { started = c.later.started; cause = record { machine = c.machine; pocket = counts_still old.pocket.faults d.pocket.faults would c.other c.pocket } };
}

pub turn_came : (at : When) (s s2 : State) (d d2 : Devices) (answer : Turned) → Turn at s d answer s2 d2 → Came d answer d2
turn_came at s s2 d d2 answer turn =
    let start : IsSteady d d = record { later = later_refl d.machine; machine = refl; pocket = refl } in
    turn_keeps at (λ s x. IsSteady d x) (λ marks s x. IsSteady d x) (λ began attempt s x. Underway d x) (λ changed would s x. Closes d would x) (λ a s x. Came d a x) (keeps_cause at d) answer s2 d2 s d
    (λ e. start) (λ pocket saves. record { later = start.later; machine = refl; pocket = saves.counts.steady not_done })
    (λ pocket saves. fault_comes d d _ pocket (goes_from d d start) saves) (λ pocket saves. memory_comes d d _ pocket (goes_from d d start) saves) turn
