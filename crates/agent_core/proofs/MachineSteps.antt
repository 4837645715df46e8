-- What a turn does on its machine is steps at its moment, one after another: looks, commands and polls.
use Rattle.std.proofs.Common.{◌≡◌, ℕ, ℤ, List, [], ◌∷◌, ◌++◌, ◌⊎◌, inl, inr, Option, refl, subst}
use Rattle.bf_machine.specs.Steps.{Step, Looking, Acting, Polling, Takes, TakesAll}
use Rattle.bf_machine.specs.Views.{MachineView, OnlyLooks}
use Rattle.bf_world.specs.declared.command.Polled.TheVariants as of_poll
use Rattle.script_run.specs.declared.ran.Ran.{Ran}
use Rattle.script_run.specs.declared.ran.Ran.TheVariants as ran
use Rattle.script_run.specs.Advances.{Advances}
use Rattle.script_run.specs.Asking.{When}
use Rattle.script_run.specs.RunSteps.{Any, Comes, Holds, IsTextOf, Settles, StarvesAsking, Stops}
use Rattle.script_run.specs.Walks.{Known, Settled, said, judged, acted, polled, Next, Says, Tests, Pauses, Does, Polls, Walk}
use Rattle.agent_attempt.specs.declared.went.Went.{Went}
use Rattle.agent_attempt.specs.Attempts.{PlainAttempt}
use Rattle.agent_attempt.specs.Going.{GoesOn}
use Rattle.agent_attempt.proofs.GoingPoints.{Points, going_leads}
use Rattle.agent_attempt.proofs.Quiet.{content_quiet, due_quiet}
use Rattle.agent_core.specs.declared.turned.Turned.{Turned}
use Rattle.agent_state.specs.States.{State}
use Rattle.agent_core.specs.Devices.{Devices}
use Rattle.agent_core.specs.Turns.{Turn}
use Rattle.agent_core.proofs.TurnPoints.{Keeps, turn_keeps}

-- steps lead from one view to the other
abbrev pub IsStepped : ℤ → MachineView → MachineView → Type 0
IsStepped moment old new = (steps : List Step) × TakesAll moment old steps new

steps_after : (moment : ℤ) (old : MachineView) (xs : List Step) (mid : MachineView) (ys : List Step) (new : MachineView) → TakesAll moment old xs mid → TakesAll moment mid ys new → TakesAll moment old (xs ++ ys) new
steps_after moment old [] mid ys new h k = subst (λ (v : MachineView). TakesAll moment v ys new) h k
steps_after moment old (x ∷ xs) mid ys new (between, takes, rest) k = (between, takes, steps_after moment between xs mid ys new rest k)

stepped_same : (moment : ℤ) (old new : MachineView) → new ≡ old → IsStepped moment old new
stepped_same moment old new same = ([], same)

stepped_once : (moment : ℤ) (step : Step) (old new : MachineView) → Takes moment old step new → IsStepped moment old new
stepped_once moment step old new takes = (step ∷ [], (new, takes, refl))

stepped_more : (moment : ℤ) (old mid new : MachineView) → IsStepped moment old mid → IsStepped moment mid new → IsStepped moment old new
stepped_more moment old mid new (xs, p) (ys, q) = (xs ++ ys, steps_after moment old xs mid ys new p q)

stepped_looks : (moment : ℤ) (old new : MachineView) → OnlyLooks old new → IsStepped moment old new
stepped_looks moment old new looks = stepped_once moment Looking old new looks

-- ---- a script
settles_stepped : (at : When) (known : Known) (next : Next) (old : MachineView) (r : Settled) (new : MachineView) → Settles at known next old r new → IsStepped at.moment old new
settles_stepped at known (Says n midway text) old (said a) new p = stepped_looks at.moment old new p.1.only
settles_stepped at known (Tests n text) old (judged a) new p = stepped_looks at.moment old new p.1.only
settles_stepped at known (Pauses n text) old (judged a) new p = stepped_looks at.moment old new p.2.only
settles_stepped at known (Does n midway command) old (acted a) new p = stepped_once at.moment (Acting command a) old new p.1
settles_stepped at known (Polls n process) old (polled a) new p = stepped_once at.moment (Polling process a) old new p.1
settles_stepped at known next old r new p = absurd p

comes_stepped : (P : Next → Settled → Type 0) (at : When) (f : Walk) (old : MachineView) (rs : List Settled) (new : MachineView) → Comes P at old f rs new → IsStepped at.moment old new
comes_stepped P at f old [] new h = stepped_same at.moment old new h
comes_stepped P at f old (r ∷ rs) new (any, (between, settles, rest)) =
    stepped_more at.moment old between new (settles_stepped at (f []).known (f []).next old r between settles) (comes_stepped P at (λ more. f (r ∷ more)) between rs new rest)

holds_stepped : (at : When) (known : Known) (next : Next) (n : ℕ) (old new : MachineView) → Holds at known next n old new → IsStepped at.moment old new
holds_stepped at known (Pauses own text) n old new p = stepped_looks at.moment old new p.1.only
holds_stepped at known (Polls own process) n old new p = stepped_once at.moment (Polling process of_poll.Running) old new p.1
holds_stepped at known next n old new p = absurd p

asking_stepped : (at : When) (n : ℕ) (known : Known) (next : Next) (old new : MachineView) → StarvesAsking at n known next old new → IsStepped at.moment old new
asking_stepped at n known (Says own midway text) old new p = stepped_looks at.moment old new p.1.only
asking_stepped at n known (Tests own text) old new p = stepped_looks at.moment old new p.1.only
asking_stepped at n known (Pauses own text) old new p = stepped_looks at.moment old new p.1.only
asking_stepped at n known next old new p = absurd p

breaks_stepped : (at : When) (n : ℕ) (known : Known) (next : Next) (old new : MachineView) → (new ≡ old) ⊎ StarvesAsking at n known next old new → IsStepped at.moment old new
breaks_stepped at n known next old new (inl same) = stepped_same at.moment old new same
breaks_stepped at n known next old new (inr asks) = asking_stepped at n known next old new asks

stops_stepped : (at : When) (old : MachineView) (f : Walk) (a : Ran) (new : MachineView) → Stops at old f a new → IsStepped at.moment old new
stops_stepped at old f (ran.Held n) new p = holds_stepped at (f []).known (f []).next n old new p
stops_stepped at old f (ran.Wants n digest) new p = stepped_same at.moment old new p.1
stops_stepped at old f ran.Done new p = stepped_same at.moment old new p.1
stops_stepped at old f (ran.Failed n cause) new p = stepped_same at.moment old new p.2
stops_stepped at old f ran.Memory new (n, starves) =
    stepped_more at.moment old starves.between new (comes_stepped (IsTextOf n) at f old starves.texts starves.between starves.comes)
    (breaks_stepped at n (f starves.texts).known (f starves.texts).next starves.between new starves.breaks)

advances_stepped : (at : When) (old : MachineView) (walk : Walk) (a : Ran) (new : MachineView) (left : Walk) → Advances at old walk a new left → IsStepped at.moment old new
advances_stepped at old walk a new left h =
    stepped_more at.moment old h.between new (comes_stepped Any at walk old h.results h.between h.comes) (stops_stepped at h.between (λ more. walk (h.results ++ more)) a new h.stops)

-- ---- an attempt
stepped_points : (at : When) (a : PlainAttempt) → Points at a (λ old new after. IsStepped at.moment old new)
stepped_points at a = record {
  ends = λ v. stepped_same at.moment v v refl;
  stays = λ v left stage past. stepped_same at.moment v v refl;
  asked = λ f old between new after quiet stepped. stepped_more at.moment old between new (stepped_looks at.moment old between quiet.only) stepped;
  runs = λ walk further came old between new after advances stepped. stepped_more at.moment old between new (advances_stepped at old walk came between further advances) stepped;
}

going_stepped : (at : When) (a : PlainAttempt) (old : MachineView) (answer : Went) (new : MachineView) (after : Option PlainAttempt) → GoesOn at a old answer new after → IsStepped at.moment old new
going_stepped at a = going_leads at a (λ old new after. IsStepped at.moment old new) (stepped_points at a)

-- ---- a turn
module _ (at : When) (first : MachineView) where
  abbrev So : Devices → Type 0
  So d = IsStepped at.moment first d.machine

  looked : (d : Devices) (machine : MachineView) → So d → OnlyLooks d.machine machine → IsStepped at.moment first machine
  looked d machine so looks = stepped_more at.moment first d.machine machine so (stepped_looks at.moment d.machine machine looks)

  went : (attempt : PlainAttempt) (w : Went) (d : Devices) (machine : MachineView) (after : Option PlainAttempt) → So d → GoesOn at attempt d.machine w machine after → IsStepped at.moment first machine
  went attempt w d machine after so goes = stepped_more at.moment first d.machine machine so (going_stepped at attempt d.machine w machine after goes)

  keeps_stepped : Keeps at (λ s d. So d) (λ marks s d. So d) (λ began attempt s d. So d) (λ changed would s d. So d) (λ a s d. So d)
  keeps_stepped = record {
    memory = λ s d so. so;
    broken_done = λ s d id pocket so broken h. so;
    broken_failed = λ s d id pocket so broken h. so;
    broken_memory = λ s d id pocket so broken h. so;
    resumes = λ s d attempt so none held. so;
    held = λ began attempt s d component line machine after so goes. went attempt _ d machine after so goes;
    wants = λ began attempt s d digest machine after so goes. went attempt _ d machine after so goes;
    ends = λ began attempt s d fail note machine after so goes. went attempt _ d machine after so goes;
    lacks = λ began attempt s d machine after so goes. went attempt _ d machine after so goes;
    tries = λ s d so none held. so;
    tested = λ marks s d action machine so may is. looked d machine so (content_quiet at _ d.machine _ machine is).only;
    marked = λ marks s d action machine so may is. looked d machine so (content_quiet at _ d.machine _ machine is).only;
    test_failed = λ marks s d action machine so is. looked d machine so (content_quiet at _ d.machine _ machine is).only;
    test_memory = λ marks s d action machine so is. looked d machine so (content_quiet at _ d.machine _ machine is).only;
    passed = λ marks s d action machine so is. looked d machine so (due_quiet at _ action _ _ d.machine _ machine is).only;
    try_failed = λ marks s d action machine so is. looked d machine so (due_quiet at _ action _ _ d.machine _ machine is).only;
    try_memory = λ marks s d action machine so is. looked d machine so (due_quiet at _ action _ _ d.machine _ machine is).only;
    begun_done = λ marks s d action content machine pocket so due there among h. looked d machine so (due_quiet at _ action _ _ d.machine _ machine due).only;
    begun_failed = λ marks s d action machine pocket so due among h. looked d machine so (due_quiet at _ action _ _ d.machine _ machine due).only;
    begun_memory = λ marks s d action machine pocket so due h. looked d machine so (due_quiet at _ action _ _ d.machine _ machine due).only;
    no_memory = λ marks s d so. so;
    idle = λ marks s d so. so;
    reported_done = λ changed would s d pocket so can h. so;
    reported_failed = λ changed would s d pocket so can h. so;
    reported_memory = λ changed would s d pocket so can h. so;
    changed_done = λ would s d pocket so h. so;
    changed_failed = λ would s d pocket so h. so;
    changed_memory = λ would s d pocket so h. so;
    unchanged = λ would s d so. so;
  }

pub turn_stepped : (at : When) (s s2 : State) (d d2 : Devices) (answer : Turned) → Turn at s d answer s2 d2 → IsStepped at.moment d.machine d2.machine
turn_stepped at s s2 d d2 answer turn =
    let start : IsStepped at.moment d.machine d.machine = stepped_same at.moment d.machine d.machine refl in
    turn_keeps at _ _ _ _ _ (keeps_stepped at d.machine) answer s2 d2 s d (λ e. start) (λ pocket h. start) (λ pocket h. start) (λ pocket h. start) turn
