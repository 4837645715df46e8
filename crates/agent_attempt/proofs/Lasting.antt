-- While a script goes on the counts of a machine don't fall. Other crates may cite these lemmas.
use Rattle.std.proofs.Common.{◌≡◌, ℕ, ◌+◌, ◌≤◌, List, [], ◌∷◌, ◌++◌, ◌⊎◌, inl, inr, sym, subst, arith}
use Rattle.bf_machine.specs.Acts.{CountsStarted}
use Rattle.bf_machine.specs.Polls.{PollsOn}
use Rattle.bf_machine.specs.Views.{IsLater, MachineView, OnlyLooks}
use Rattle.bf_world.specs.declared.command.Acted.{Acted}
use Rattle.bf_world.specs.declared.command.Acted.TheVariants as of_act
use Rattle.bf_world.specs.declared.command.Polled.{Polled}
use Rattle.bf_world.specs.declared.command.Polled.TheVariants as of_poll
use Rattle.script_run.specs.declared.ran.Ran.{Ran}
use Rattle.script_run.specs.declared.ran.Ran.TheVariants as ran
use Rattle.script_run.specs.Advances.{Advances}
use Rattle.script_run.specs.Asking.{When}
use Rattle.script_run.specs.RunSteps.{Any, Comes, Holds, IsTextOf, Settles, StarvesAsking, Stops}
use Rattle.script_run.specs.Walks.{Known, Settled, said, judged, acted, polled, Next, Says, Tests, Pauses, Does, Polls, Walk}

pub later_refl : (v : MachineView) → IsLater v v
later_refl v = record { started = omega arith; faults = omega arith }

pub later_trans : (a b c : MachineView) → IsLater a b → IsLater b c → IsLater a c
later_trans a b c p q = record { started = omega (arith, p.started, q.started); faults = omega (arith, p.faults, q.faults) }

pub later_same : (old new : MachineView) → new ≡ old → IsLater old new
later_same old new same = subst (λ v. IsLater old v) (sym same) (later_refl old)

pub later_looks : (old new : MachineView) → OnlyLooks old new → IsLater old new
later_looks old new looks = record { started = omega (arith, looks.started); faults = looks.later }

acts_started : (a : Acted) (old new : ℕ) → CountsStarted old new a → old ≤ new
acts_started of_act.Done old new h = omega (arith, h)
acts_started (of_act.Started process) old new h = let up = h.1 in omega (arith, up)
acts_started (of_act.Refused reason) old new h = omega (arith, h)
acts_started of_act.Failed old new h = h.0
acts_started of_act.Memory old new h = omega (arith, h)

polls_later : (process : ℕ) (old : MachineView) (a : Polled) (new : MachineView) → PollsOn process old a new → IsLater old new
polls_later process old a new p = record { started = omega (arith, p.started); faults = p.counts.later }

pub settles_later : (at : When) (known : Known) (next : Next) (old : MachineView) (r : Settled) (new : MachineView) → Settles at known next old r new → IsLater old new
settles_later at known (Says n midway text) old (said a) new p = later_looks old new p.1.only
settles_later at known (Tests n text) old (judged a) new p = later_looks old new p.1.only
settles_later at known (Pauses n text) old (judged a) new p = later_looks old new p.2.only
settles_later at known (Does n midway command) old (acted a) new p = record { started = acts_started a old.started new.started p.1.started; faults = p.1.counts.later }
settles_later at known (Polls n process) old (polled a) new p = polls_later process old a new p.1
settles_later at known next old r new p = absurd p

pub comes_later : (P : Next → Settled → Type 0) (at : When) (f : Walk) (old : MachineView) (rs : List Settled) (new : MachineView) → Comes P at old f rs new → IsLater old new
comes_later P at f old [] new h = later_same old new h
comes_later P at f old (r ∷ rs) new (any, (between, settles, rest)) =
    later_trans old between new (settles_later at (f []).known (f []).next old r between settles) (comes_later P at (λ more. f (r ∷ more)) between rs new rest)

holds_later : (at : When) (known : Known) (next : Next) (n : ℕ) (old new : MachineView) → Holds at known next n old new → IsLater old new
holds_later at known (Pauses own text) n old new p = later_looks old new p.1.only
holds_later at known (Polls own process) n old new p = polls_later process old of_poll.Running new p.1
holds_later at known next n old new p = absurd p

asking_later : (at : When) (n : ℕ) (known : Known) (next : Next) (old new : MachineView) → StarvesAsking at n known next old new → IsLater old new
asking_later at n known (Says own midway text) old new p = later_looks old new p.1.only
asking_later at n known (Tests own text) old new p = later_looks old new p.1.only
asking_later at n known (Pauses own text) old new p = later_looks old new p.1.only
asking_later at n known next old new p = absurd p

breaks_later : (at : When) (n : ℕ) (known : Known) (next : Next) (old new : MachineView) → (new ≡ old) ⊎ StarvesAsking at n known next old new → IsLater old new
breaks_later at n known next old new (inl same) = later_same old new same
breaks_later at n known next old new (inr asks) = asking_later at n known next old new asks

pub stops_later : (at : When) (old : MachineView) (f : Walk) (a : Ran) (new : MachineView) → Stops at old f a new → IsLater old new
stops_later at old f (ran.Held n) new p = holds_later at (f []).known (f []).next n old new p
stops_later at old f (ran.Wants n digest) new p = later_same old new p.1
stops_later at old f ran.Done new p = later_same old new p.1
stops_later at old f (ran.Failed n cause) new p = later_same old new p.2
stops_later at old f ran.Memory new (n, starves) =
    later_trans old starves.between new (comes_later (IsTextOf n) at f old starves.texts starves.between starves.comes)
    (breaks_later at n (f starves.texts).known (f starves.texts).next starves.between new starves.breaks)

pub advances_later : (at : When) (old : MachineView) (walk : Walk) (a : Ran) (new : MachineView) (left : Walk) → Advances at old walk a new left → IsLater old new
advances_later at old walk a new left h =
    later_trans old h.between new (comes_later Any at walk old h.results h.between h.comes) (stops_later at h.between (λ more. walk (h.results ++ more)) a new h.stops)
