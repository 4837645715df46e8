-- What holds of the answers in which a turn can end, whatever comes before its end.
use Rattle.std.proofs.Common.{ℕ, List, Bool, true, false, Option, Some, None, inl, inr, sym, subst}
use Rattle.act_rules.specs.declared.row.Outcome.{Outcome}
use Rattle.script_run.specs.Asking.{When}
use Rattle.agent_text.specs.declared.pocket.SaveResult.{SaveResult}
use Rattle.agent_text.specs.declared.pocket.SaveResult.TheVariants as save
use Rattle.agent_attempt.specs.declared.went.Fail.{Fail}
use Rattle.agent_attempt.specs.declared.went.Went.{Went}
use Rattle.agent_attempt.specs.declared.went.Went.TheVariants as went
use Rattle.agent_attempt.specs.Attempts.{PlainAttempt}
use Rattle.agent_attempt.specs.ActionContents.{Content}
use Rattle.fix_site.specs.declared.action.Action.{Action}
use Rattle.agent_state.specs.States.{State, as_saved, can_report, interrupted, with_beginning, with_end, with_held, with_report, with_unsaved}
use Rattle.agent_core.specs.declared.turned.Turned.{Turned}
use Rattle.agent_core.specs.declared.turned.Turned.TheVariants.{Interrupted, Held, Wants, Ended, MachineFault, PocketFault, Memory}
use Rattle.agent_core.specs.Devices.{Devices}
use Rattle.agent_core.specs.Saving.{Answers}
use Rattle.agent_core.specs.Turns.{AfterBeginning, AfterGoing, AfterInterrupting, AfterLastSave, Begins, Finishes, Interrupts, LastSave, ReportsAndSaves, TurnGoesOn, beginning, outcome_of}

-- it holds of each answer in which an attempt of this action goes on
pub record OfGoing (P : Turned → Type 0) (id : ℕ) (began : Bool) : Type 0 where
  pub held : (component line : ℕ) → P (Held id began component line)
  pub wants : (digest : List ℕ) → P (Wants id began digest)
  pub ended : (outcome : Outcome) (fail : Option Fail) → P (Ended id began outcome fail)

-- it holds of each answer of a turn that stops
pub record OfStops (P : Turned → Type 0) : Type 0 where
  pub machine : P MachineFault
  pub pocket : P PocketFault
  pub memory : P Memory

module _ (P : Turned → Type 0) (stops : OfStops P) (a : Turned) (s2 : State) (d2 : Devices) where
  pub answers : (would : Turned) (s : State) (d : Devices) → P would → Answers would s d a s2 d2 → P a
  answers would s d p h = subst P (sym h.0) p

  -- ---- the end of a turn
  after_last : (result : SaveResult) (would : Turned) (s : State) (d : Devices) → P would → AfterLastSave would s result d a s2 d2 → P a
  after_last save.Done would s d p h = answers would (as_saved s) d p h
  after_last save.Failed would s d p h = answers PocketFault (with_unsaved s) d stops.pocket h
  after_last save.Memory would s d p h = answers Memory (with_unsaved s) d stops.memory h

  last_save : (changed : Bool) (would : Turned) (s : State) (d : Devices) → P would → LastSave changed would s d a s2 d2 → P a
  last_save false would s d p h = answers would s d p h
  last_save true would s d p h = after_last h.0 would s (record d { pocket = h.1 }) p h.3

  finishes_by : (can changed : Bool) (would : Turned) (s : State) (d : Devices) → P would → ReportsAndSaves can changed would s d a s2 d2 → P a
  finishes_by true changed would s d p h = last_save true would (with_report s) d p h
  finishes_by false changed would s d p h = last_save changed would s d p h

  pub finishes : (changed : Bool) (would : Turned) (s : State) (d : Devices) → P would → Finishes changed would s d a s2 d2 → P a
  finishes changed would s d p h = finishes_by (can_report s) changed would s d p h

  -- ---- an attempt goes on
  after_going : (at : When) (w : Went) (id : ℕ) (began : Bool) (after : Option PlainAttempt) (s : State) (d : Devices) → OfGoing P id began → AfterGoing at id began w after s d a s2 d2 → P a
  after_going at (went.Held component line) id began after s d p h = finishes false (Held id began component line) (with_held after s) d (p.held component line) h
  after_going at (went.Wants digest) id began after s d p h = finishes false (Wants id began digest) (with_held after s) d (p.wants digest) h
  after_going at (went.Ended fail note) id began after s d p h = finishes true (Ended id began (outcome_of fail) fail) (with_end id at.moment (outcome_of fail) note s) d (p.ended (outcome_of fail) fail) h
  after_going at went.Memory id began after s d p h = answers Memory (with_held after s) d stops.memory h

  pub goes_on : (at : When) (began : Bool) (attempt : PlainAttempt) (s : State) (d : Devices) → OfGoing P attempt.action.id began → TurnGoesOn at began attempt s d a s2 d2 → P a
  goes_on at began attempt s d p h = after_going at h.0 attempt.action.id began h.2 s (record d { machine = h.1 }) p h.4

  -- ---- a broken attempt ends
  after_interrupting : (result : SaveResult) (id : ℕ) (s : State) (d : Devices) → P (Interrupted id) → AfterInterrupting id s result d a s2 d2 → P a
  after_interrupting save.Done id s d p h = finishes false (Interrupted id) (as_saved s) d p h
  after_interrupting save.Failed id s d p h = answers PocketFault (with_unsaved s) d stops.pocket h
  after_interrupting save.Memory id s d p h = answers Memory (with_unsaved s) d stops.memory h

  pub interrupts : (at : When) (id : ℕ) (s : State) (d : Devices) → P (Interrupted id) → Interrupts at id s d a s2 d2 → P a
  interrupts at id s d p (inl h) = answers Memory s d stops.memory h
  interrupts at id s d p (inr h) = after_interrupting h.0 id (interrupted id at.moment s) (record d { pocket = h.1 }) p h.3

  -- ---- an action begins
  after_beginning : (at : When) (result : SaveResult) (s marked begun : State) (attempt : PlainAttempt) (d : Devices) → OfGoing P attempt.action.id true → AfterBeginning at s marked begun attempt result d a s2 d2 → P a
  after_beginning at save.Done s marked begun attempt d p h = goes_on at true attempt (as_saved begun) d p h
  after_beginning at save.Failed s marked begun attempt d p h = answers PocketFault (with_unsaved marked) d stops.pocket h
  after_beginning at save.Memory s marked begun attempt d p h = answers Memory s d stops.memory h

  pub begins : (at : When) (s marked : State) (action : Action) (content : Option Content) (d : Devices) → OfGoing P action.id true → Begins at s marked action content d a s2 d2 → P a
  begins at s marked action None d p h = absurd h
  begins at s marked action (Some content) d p h =
      after_beginning at h.0 s marked (with_beginning action.id at.moment marked) (beginning at action content marked) (record d { pocket = h.1 }) p h.3
