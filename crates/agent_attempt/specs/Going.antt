-- How an attempt goes on, component by component, until it is held, wants a file or ends.
use Rattle.std.specs.Prelude.{◌≡◌, ◌⊎◌, ℕ, ℤ, Bool, true, false, List, [], ◌∷◌, Option, Some, None, Ok, ⊤}
use Rattle.act_rules.specs.declared.row.Note.{Note}
use Rattle.script_text.specs.Scripts.{PlainScript, IsVerdict}
use Rattle.script_run.specs.declared.cause.Cause.{Cause}
use Rattle.script_run.specs.declared.cause.Cause.TheVariants.{MachineFault, NotMet}
use Rattle.script_run.specs.declared.ran.Ran.{Ran}
use Rattle.script_run.specs.declared.ran.Ran.TheVariants as ran
use Rattle.script_run.specs.Walks.{Walk}
use Rattle.script_run.specs.ScriptWalks.{standing}
use Rattle.bf_machine.specs.Views.{MachineView}
use Rattle.script_run.specs.Advances.{Advances}
use Rattle.script_run.specs.Asking.{When}
use Rattle.agent_attempt.specs.declared.found.Found.{Found}
use Rattle.agent_attempt.specs.declared.found.Found.TheVariants.{Yes, No, Failed, Memory}
use Rattle.agent_attempt.specs.declared.went.Went.{Went}
use Rattle.agent_attempt.specs.declared.went.Went.TheVariants as went
use Rattle.agent_attempt.specs.declared.attempt.Part.{Part}
use Rattle.agent_attempt.specs.declared.attempt.Failure.{Failure}
use Rattle.agent_attempt.specs.Relevance.{FixletIs, Succeeds}
use Rattle.agent_attempt.specs.Attempts.{PlainAttempt, PlainStage, Past, coming, starting, running, judging, issue_date}

-- how an attempt goes on: with what it has come to so far, from one view of the machine, to an answer, another view, and the attempt
-- as it is held then, if it is
abbrev pub Going : Type 1
Going = Past → MachineView → Went → MachineView → Option PlainAttempt → Type 0

-- ---- ends and stays
-- the note of an attempt that has ended: the exit code of its last run, or that of the run in which it failed and the place
abbrev pub fixed_note : Option ℤ → Note
fixed_note exit = record { exit = exit; place = None }

abbrev pub failed_note : Failure → Note
failed_note failure = record { exit = failure.exit; place = Some (failure.fail.component, failure.fail.line) }

-- what an attempt has come to: its first failure, or that there was none
abbrev pub ended_by : Option Failure → Option ℤ → Went
ended_by None exit = went.Ended None (fixed_note exit)
ended_by (Some failure) exit = went.Ended (Some failure.fail) (failed_note failure)

abbrev pub ended : Past → Went
ended past = ended_by past.failure past.exit

-- The attempt has ended.
abbrev pub Ends : Going
Ends past old answer new after = (answer ≡ ended past) × (new ≡ old) × (after ≡ None)

-- the attempt, with these components left and this stage
abbrev pub held_at : PlainAttempt → List Part → PlainStage → Past → PlainAttempt
held_at a left stage past = record a { left = left; stage = stage; past = past }

-- The attempt stays where it is, with this answer.
abbrev pub Stays : PlainAttempt → List Part → PlainStage → Went → Going
Stays a left stage would past old answer new after =
    (answer ≡ would) × (new ≡ old) × (after ≡ Some (held_at a left stage past))

-- ---- failures
-- the failure counts where none stands before it
abbrev pub first_failure : Option Failure → Failure → Option Failure
first_failure None failure = Some failure
first_failure (Some first) failure = Some first

-- a component fails at this line, for this cause, with this exit code
abbrev pub with_failure : Part → ℕ → Cause → Option ℤ → Past → Past
with_failure part line cause exit past = record past {
  failure = first_failure past.failure (record { fail = record { component = part.component; line = line; cause = cause }; exit = exit });
}

-- After a failure the next component comes where all members are run; otherwise the attempt has ended.
abbrev pub after_failure : Bool → Going → Going
after_failure true rest = rest
after_failure false rest = Ends

abbrev pub Fails : PlainAttempt → Part → ℕ → Cause → Option ℤ → Going → Going
Fails a part line cause exit rest past = after_failure a.action.all_members rest (with_failure part line cause exit past)

-- ---- judging
-- what comes after the success of a component was judged
abbrev pub AfterJudging : PlainAttempt → Part → List Part → Option ℤ → Going → Found → Going
AfterJudging a part left exit rest Yes past = rest (record past { exit = exit })
AfterJudging a part left exit rest No past = Fails a part 0 NotMet exit rest past
AfterJudging a part left exit rest Failed past = Fails a part 0 MachineFault exit rest past
AfterJudging a part left exit rest Memory past = Stays a (part ∷ left) (judging exit) went.Memory past

-- The script is done, and the success of the component is judged.
abbrev pub FromJudging : When → PlainAttempt → Part → List Part → Option ℤ → Going → Going
FromJudging at a part left exit rest past old answer new after =
    (found : Found) × (between : MachineView) × Succeeds at part.fixlet part.fixlet.success old found between
    × AfterJudging a part left exit rest found past between answer new after

-- ---- running
-- the exit code that is known where a script stands
abbrev pub exit_at : Walk → Option ℤ
exit_at walk = (walk []).known.exit

-- what comes after a script went on
abbrev pub AfterRun : When → PlainAttempt → Part → List Part → Going → Ran → Walk → Going
AfterRun at a part left rest (ran.Held line) walk =
    Stays a (part ∷ left) (running walk None) (went.Held part.component line)
AfterRun at a part left rest (ran.Wants line digest) walk =
    Stays a (part ∷ left) (running walk (Some digest)) (went.Wants digest)
AfterRun at a part left rest ran.Done walk = FromJudging at a part left (exit_at walk) rest
AfterRun at a part left rest (ran.Failed line cause) walk = Fails a part line cause (exit_at walk) rest
AfterRun at a part left rest ran.Memory walk = Stays a (part ∷ left) (running walk None) went.Memory

-- The script of the component goes on.
abbrev pub FromRunning : When → PlainAttempt → Part → List Part → Walk → Going → Going
FromRunning at a part left walk rest past old answer new after =
    (ran : Ran) × (between : MachineView) × (further : Walk) × Advances at old walk ran between further
    × AfterRun at a part left rest ran further past between answer new after

-- The script of the component begins, or there is no memory for it to begin.
abbrev pub FromStarting : When → PlainAttempt → Part → List Part → Going → Going
FromStarting at a part left rest past old answer new after =
    Stays a (part ∷ left) starting went.Memory past old answer new after
    ⊎ ((script : PlainScript) × IsVerdict part.fixlet.script (Ok script)
    × FromRunning at a part left (standing script (issue_date a)) rest past old answer new after)

-- ---- coming
-- what comes after a component was asked whether it is relevant: one that isn't is passed over
abbrev pub AfterComing : When → PlainAttempt → Part → List Part → Going → Found → Going
AfterComing at a part left rest Yes = FromStarting at a part left rest
AfterComing at a part left rest No = rest
AfterComing at a part left rest Failed = Fails a part 0 MachineFault None rest
AfterComing at a part left rest Memory = Stays a (part ∷ left) coming went.Memory

-- A component comes: it is asked whether it is relevant.
abbrev pub FromComing : When → PlainAttempt → Part → List Part → Going → Going
FromComing at a part left rest past old answer new after =
    (found : Found) × (between : MachineView) × FixletIs at part.fixlet old found between
    × AfterComing at a part left rest found past between answer new after

-- ---- the whole
-- The components come one after another, and then the attempt has ended.
abbrev pub Through : When → PlainAttempt → List Part → Going
Through at a [] = Ends
Through at a (part ∷ left) = FromComing at a part left (Through at a left)

-- The component at hand goes on from its stage. A script that wants a file waits for it.
abbrev pub FromStage : When → PlainAttempt → Part → List Part → PlainStage → Going
FromStage at a part left coming = FromComing at a part left (Through at a left)
FromStage at a part left starting = FromStarting at a part left (Through at a left)
FromStage at a part left (running walk None) = FromRunning at a part left walk (Through at a left)
FromStage at a part left (running walk (Some digest)) = Stays a (part ∷ left) (running walk (Some digest)) (went.Wants digest)
FromStage at a part left (judging exit) = FromJudging at a part left exit (Through at a left)

-- the components that are left go on; without any the attempt has ended
abbrev pub FromLeft : When → PlainAttempt → List Part → Going
FromLeft at a [] = Ends
FromLeft at a (part ∷ left) = FromStage at a part left a.stage

-- An attempt goes on.
abbrev pub GoesOn : When → PlainAttempt → MachineView → Went → MachineView → Option PlainAttempt → Type 0
GoesOn at a old answer new after = FromLeft at a a.left a.past old answer new after

-- ---- what is left of it
-- what is held of an attempt after an answer: nothing where it has ended
abbrev pub held_after : Went → PlainAttempt → Option PlainAttempt
held_after (went.Ended fail note) attempt = None
held_after _ attempt = Some attempt

-- An attempt goes on, and is what is left of it, if it hasn't ended.
abbrev pub GoesTo : When → PlainAttempt → MachineView → Went → MachineView → PlainAttempt → Type 0
GoesTo at old before answer now new = GoesOn at old before answer now (held_after answer new)

-- the place in the note of an attempt that has ended is that of its failure
abbrev pub HasNote : Went → Type 0
HasNote (went.Ended None note) = note.place ≡ None
HasNote (went.Ended (Some fail) note) = note.place ≡ Some (fail.component, fail.line)
HasNote _ = ⊤

-- it is the same attempt, however far it has come
pub record SameAttempt (old new : PlainAttempt) : Type 0 where
  pub action : new.action ≡ old.action
  pub row : new.row ≡ old.row
  pub offset : new.offset ≡ old.offset
