-- What an advance does.
use Rattle.std.specs.Prelude.{◌≡◌, ℕ, false, List, [], ◌++◌, Option, Some, None}
use Rattle.bf_machine.specs.Told.{Grows}
use Rattle.bf_machine.specs.Rises.{CountsFailed}
use Rattle.bf_machine.specs.Views.{MachineView}
use Rattle.rel_sources.specs.declared.pair.Pair.{Pair}
use Rattle.script_text.specs.Scripts.{PlainScript}
use Rattle.script_run.specs.declared.ran.Ran.{Ran}
use Rattle.script_run.specs.declared.ran.Ran.TheVariants as ran
use Rattle.script_run.specs.declared.run.Run.{Run}
use Rattle.script_run.specs.Walks.{Settled, Walk, faults_in, is_midway}
use Rattle.script_run.specs.ScriptWalks.{after, commands_in}
use Rattle.script_run.specs.Asking.{When}
use Rattle.script_run.specs.RunSteps.{Comes, Any, Stops}
use Rattle.script_run.specs.RunPlaces.{Stands}

-- From where a script stands further results came, one after another, with the commands among them; then it stopped with an answer, and
-- this is left of it.
pub record Advances (at : When) (old : MachineView) (walk : Walk) (answer : Ran) (new : MachineView) (left : Walk) : Type 0 where
  pub results : List Settled
  pub between : MachineView
  pub comes : Comes Any at old walk results between
  pub stops : Stops at between (λ more. walk (results ++ more)) answer new
  pub same : (more : List Settled) → left more ≡ walk (results ++ more)
  pub faults : CountsFailed (faults_in results) old.faults new.faults
  -- memory ran out before a line of which nothing is settled: where the line has failed, nothing of it was settled in this advance
  pub before : answer ≡ ran.Memory → is_midway (left []).next ≡ false
  pub commands : Grows old.acted new.acted (commands_in walk results)

-- A run that stood for these results goes on, and stands for all of them.
pub record GoesOn (at : When) (script : PlainScript) (given : List Pair) (settled : List Settled) (old : MachineView) (answer : Ran)
    (new : MachineView) (run : Run) : Type 0 where
  pub left : Walk
  pub advances : Advances at old (after script given settled) answer new left
  pub stands : Stands script given run (settled ++ advances.results)

-- the SHA-256 of the file that an answer wants
abbrev pub wanted_by : Ran → Option (List ℕ)
wanted_by (ran.Wants line digest) = Some digest
wanted_by _ = None

-- A run that wants a file wants it again, and nothing else changes.
pub record WantsAgain (digest : List ℕ) (old : MachineView) (rest : Walk) (answer : Ran) (new : MachineView) (left : Walk) : Type 0 where
  pub wants : wanted_by answer ≡ Some digest
  pub machine : new ≡ old
  pub same : left ≡ rest
