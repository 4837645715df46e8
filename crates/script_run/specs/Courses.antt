-- What calls from outside make of a run: what each is answered, and the results that the run then stands for.
use Rattle.std.specs.Prelude.{◌≡◌, ◌≢◌, ⊤, ℕ, Bool, true, false, List, [], ◌∷◌, ◌++◌, Option, Some, None}
use Rattle.bf_world.specs.Worlds.{WorldState}
use Rattle.bf_machine.specs.Views.{MachineView}
use Rattle.rel_sources.specs.declared.pair.Pair.{Pair}
use Rattle.script_text.specs.Scripts.{PlainScript}
use Rattle.script_run.specs.declared.ran.Ran.{Ran}
use Rattle.script_run.specs.declared.ran.Ran.TheVariants as of_run
use Rattle.script_run.specs.declared.run.Run.{Run}
use Rattle.script_run.specs.Walks.{Settled, supplied}
use Rattle.script_run.specs.ScriptWalks.{after}
use Rattle.script_run.specs.Asking.{When}
use Rattle.script_run.specs.RunSteps.{Comes, Any, Stops}
use Rattle.script_run.specs.RunPlaces.{Stands, wanted_at}
use Rattle.script_run.specs.Advances.{wanted_by}

-- a call from outside
pub data Call : Type 0 where
  -- the run goes on then, on a machine that is found in this world
  Going : (at : When) (world : WorldState) → Call
  -- for the file of this SHA-256 its bytes come, or that it isn't served
  Supplying : (digest : List ℕ) (bytes : Option (List ℕ)) → Call

-- what a call is answered
pub data Reply : Type 0 where
  -- how the script stopped
  ran : Ran → Reply
  -- whether that file was wanted
  taken : Bool → Reply

-- what a run is between two calls: the results that it stands for, and the SHA-256 of the file that it wants
pub record Point : Type 0 where
  pub settled : List Settled
  pub wanted : Option (List ℕ)

-- before the first call
abbrev pub beginning : Point
beginning = record { settled = []; wanted = None }

-- On a machine of this world the script goes on to this answer.
pub record Goes (at : When) (world : WorldState) (script : PlainScript) (given : List Pair) (old : Point) (answer : Ran) (new : Point)
    : Type 0 where
  pub before : MachineView
  pub told : before.world ≡ Some world
  pub results : List Settled
  pub between : MachineView
  pub comes : Comes Any at before (after script given old.settled) results between
  pub left : MachineView
  pub stops : Stops at between (λ more. after script given old.settled (results ++ more)) answer left
  pub point : new ≡ record { settled = old.settled ++ results; wanted = wanted_by answer }

-- A call is answered so. What is supplied is taken where it is wanted, and only there.
abbrev pub Replies : PlainScript → List Pair → Point → Call → Reply → Point → Type 0
Replies script given old (Going at world) (ran answer) new = Goes at world script given old answer new
Replies script given old (Supplying digest bytes) (taken true) new =
    (old.wanted ≡ Some digest) × (new ≡ record { settled = old.settled ++ supplied bytes ∷ []; wanted = None })
Replies script given old (Supplying digest bytes) (taken false) new = (old.wanted ≢ Some digest) × (new ≡ old)
Replies script given old call reply new = ⊥

-- Calls one after another are answered so.
abbrev pub Course : PlainScript → List Pair → Point → List Call → List Reply → Point → Type 0
Course script given old [] [] new = new ≡ old
Course script given old (call ∷ calls) (reply ∷ replies) new =
    (between : Point) × Replies script given old call reply between × Course script given between calls replies new
Course script given old calls replies new = ⊥

-- no reply is want of memory
abbrev pub IsAmple : List Reply → Type 0
IsAmple [] = ⊤
IsAmple (reply ∷ replies) = (reply ≢ ran of_run.Memory) × IsAmple replies

-- A run stands at this point of the script with these parameters.
pub record IsAt (script : PlainScript) (given : List Pair) (run : Run) (point : Point) : Type 0 where
  pub stands : Stands script given run point.settled
  pub wants : wanted_at run.place ≡ point.wanted

-- A call of a run that stood at a point is answered as its script is, and the run stands at the point behind it.
pub record Follows (script : PlainScript) (given : List Pair) (old : Point) (call : Call) (reply : Reply) (new : Run) : Type 0 where
  pub point : Point
  pub replies : Replies script given old call reply point
  pub is_at : IsAt script given new point
