-- Turns of an agent at one time, one after another, with a file between any two: while a turn wants a file, a giver is asked for it, and
-- what came is supplied.
use Rattle.std.specs.Prelude.{◌≡◌, ◌⊎◌, ℕ, ◌≤◌, Bool, true, ◌||◌, List, [], ◌∷◌, map, Option, Some, None}
use Rattle.std.specs.List.{list_any}
use Rattle.script_run.specs.Asking.{When}
use Rattle.agent_state.specs.Changes.{SuppliesState}
use Rattle.agent_state.specs.States.{IsSound, State}
use Rattle.agent_core.specs.declared.turned.Turned.{Turned}
use Rattle.agent_core.specs.declared.turned.Turned.TheVariants.{Held, Wants, Ended, Memory}
use Rattle.agent_core.specs.Devices.{Devices}
use Rattle.agent_core.specs.Stops.{TurnHasCause}
use Rattle.agent_core.specs.Turns.{Turn}
use Rattle.turn_lines.specs.declared.giver.FileAsked.{FileAsked}
use Rattle.turn_lines.specs.declared.giver.Given.{Given}
use Rattle.turn_lines.specs.declared.giver.Given.TheVariants as given
use Rattle.turn_lines.specs.Givers.{Gives, GivesAll, GivesFile, GiverView, file}

-- ---- turns before the last
-- a turn that wanted a file which came: the action, whether its attempt began in that turn, the digest, and the bytes, or that the file
-- isn't served
pub record Fetch : Type 0 where
  pub id : ℕ
  pub began : Bool
  pub digest : List ℕ
  pub bytes : Option (List ℕ)

-- what a giver answers by which these bytes come, or that there are none
abbrev pub given_of : Option (List ℕ) → Given
given_of None = given.NotServed
given_of (Some bytes) = given.File bytes

abbrev pub asked_by : Fetch → FileAsked
asked_by fetch = file fetch.digest (given_of fetch.bytes)

-- A turn wanted a file and left a sound state, and what came was supplied and taken.
pub record Fetches (at : When) (s : State) (d : Devices) (fetch : Fetch) (s2 : State) (d2 : Devices) : Type 0 where
  pub turned : State
  pub turns : Turn at s d (Wants fetch.id fetch.began fetch.digest) turned d2
  pub sound : IsSound turned
  pub supplies : SuppliesState turned fetch.digest fetch.bytes true s2

-- Such turns were made one after another.
abbrev pub FetchesAll : When → State → Devices → List Fetch → State → Devices → Type 0
FetchesAll at s d [] s2 d2 = (s2 ≡ s) × (d2 ≡ d)
FetchesAll at s d (fetch ∷ fetches) s2 d2 =
    (between : State) × (then : Devices) × Fetches at s d fetch between then × FetchesAll at between then fetches s2 d2

-- ---- the turns
-- the answer, of an attempt that is said to have begun where it began in this turn or in one before
abbrev pub with_begun : Bool → Turned → Turned
with_begun begun (Held id began component line) = Held id (begun || began) component line
with_begun begun (Wants id began digest) = Wants id (begun || began) digest
with_begun begun (Ended id began outcome fail) = Ended id (begun || began) outcome fail
with_begun begun answer = answer

abbrev pub any_begun : List Fetch → Bool
any_begun fetches = list_any (λ (fetch : Fetch). fetch.began) fetches

-- Turns were made at this time, from a state and what the devices and the giver tell, to what the last came to, another state, and what
-- they tell then. Exactly the files that the turns before the last wanted were asked for, in their order, each once.
pub record TurnsMade {S : Type 0} (gives : Gives S) (at : When) (s : State) (d : Devices) (g : GiverView S) (answer : Turned) (s2 : State)
    (d2 : Devices) (g2 : GiverView S) : Type 0 where
  -- the turns before the last, the state and what the devices tell before the last, and what that one answered
  pub fetches : List Fetch
  pub between : State
  pub devices : Devices
  pub last : Turned
  pub fetched : FetchesAll at s d fetches between devices
  pub turns : Turn at between devices last s2 d2
  pub answers : answer ≡ with_begun (any_begun fetches) last
  pub asked : GivesAll gives g (map asked_by fetches) g2
  -- before the last turn no count of the machine fell and the pocket's stayed, and the last has its cause
  pub machine : d.machine.faults ≤ devices.machine.faults
  pub pocket : devices.pocket.faults ≡ d.pocket.faults
  pub cause : TurnHasCause devices last d2

-- ---- the end of them
-- The last turn wants a file that isn't got, and so its answer stands, or for which there is no memory; or it wants none, and nothing is
-- asked for after it.
abbrev pub Closes : {S : Type 0} → Gives S → Turned → GiverView S → Turned → GiverView S → Type 0
Closes gives (Wants id began digest) g answer g2 =
    (GivesFile gives digest g given.NotGot g2 × (answer ≡ Wants id began digest))
    ⊎ (GivesFile gives digest g given.Memory g2 × (answer ≡ Memory))
Closes gives last g answer g2 = (g2 ≡ g) × (answer ≡ last)

-- Turns were made so, until one wanted no file, or one that didn't come.
pub record TurnsWithFiles {S : Type 0} (gives : Gives S) (at : When) (s : State) (d : Devices) (g : GiverView S) (answer : Turned)
    (s2 : State) (d2 : Devices) (g2 : GiverView S) : Type 0 where
  -- what the last turn came to, and what the giver told then
  pub last : Turned
  pub told : GiverView S
  pub turns : TurnsMade gives at s d g last s2 d2 told
  pub closes : Closes gives last told answer g2
