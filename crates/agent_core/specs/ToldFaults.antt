-- Faults of a machine, as turns tell them and as the machine counts them.
use Rattle.std.specs.Prelude.{◌≡◌, ℕ, ◌+◌, List, [], ◌∷◌, Some}
use Rattle.script_run.specs.declared.cause.Cause.{Cause}
use Rattle.script_run.specs.declared.cause.Cause.TheVariants as cause
use Rattle.agent_core.specs.declared.turned.Turned.{Turned}
use Rattle.agent_core.specs.declared.turned.Turned.TheVariants as turned
use Rattle.agent_core.specs.Calls.{Call, Does, MakesTurn, Point, turns}

-- one where the cause is a fault of the machine
abbrev pub fault_of : Cause → ℕ
fault_of cause.MachineFault = 1
fault_of other = 0

-- one where a look failed before an attempt began, or where an attempt ended by a fault of the machine
abbrev pub fault_told : Turned → ℕ
fault_told turned.MachineFault = 1
fault_told (turned.Ended id began outcome (Some fail)) = fault_of fail.cause
fault_told answer = 0

-- how many of these answers tell a fault
abbrev pub faults_told : List Turned → ℕ
faults_told [] = 0
faults_told (answer ∷ answers) = fault_told answer + faults_told answers

-- what a call does that makes no turn, and so doesn't use the machine
abbrev pub DoesBeside : Call → Point → Point → Type 0
DoesBeside call old new = Does call old.state old.saved new.state new.saved × (new.faults ≡ old.faults)

-- What calls do, one after another, with the answers of the turns among them. Each turn begins at the machine's count at which the one
-- before it ended.
abbrev pub DoAllCounted : List Call → Point → List Turned → Point → Type 0
DoAllCounted [] old answers new = (answers ≡ []) × (new ≡ old)
DoAllCounted (turns at ∷ calls) old [] new = ⊥
DoAllCounted (turns at ∷ calls) old (answer ∷ answers) new =
    (between : Point) × MakesTurn at old answer between × DoAllCounted calls between answers new
DoAllCounted (call ∷ calls) old answers new = (between : Point) × DoesBeside call old between × DoAllCounted calls between answers new
