-- What a stop at any moment leaves: attempts whose rows are saved, and rows each of which began when a run was owed.
use Rattle.std.specs.Prelude.{◌≡◌, ◌⊎◌, ℕ, ◌≤◌, List, length, All, Option, Some, None, Ok, ⊤}
use Rattle.desk_base.specs.Counts.{CountsFaults, Rose}
use Rattle.act_rules.specs.declared.rule.Rules.{Rules}
use Rattle.act_rules.specs.Lawful as rows
use Rattle.fix_site.specs.declared.action.Action.{Action}
use Rattle.agent_text.specs.declared.saved.Saved.{Saved}
use Rattle.agent_text.specs.Histories.{PlainHistory, rows_at}
use Rattle.agent_text.specs.Pockets.{Holds}
use Rattle.agent_text.specs.SavedTexts.{ReadsSaved}
use Rattle.agent_attempt.specs.Attempts.{PlainAttempt, StageWaitsBelow}
use Rattle.agent_core.specs.Devices.{Devices}
use Rattle.agent_core.specs.declared.turned.Turned.{Turned}
use Rattle.agent_core.specs.declared.turned.Turned.TheVariants as turned
use Rattle.agent_state.specs.States.{State, next_row}

-- the text is what was saved of this, in either form
abbrev pub IsTextOfSaved : List ℕ → Saved → Type 0
IsTextOfSaved text saved = ReadsSaved saved.computer text (Ok saved)

-- ---- backed attempts
-- the saved text has the row of this action and number
abbrev pub HasRow : ℕ → ℕ → Option (List ℕ) → Type 0
HasRow action number None = ⊥
HasRow action number (Some text) = (saved : Saved) × IsTextOfSaved text saved × (number ≤ length (rows_at action saved.histories))

-- an attempt is backed where the saved text has the row of its action and number
abbrev pub IsBacked : PlainAttempt → Option (Option (List ℕ)) → Type 0
IsBacked attempt told = Holds told (HasRow attempt.action.id attempt.row)

-- An agent and a pocket agree where the attempt that is held, if one is, is backed.
abbrev pub Agrees : Option PlainAttempt → Option (Option (List ℕ)) → Type 0
Agrees None told = ⊤
Agrees (Some attempt) told = IsBacked attempt told

-- The attempt of a turn, of this action and number: the one that was held before it, or one that began in it,
-- whose row is the next of its action, which has that many rows now.
abbrev pub IsOfTurn : ℕ → ℕ → State → State → Type 0
IsOfTurn action number old new =
    ((attempt : PlainAttempt) × (old.held ≡ Some attempt) × (attempt.action.id ≡ action) × (attempt.row ≡ number))
    ⊎ ((old.held ≡ None) × (number ≡ next_row action old.histories) × (length (rows_at action new.histories) ≡ number))

-- the attempt of a turn is backed after it
abbrev pub TurnIsBacked : State → State → Option (Option (List ℕ)) → Type 0
TurnIsBacked old new told =
    (action : ℕ) × (number : ℕ) × IsOfTurn action number old new × Holds told (HasRow action number)

-- ---- lawful rows
-- the rules of each action, which stay the same from version to version
abbrev pub Table : Type 0
Table = ℕ → Rules

-- the gathered actions have these rules
abbrev pub HaveRules : Table → List Action → Type 0
HaveRules table actions = All (λ action. action.rules ≡ table action.id) actions

-- each row of each action began when the rows before it, as they stand, owed a run
abbrev pub AreLawful : Table → List PlainHistory → Type 0
AreLawful table hs = All (λ h. rows.AreLawful (table h.action) h.rows) hs

-- the rows of the saved text are lawful
abbrev pub AreLawfulIn : Table → Option (List ℕ) → Type 0
AreLawfulIn table None = ⊤
AreLawfulIn table (Some text) = (saved : Saved) → IsTextOfSaved text saved → AreLawful table saved.histories

-- the rows of the agent and of its pocket are lawful
abbrev pub BothLawful : Table → State → Option (Option (List ℕ)) → Type 0
BothLawful table s told = AreLawful table s.histories × Holds told (AreLawfulIn table)

-- ---- causes
-- the number of the program that the held attempt waits for, if it waits for one, is below that of the programs started so far
abbrev pub HeldWaitsBelow : ℕ → Option PlainAttempt → Type 0
HeldWaitsBelow started None = ⊤
HeldWaitsBelow started (Some attempt) = StageWaitsBelow started attempt.stage

-- The machine's count rose where the turn ends by its fault, and stayed where its answer is Idle or Interrupted. Where an attempt went
-- on, a fault is a failure of the attempt.
abbrev pub MachineHasCause : ℕ → ℕ → Turned → Type 0
MachineHasCause old new turned.MachineFault = Rose old new
MachineHasCause old new turned.Idle = new ≡ old
MachineHasCause old new (turned.Interrupted id) = new ≡ old
MachineHasCause old new answer = old ≤ new

-- A fault is shown by its device's count: the pocket's rose where the turn ends by its fault, and else it stayed.
pub record TurnHasCause (old : Devices) (answer : Turned) (new : Devices) : Type 0 where
  pub machine : MachineHasCause old.machine.faults new.machine.faults answer
  pub pocket : CountsFaults (answer ≡ turned.PocketFault) old.pocket.faults new.pocket.faults
