-- What a turn comes to, and what saves and questions in it do.
use Rattle.std.specs.Prelude.{◌≡◌, ◌⊎◌}
use Rattle.bf_machine.specs.Views.{MachineView}
use Rattle.agent_text.specs.declared.pocket.SaveResult.{SaveResult}
use Rattle.agent_text.specs.Pockets.{PocketView, SavesTo}
use Rattle.agent_attempt.specs.declared.found.Found.{Found}
use Rattle.agent_attempt.specs.Relevance.{Asking}
use Rattle.agent_core.specs.declared.turned.Turned.{Turned}
use Rattle.agent_core.specs.declared.turned.Turned.TheVariants as turned
use Rattle.agent_state.specs.States.{State, text_of}
use Rattle.agent_core.specs.Devices.{Devices}

-- what a turn comes to: its answer, the state, and what the devices tell
abbrev pub Ending : Type 1
Ending = Turned → State → Devices → Type 0

-- the turn ends here with this answer
abbrev pub Answers : Turned → State → Devices → Ending
Answers would s d answer s2 d2 = (answer ≡ would) × (s2 ≡ s) × (d2 ≡ d)

-- want of memory may end the turn here, and then nothing has changed
abbrev pub OrMemory : State → Devices → Ending → Ending
OrMemory s d rest answer s2 d2 = Answers turned.Memory s d answer s2 d2 ⊎ rest answer s2 d2

-- The state is saved, and this comes after it.
abbrev pub SavesThen : State → Devices → (SaveResult → Devices → Ending) → Ending
SavesThen s d after answer s2 d2 =
    (result : SaveResult) × (pocket : PocketView) × SavesTo (text_of s) d.pocket result pocket
    × after result (record d { pocket = pocket }) answer s2 d2

-- Something is asked on the machine, and this comes after it.
abbrev pub TurnAsks : Asking → Devices → (Found → Devices → Ending) → Ending
TurnAsks ask d after answer s2 d2 =
    (found : Found) × (machine : MachineView) × ask d.machine found machine
    × after found (record d { machine = machine }) answer s2 d2
