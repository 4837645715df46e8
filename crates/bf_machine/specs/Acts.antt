-- What an act does.
use Rattle.std.specs.Prelude.{◌≡◌, ℕ, ◌+◌, ◌≤◌, ℤ, ◌⊎◌, List, [], ◌∷◌}
use Rattle.desk_base.specs.Counts.{CountsFaults}
use Rattle.bf_world.specs.declared.command.Command.{Command}
use Rattle.bf_world.specs.declared.command.Acted.{Acted}
use Rattle.bf_world.specs.declared.command.Acted.TheVariants as of_act
use Rattle.bf_world.specs.Done.{done, FitsCommand, StartsByStart}
use Rattle.bf_world.specs.Worlds.{WorldState}
use Rattle.bf_machine.specs.Told.{Told, Grows}
use Rattle.bf_machine.specs.Views.{MachineView}

-- A failed act was done or left the world, and one without memory left it. Any other gives the command's answer
-- and world.
abbrev pub Acts : WorldState → WorldState → Command → ℤ → Acted → Type 0
Acts old new command moment of_act.Failed = (new ≡ old) ⊎ (new ≡ (done old command moment).after)
Acts old new command moment of_act.Memory = new ≡ old
Acts old new command moment answer = done old command moment ≡ record { answer = answer; after = new }

-- the commands that an act adds: its own where it is done, started or refused
abbrev pub commands_added : Command → Acted → List Command
commands_added command of_act.Failed = []
commands_added command of_act.Memory = []
commands_added command answer = command ∷ []

-- A program that is started gets the number of those before it. A failed act may have started one.
abbrev pub CountsStarted : ℕ → ℕ → Acted → Type 0
CountsStarted old new (of_act.Started process) = (process ≡ record { 0 = old }) × (new ≡ old + 1)
CountsStarted old new of_act.Failed = (old ≤ new) × (new ≤ old + 1)
CountsStarted old new answer = new ≡ old

-- A command was answered so, at this moment.
pub record ActsOn (moment : ℤ) (command : Command) (old : MachineView) (answer : Acted) (new : MachineView) : Type 0 where
  pub world : Told old.world new.world (λ before now. Acts before now command moment answer)
  pub fits : FitsCommand command answer
  pub looked : new.looked ≡ old.looked
  pub acted : Grows old.acted new.acted (commands_added command answer)
  pub polled : new.polled ≡ old.polled
  pub started : CountsStarted old.started new.started answer
  pub by_start : StartsByStart command old.started new.started
  pub counts : CountsFaults (answer ≡ of_act.Failed) old.faults new.faults
  pub holds : new.holds ≡ old.holds
