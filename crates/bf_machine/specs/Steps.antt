-- What is done on a machine at one moment, step by step, and what commands are answered in a world, one after another.
use Rattle.std.specs.Prelude.{◌≡◌, ℕ, ◌-◌, ◌^◌, ◌<◌, ℤ, List, [], ◌∷◌, ◌++◌, map, Some}
use Rattle.bf_world.specs.declared.parts.Run.{Run}
use Rattle.bf_world.specs.declared.command.Command.{Command}
use Rattle.bf_world.specs.declared.command.Acted.{Acted}
use Rattle.bf_world.specs.declared.command.Polled.{Polled}
use Rattle.bf_world.specs.Done.{done}
use Rattle.bf_world.specs.Worlds.{WorldState}
use Rattle.bf_machine.specs.Told.{Grows}
use Rattle.bf_machine.specs.Views.{MachineView, OnlyLooks}
use Rattle.bf_machine.specs.Acts.{ActsOn, commands_added}
use Rattle.bf_machine.specs.Polls.{PollsOn}

-- things were looked up; a command was answered so; a poll of the program of this number was answered so
pub data Step : Type 0 where
  Looking : Step
  Acting : (command : Command) (answer : Acted) → Step
  Polling : (number : ℕ) (answer : Polled) → Step

-- A step was taken at this moment.
abbrev pub Takes : ℤ → MachineView → Step → MachineView → Type 0
Takes moment old Looking new = OnlyLooks old new
Takes moment old (Acting command answer) new = ActsOn moment command old answer new
Takes moment old (Polling number answer) new = PollsOn number old answer new

-- Steps were taken at this moment, one after another.
abbrev pub TakesAll : ℤ → MachineView → List Step → MachineView → Type 0
TakesAll moment old [] new = new ≡ old
TakesAll moment old (step ∷ steps) new = (between : MachineView) × Takes moment old step between × TakesAll moment between steps new

-- No call failed: the count isn't at its last value, and stands still.
pub record Steady (old new : MachineView) : Type 0 where
  pub below : old.faults < 2 ^ 64 - 1
  pub still : new.faults ≡ old.faults

-- a command, and what it was answered
pub record Answered : Type 0 where
  pub command : Command
  pub answer : Acted

abbrev pub answered : Command → Acted → Answered
answered command answer = record { command = command; answer = answer }

-- the commands of these
abbrev pub commands_of : List Answered → List Command
commands_of answers = map (λ (a : Answered). a.command) answers

-- the command of a step that was done, started or refused, with its answer
abbrev pub answered_by : Step → List Answered
answered_by Looking = []
answered_by (Acting command answer) = map (λ c. answered c answer) (commands_added command answer)
answered_by (Polling number answer) = []

-- those of steps, in their order
abbrev pub answered_in : List Step → List Answered
answered_in [] = []
answered_in (step ∷ steps) = answered_by step ++ answered_in steps

-- what commands are answered at a moment in a world, one after another
abbrev pub answers_from : ℤ → WorldState → List Command → List Answered
answers_from moment w [] = []
answers_from moment w (command ∷ commands) =
    answered command (done w command moment).answer ∷ answers_from moment (done w command moment).after commands

-- the world after them
abbrev pub world_after : ℤ → WorldState → List Command → WorldState
world_after moment w [] = w
world_after moment w (command ∷ commands) = world_after moment (done w command moment).after commands

-- The second world is the first but for the polls that are left of the programs that were started.
pub record SameButPolls (w other : WorldState) : Type 0 where
  pub rest : other ≡ record w { started = other.started }
  pub exits : map (λ (run : Run). run.exit) other.started ≡ map (λ (run : Run). run.exit) w.started

-- From one view to the other these commands were done and answered so, each as in this world, one after another, and the machine's world
-- is this one after them but for polls left.
pub record AnswersAs (moment : ℤ) (old : MachineView) (did : List Answered) (new : MachineView) (w : WorldState) : Type 0 where
  pub acted : Grows old.acted new.acted (commands_of did)
  pub answers : did ≡ answers_from moment w (commands_of did)
  pub world : WorldState
  pub told : new.world ≡ Some world
  pub same : SameButPolls world (world_after moment w (commands_of did))
