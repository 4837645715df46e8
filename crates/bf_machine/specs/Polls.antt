-- What a poll does.
use Rattle.std.specs.Prelude.{◌≡◌, ℕ, List, [], ◌∷◌, Some}
use Rattle.desk_base.specs.Counts.{CountsFaults}
use Rattle.bf_world.specs.declared.command.Polled.{Polled}
use Rattle.bf_world.specs.declared.command.Polled.TheVariants.{Failed}
use Rattle.bf_world.specs.Polled.{polled}
use Rattle.bf_world.specs.Worlds.{WorldState}
use Rattle.bf_machine.specs.Told.{Told, Grows}
use Rattle.bf_machine.specs.Views.{MachineView}

-- A failed poll leaves the world, and any other gives the program's answer and world.
abbrev pub Polls : WorldState → WorldState → ℕ → Polled → Type 0
Polls old new number Failed = new ≡ old
Polls old new number answer = polled old number ≡ Some (record { answer = answer; after = new })

-- the numbers that a poll adds: its own where it answers, whatever it answers
abbrev pub numbers_added : ℕ → Polled → List ℕ
numbers_added number Failed = []
numbers_added number answer = number ∷ []

-- A poll of the program of this number was answered so.
pub record PollsOn (number : ℕ) (old : MachineView) (answer : Polled) (new : MachineView) : Type 0 where
  pub world : Told old.world new.world (λ before now. Polls before now number answer)
  pub looked : new.looked ≡ old.looked
  pub acted : new.acted ≡ old.acted
  pub polled : Grows old.polled new.polled (numbers_added number answer)
  pub started : new.started ≡ old.started
  pub counts : CountsFaults (answer ≡ Failed) old.faults new.faults
  pub holds : new.holds ≡ old.holds
