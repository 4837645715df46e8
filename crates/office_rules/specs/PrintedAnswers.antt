-- That what is printed of commands is what they were answered.
use Rattle.std.specs.Prelude.{◌≡◌, ℕ, ℤ, List, [], ◌∷◌, ◌++◌, Some, ⊤}
use Rattle.bf_machine.specs.Steps.{SameButPolls, Step, TakesAll, answered_in}
use Rattle.bf_machine.specs.Views.{MachineView}
use Rattle.agent_core.specs.declared.turned.Turned.{Turned}
use Rattle.turn_lines.specs.DoLines.{do_lines}
use Rattle.turn_lines.specs.TurnLines.{turn_line}
use Rattle.office_rules.specs.ComputerWords.{devices_of}
use Rattle.office_rules.specs.Offices.{PlayedComputer}

-- the worlds of each computer are the same but for polls left
abbrev pub AreAlike : List (List ℕ × PlayedComputer) → Type 0
AreAlike [] = ⊤
AreAlike (entry ∷ entries) = SameButPolls entry.1.world entry.1.again × AreAlike entries

-- Steps were taken at the moment on the machine of a computer, one after another, to a machine of its new world; and printed is what each
-- of their commands was answered, and then the line of the turns.
pub record PrintsAnswers (name : List ℕ) (moment : ℤ) (old : PlayedComputer) (said : List ℕ) (new : PlayedComputer) : Type 0 where
  pub steps : List Step
  pub machine : MachineView
  pub answer : Turned
  pub takes : TakesAll moment (devices_of old).machine steps machine
  pub world : machine.world ≡ Some new.world
  pub said_is : said ≡ do_lines (answered_in steps) ++ turn_line name moment answer
