-- What asking for one file and supplying it comes to. Only a private function cites these definitions.
use Rattle.std.specs.Prelude.{◌≡◌, ℕ, List, Bool, Option}
use Rattle.agent_state.specs.Changes.{SuppliesState}
use Rattle.agent_state.specs.States.{State}
use Rattle.turn_lines.specs.declared.giver.Given.TheVariants as given
use Rattle.turn_lines.specs.declared.with_files.Fetched.{Fetched}
use Rattle.turn_lines.specs.declared.with_files.Fetched.TheVariants as fetched
use Rattle.turn_lines.specs.Givers.{Gives, GivesFile, GiverView}
use Rattle.turn_lines.specs.TurnsWithFiles.{given_of}

-- A giver was asked for a file. What came was supplied, whether it was wanted or not.
abbrev pub FetchesFile : {S : Type 0} → Gives S → List ℕ → State → GiverView S → Fetched → State → GiverView S → Type 0
FetchesFile gives digest s g fetched.Came s2 g2 =
    (bytes : Option (List ℕ)) × (taken : Bool) × GivesFile gives digest g (given_of bytes) g2
    × SuppliesState s digest bytes taken s2
FetchesFile gives digest s g fetched.NotGot s2 g2 = GivesFile gives digest g given.NotGot g2 × (s2 ≡ s)
FetchesFile gives digest s g fetched.Memory s2 g2 = GivesFile gives digest g given.Memory g2 × (s2 ≡ s)
