-- What a giver of files tells of itself, and what asking it for files does.
use Rattle.std.specs.Prelude.{◌≡◌, ℕ, List, [], ◌∷◌, ◌++◌}
use Rattle.turn_lines.specs.declared.giver.FileAsked.{FileAsked}
use Rattle.turn_lines.specs.declared.giver.Given.{Given}

-- each digest that it was asked for with its answer, and what it tells of where its files come from
pub record GiverView (S : Type 0) : Type 0 where
  pub asked : List FileAsked
  pub source : S

-- how files come from a source: from one state of it to another, asked for a digest and answered so
abbrev pub Gives : Type 0 → Type 1
Gives S = S → List ℕ → Given → S → Type 0

-- a file that was asked for, and what came
abbrev pub file : List ℕ → Given → FileAsked
file digest answer = record { digest = digest; answer = answer }

-- A giver was asked for the file of this digest, and answered so.
pub record GivesFile {S : Type 0} (gives : Gives S) (digest : List ℕ) (old : GiverView S) (answer : Given) (new : GiverView S)
    : Type 0 where
  pub asked : new.asked ≡ old.asked ++ file digest answer ∷ []
  pub source : gives old.source digest answer new.source

module _ {S : Type 0} (gives : Gives S) where
  -- A giver was asked for these files, one after another, and for no other.
  abbrev pub GivesAll : GiverView S → List FileAsked → GiverView S → Type 0
  GivesAll old [] new = new ≡ old
  GivesAll old (asked ∷ files) new =
      (between : GiverView S) × GivesFile gives asked.digest old asked.answer between × GivesAll between files new
