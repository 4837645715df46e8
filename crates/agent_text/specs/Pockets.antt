-- What a pocket tells of itself, and what a load and a save do.
use Rattle.std.specs.Prelude.{◌≡◌, ◌⊎◌, ℕ, List, ⊤, None, Some}
use Rattle.std.specs.declared.option.Option.{Option}
use Rattle.desk_base.specs.Counts.{CountsFaults}
use Rattle.agent_text.specs.declared.pocket.Loaded.{Loaded}
use Rattle.agent_text.specs.declared.pocket.Loaded.TheVariants as loaded
use Rattle.agent_text.specs.declared.pocket.SaveResult.{SaveResult}
use Rattle.agent_text.specs.declared.pocket.SaveResult.TheVariants as save

-- the saved text, or that there is none, where it tells that, and its count of faults
pub record PocketView : Type 0 where
  pub saved : Option (Option (List ℕ))
  pub faults : ℕ

-- P holds of the saved text, or of there being none, where that is told.
abbrev pub Holds : Option (Option (List ℕ)) → (Option (List ℕ) → Type 0) → Type 0
Holds None P = ⊤
Holds (Some saved) P = P saved

-- Nothing is answered only where no text is saved, and a text only where it is the saved one.
abbrev pub Loads : Option (Option (List ℕ)) → Loaded → Type 0
Loads told loaded.Nothing = Holds told (λ saved. saved ≡ None)
Loads told (loaded.Saved text) = Holds told (λ saved. saved ≡ Some text)
Loads told _ = ⊤

-- P holds of what was saved before and what is saved now, where that is told. What isn't told goes on not to be.
abbrev pub Changes : Option (Option (List ℕ)) → Option (Option (List ℕ)) → (Option (List ℕ) → Option (List ℕ) → Type 0) → Type 0
Changes None new P = new ≡ None
Changes (Some before) None P = ⊥
Changes (Some before) (Some now) P = P before now

-- A save that is done makes the text the saved one. One that fails leaves the old one or makes the new one, and one without
-- memory leaves the old one.
abbrev pub SavedAs : List ℕ → SaveResult → Option (List ℕ) → Option (List ℕ) → Type 0
SavedAs text save.Done before now = now ≡ Some text
SavedAs text save.Failed before now = (now ≡ before) ⊎ (now ≡ Some text)
SavedAs text save.Memory before now = now ≡ before

-- the same of what is told
abbrev pub Saves : List ℕ → SaveResult → Option (Option (List ℕ)) → Option (Option (List ℕ)) → Type 0
Saves text result old new = Changes old new (SavedAs text result)

-- A load was answered so.
pub record LoadsFrom (old : PocketView) (answer : Loaded) (new : PocketView) : Type 0 where
  pub loads : Loads old.saved answer
  pub saved : new.saved ≡ old.saved
  pub counts : CountsFaults (answer ≡ loaded.Failed) old.faults new.faults

-- A save of this text was answered so.
pub record SavesTo (text : List ℕ) (old : PocketView) (answer : SaveResult) (new : PocketView) : Type 0 where
  pub saves : Saves text answer old.saved new.saved
  pub counts : CountsFaults (answer ≡ save.Failed) old.faults new.faults
