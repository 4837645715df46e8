-- Pockets in memory, as contracts see them, and what a call does to them beyond what the trait says.
use Rattle.std.specs.Prelude.{◌≡◌, ℕ, ◌+◌, List, None, Some}
use Rattle.std.specs.declared.option.Option.{Option}
use Rattle.desk_base.specs.CallStates.{CallState, IsListed, no_calls}
use Rattle.desk_base.specs.MemoryStates.{Succeeds, Fails}
use Rattle.agent_text.specs.Pockets.{PocketView}
use Rattle.agent_text.specs.declared.pocket.Loaded.{Loaded}
use Rattle.agent_text.specs.declared.pocket.Loaded.TheVariants as loaded
use Rattle.agent_text.specs.declared.pocket.SaveResult.{SaveResult}
use Rattle.agent_text.specs.declared.pocket.SaveResult.TheVariants as save

-- what a pocket tells of which no call fails
abbrev pub sure_view : Option (List ℕ) → PocketView
sure_view saved = record { saved = Some saved; faults = 0 }

-- the saved text, if there is one, and the calls of each sort
pub record PocketState : Type 0 where
  pub text : Option (List ℕ)
  pub loads : CallState
  pub saves : CallState

-- a pocket without a text; the calls with these numbers are to fail
abbrev pub empty_pocket : List ℕ → List ℕ → PocketState
empty_pocket loads saves = record { text = None; loads = no_calls loads; saves = no_calls saves }

-- what it tells
abbrev pub pocket_view : PocketState → PocketView
pocket_view p = record { saved = Some p.text; faults = p.loads.faults + p.saves.faults }

-- A load fails exactly where it is listed.
abbrev pub LoadsMemory : PocketState → PocketState → Loaded → Type 0
LoadsMemory old new loaded.Failed =
    Fails old.loads new.loads × IsListed new.loads × (new.text ≡ old.text) × (new.saves ≡ old.saves)
LoadsMemory old new answer = Succeeds old.loads new.loads × (new.text ≡ old.text) × (new.saves ≡ old.saves)

-- A save fails exactly where it is listed, and then leaves the text.
abbrev pub SavesMemory : PocketState → PocketState → SaveResult → Type 0
SavesMemory old new save.Failed =
    Fails old.saves new.saves × IsListed new.saves × (new.text ≡ old.text) × (new.loads ≡ old.loads)
SavesMemory old new answer = Succeeds old.saves new.saves × (new.loads ≡ old.loads)
