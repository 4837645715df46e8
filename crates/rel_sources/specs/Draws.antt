-- What is held, and what drawing the next item does.
use Rattle.std.specs.Prelude.{◌≡◌, ℕ, List, [], ◌∷◌, ⊤}
use Rattle.rel_value.specs.Operands.{IsSound}
use Rattle.rel_value.specs.Views.{shown}
use Rattle.rel_sources.specs.declared.held.HeldItem.{HeldItem}
use Rattle.rel_sources.specs.declared.held.HeldItem.TheVariants as held
use Rattle.rel_sources.specs.declared.held.Drawn.{Drawn}
use Rattle.rel_sources.specs.declared.held.Drawn.TheVariants as drawn
use Rattle.rel_sources.specs.Traces.{Item, Absent, Present, Unfit}

abbrev pub item_in : HeldItem → Item
item_in held.Nothing = Absent
item_in (held.Value v) = Present (shown v)
item_in held.TooLong = Unfit

-- The next item is drawn, or there was none. Without memory all stays.
abbrev pub Draws : List Item → Drawn → List Item → Type 0
Draws old (drawn.Item item) new = old ≡ item_in item ∷ new
Draws old drawn.End new = (old ≡ []) × (new ≡ [])
Draws old drawn.Memory new = new ≡ old

-- A value of the item is sound.
abbrev pub IsSoundItem : Item → Type 0
IsSoundItem (Present v) = IsSound v
IsSoundItem _ = ⊤

-- how many values it gives
abbrev pub values_in : Item → ℕ
values_in (Present v) = 1
values_in _ = 0
