-- What a machine tells of itself, before and after a call. What it doesn't tell it goes on not to tell.
use Rattle.std.specs.Prelude.{◌≡◌, List, ◌++◌, None, Some}
use Rattle.std.specs.declared.option.Option.{Option}

-- P holds of what was told before and is told now.
abbrev pub Told : {T : Type 0} → Option T → Option T → (T → T → Type 0) → Type 0
Told None new P = new ≡ None
Told (Some before) None P = ⊥
Told (Some before) (Some now) P = P before now

-- A told list grows by these.
abbrev pub Grows : {T : Type 0} → Option (List T) → Option (List T) → List T → Type 0
Grows old new more = Told old new (λ before now. now ≡ before ++ more)
