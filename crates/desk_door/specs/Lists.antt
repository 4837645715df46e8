-- What a door or a link tells or doesn't tell. What isn't told goes on not to be.
use Rattle.std.specs.Prelude.{List, [], ◌∷◌, ◌++◌, None, Some}
use Rattle.std.specs.declared.option.Option.{Option}

-- one more before a told list
abbrev pub with_first : {T : Type 0} → T → Option (List T) → Option (List T)
with_first item None = None
with_first item (Some items) = Some (item ∷ items)

-- one more behind a told list
abbrev pub with_last : {T : Type 0} → T → Option (List T) → Option (List T)
with_last item None = None
with_last item (Some items) = Some (items ++ item ∷ [])

-- the next one in the place of a told one, or of none
abbrev pub with_next : {T : Type 0} → T → Option (Option T) → Option (Option T)
with_next item None = None
with_next item (Some before) = Some (Some item)
