-- What reading a source to its end does. Bytes that were taken before a failure stay taken.
use Rattle.std.specs.Prelude.{◌+◌, ◌<◌, ◌≤◌, ⊤, ℕ, List, length}
use Rattle.std.specs.declared.option.Option.{Option}
use Rattle.std.specs.Io.KnownBytes.{Consumes, IsAtEnd}
use Rattle.desk_base.specs.Counts.{CountsAtMost}
use Rattle.desk_base.specs.declared.whole.Whole.{Whole}
use Rattle.desk_base.specs.declared.whole.Whole.TheVariants.{Read, TooLong, Failed, Memory}

-- Some bytes were taken, of which P holds.
abbrev pub Took : Option (List ℕ) → Option (List ℕ) → (List ℕ → Type 0) → Type 0
Took old new P = (taken : List ℕ) × Consumes old new taken × P taken

-- Some bytes were taken, of which P holds, and nothing is left.
abbrev pub TookAll : Option (List ℕ) → Option (List ℕ) → (List ℕ → Type 0) → Type 0
TookAll old new P = (taken : List ℕ) × Consumes old new taken × IsAtEnd new × P taken

-- All of at most `limit` bytes was read, or more than that was taken, or at most that until something failed.
abbrev pub ReadsAll : Option (List ℕ) → Option (List ℕ) → ℕ → Whole → Type 0
ReadsAll old new limit (Read bytes) = Consumes old new bytes × IsAtEnd new × (length bytes ≤ limit)
ReadsAll old new limit TooLong = Took old new (λ taken. limit < length taken)
ReadsAll old new limit Failed = Took old new (λ taken. length taken ≤ limit)
ReadsAll old new limit Memory = Took old new (λ taken. length taken ≤ limit)

-- Nothing was read behind the end: each read gave a byte at least, but for the one that found the end.
abbrev pub StopsAtEnd : Option ℕ → Option ℕ → Whole → Type 0
StopsAtEnd old new (Read bytes) = CountsAtMost old new (length bytes + 1)
StopsAtEnd old new _ = ⊤
