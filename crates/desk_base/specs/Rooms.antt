-- Bytes with room for more, as contracts see them.
use Rattle.std.specs.Prelude.{◌≡◌, ℕ, ◌+◌, ◌≤◌, List, ◌++◌, length}

-- the bytes, and how many there is room for in all
pub record RoomState : Type 0 where
  pub bytes : List ℕ
  pub capacity : ℕ

-- there is room for so many bytes more
abbrev pub HasRoom : RoomState → ℕ → Type 0
HasRoom state more = length state.bytes + more ≤ state.capacity

-- These bytes were appended, and the room in all became no less.
abbrev pub Fills : RoomState → RoomState → List ℕ → Type 0
Fills old new more = (new.bytes ≡ old.bytes ++ more) × (old.capacity ≤ new.capacity)
