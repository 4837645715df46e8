-- What the calls of a door in memory come down to.
use Rattle.std.proofs.Common.{◌≡◌, ℕ, ◌+◌, List, [], ◌∷◌, ◌++◌, Some, length, take, drop, refl, sym, arith, take-append-drop, append-nil}
use Rattle.std.proofs.lemmas.Grind.{common_steps}
use Rattle.desk_base.specs.Flow.{AppendsFront}
use Rattle.desk_door.specs.Doors.{here}

-- what is left begins with what was copied, and goes on behind it
pub left_after : (at n : ℕ) (bytes copied rest : List ℕ) → copied ≡ take n (drop at bytes) → length copied ≡ n → drop at bytes ≡ take n (copied ++ rest) ++ drop (at + n) bytes
left_after at n bytes copied rest is len = grind (arith, common_steps, take-append-drop n (drop at bytes))

-- where nothing was written, no byte of the piece was appended
pub nothing_added : (written : List (List ℕ)) (piece : List ℕ) → AppendsFront (here (Some written)) (here (Some written)) piece
nothing_added [] piece = tt
nothing_added (present ∷ before) piece = ([], piece, refl, sym (append-nil present))
