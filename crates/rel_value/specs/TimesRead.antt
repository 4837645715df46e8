-- The moment of a time text: the one whose time text it is at some offset.
use Rattle.std.specs.Prelude.{ℕ, zero, suc, ◌+◌, ◌^◌, ℤ, pos, ◌-ℤ◌, Bool, false, ◌||◌, nat_eq, if◌then◌else◌, List, Option, Some, None}
use Rattle.std.specs.Cmp.Lexicographic.{pointwise}
use Rattle.rel_value.specs.Spellings.{time_text}

-- it is the moment's time text at one of the first so many offsets from -840 on
unfoldable pub is_time_text : ℕ → ℕ → List ℕ → Bool
is_time_text zero moment text = false
is_time_text (suc n) moment text =
    pointwise nat_eq (time_text (pos moment) (pos n -ℤ pos 840)) text || is_time_text n moment text

-- the moment below such a number whose time text it is at an offset from -840 to 840
unfoldable pub time_below : ℕ → List ℕ → Option ℕ
time_below zero text = None
time_below (suc n) text = if is_time_text 1681 n text then Some n else time_below n text

-- moments go up to 2^37
unfoldable pub time_of : List ℕ → Option ℕ
time_of text = time_below (2 ^ 37 + 1) text
