-- A place as it is written.
use Rattle.std.specs.Prelude.{ℕ, List, ◌++◌, codes, decimal}
use Rattle.rel_lexer.specs.declared.place.Place.{Place}

-- a place: the offset of its first byte, and of the byte behind its last
unfoldable pub place_text : Place → List ℕ
place_text place = codes "(" ++ decimal place.from ++ codes ".." ++ decimal place.to ++ codes ")"
