-- Lines, and places and pieces of texts.
use Rattle.std.specs.Prelude.{ℕ, zero, suc, ◌+◌, ◌==◌, nat_eq, if◌then◌else◌, List, [], ◌∷◌, ◌++◌, length, take, drop, map}
use Rattle.std.specs.declared.option.Option.{Option}
use Rattle.std.specs.declared.option.Option.TheVariants.{Some, None}
use Rattle.std.specs.Option.{option_map}
use Rattle.std.specs.List.{starts_with}
use Rattle.std.specs.Str.Lines.{lines}
use Rattle.std.specs.Str.Lossy.{utf8_valid_len}

-- `readable`, for at most so many wrong bytes
abbrev pub readable_within : ℕ → List ℕ → List ℕ
readable_within zero bytes = bytes
readable_within (suc wrong) bytes =
    if utf8_valid_len bytes == length bytes then bytes
    else take (utf8_valid_len bytes) bytes ++ (63 ∷ readable_within wrong (drop (utf8_valid_len bytes + 1) bytes))

-- the bytes as text, in which each wrong byte, the one behind the longest front that is UTF-8, is a `?`
unfoldable pub readable : List ℕ → List ℕ
readable bytes = readable_within (length bytes) bytes

-- The lines of a content as texts. It is split at each LF, a CR before an LF is dropped, and an empty last piece is no line.
unfoldable pub text_lines : List ℕ → List (List ℕ)
text_lines content = map readable (lines content)

-- at the front where the part stands there, and else at the later place
abbrev pub place_or : List ℕ → List ℕ → Option ℕ → Option ℕ
place_or part text later = if starts_with nat_eq text part then Some 0 else later

-- the leftmost place at which the part stands in the text
abbrev pub first_place : List ℕ → List ℕ → Option ℕ
first_place part [] = place_or part [] None
first_place part (x ∷ xs) = place_or part (x ∷ xs) (option_map suc (first_place part xs))

-- the later place where there is one, and else the front where the part stands there
abbrev pub or_front : List ℕ → List ℕ → Option ℕ → Option ℕ
or_front part text None = place_or part text None
or_front part text (Some place) = Some (suc place)

-- the rightmost place at which the part stands in the text
abbrev pub last_place : List ℕ → List ℕ → Option ℕ
last_place part [] = place_or part [] None
last_place part (x ∷ xs) = or_front part (x ∷ xs) (last_place part xs)

-- the piece before a separator that stands at this place, and those of what is behind it
abbrev pub cut_pieces : (List ℕ → List (List ℕ)) → List ℕ → List ℕ → Option ℕ → List (List ℕ)
cut_pieces more separator text None = text ∷ []
cut_pieces more separator text (Some place) = take place text ∷ more (drop (place + length separator) text)

-- the pieces between separators, of which there are at most so many
abbrev pub pieces_within : ℕ → List ℕ → List ℕ → List (List ℕ)
pieces_within zero separator text = text ∷ []
pieces_within (suc n) separator text = cut_pieces (pieces_within n separator) separator text (first_place separator text)

-- The pieces of a text between the separators, which are found from the left and don't overlap. An empty separator stands nowhere.
unfoldable pub pieces_by : List ℕ → List ℕ → List (List ℕ)
pieces_by [] text = text ∷ []
pieces_by (x ∷ xs) text = pieces_within (length text) (x ∷ xs) text

-- the pieces from a place of the text on, where there is one
abbrev pub pieces_from : List ℕ → List ℕ → Option ℕ → List (List ℕ)
pieces_from separator text None = []
pieces_from separator text (Some place) = pieces_by separator (drop place text)
