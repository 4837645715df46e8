-- What is printed of a question: its line, its values, and its error.
use Rattle.std.specs.Prelude.{◌/◌, ◌%◌, ◌++◌, ◌||◌, ◌==◌, ℕ, nat_lt, List, ◌∷◌, [], if◌then◌else◌, codes, flat_map, slice_index}
use Rattle.rel_lexer.specs.declared.place.Place.{Place}
use Rattle.rel_trace.specs.declared.kind.RelKind.{RelKind}
use Rattle.rel_eval.specs.PlaceTexts.{place_text}
use Rattle.rel_session.specs.Errors.{error_text, undefined_text}

-- the hexadecimal digit of a number from 0 to 15, in lower case
abbrev pub hex_digit : ℕ → ℕ
hex_digit digit = slice_index (codes "0123456789abcdef") digit

-- a byte of an answer: one below 32, and 127, stands as `%` and two hexadecimal digits
abbrev pub printed_byte : ℕ → List ℕ
printed_byte byte = if nat_lt byte 32 || byte == 127 then 37 ∷ hex_digit (byte / 16) ∷ hex_digit (byte % 16) ∷ [] else byte ∷ []

-- an answer's text as it is printed
abbrev pub printed : List ℕ → List ℕ
printed text = flat_map printed_byte text

-- a line of the input, echoed
unfoldable pub said_question : List ℕ → List ℕ
said_question line = codes "Q: " ++ line ++ codes "\n"

-- a value with this text
unfoldable pub said_value : List ℕ → List ℕ
said_value text = codes "A: " ++ printed text ++ codes "\n"

-- the place where an error arose, behind the error's text
unfoldable pub said_place : Place → List ℕ
said_place place = codes " " ++ place_text place ++ codes "\n"

-- an error, and the place where it arose
unfoldable pub said_error : RelKind → Place → List ℕ
said_error kind place = codes "E: " ++ error_text kind ++ said_place place

-- that nothing is defined of some words, and their place
unfoldable pub said_undefined : Place → List ℕ → List ℕ
said_undefined place words = codes "E: " ++ undefined_text words ++ said_place place

-- that a look failed, and the place of what asked for it
unfoldable pub said_fault : Place → List ℕ
said_fault place = codes "E: The machine could not answer." ++ said_place place

-- that a question is paused
unfoldable pub said_more : List ℕ
said_more = codes "M: more\n"

-- what is said of a line that begins with `:` and is no command
unfoldable pub said_no_command : List ℕ
said_no_command = codes "E: This is no command.\n"

-- what is said where no question is paused
unfoldable pub said_nothing_paused : List ℕ
said_nothing_paused = codes "E: Nothing is paused.\n"
