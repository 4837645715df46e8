-- Tokens written one after another, with a blank where two would run together. Only private functions cite it.
-- A pen is the text so far and the kind of its last token.
use Rattle.std.specs.Prelude.{ℕ, ℤ, Bool, true, false, ◌&&◌, ◌==◌, if◌then◌else◌, List, [], ◌∷◌, ◌++◌, codes}
use Rattle.std.specs.Char.{is_ascii_hexdigit}
use Rattle.std.specs.Fmt.{signed_decimal}
use Rattle.rel_lexer.specs.declared.sign.Sign.{Sign}
use Rattle.rel_lexer.specs.declared.sign.Sign.TheVariants.{Less, Greater, Slash, Equal, Times}
use Rattle.rel_lexer.specs.Signs.{spelling}
use Rattle.rel_print.specs.declared.pen.Last.{Last}
use Rattle.rel_print.specs.declared.pen.Last.TheVariants as last
use Rattle.rel_print.specs.declared.pen.Pen.{Pen}

abbrev pub is_equal : Sign → Bool
is_equal Equal = true
is_equal _ = false

abbrev pub is_times : Sign → Bool
is_times Times = true
is_times _ = false

-- Two signs together begin a longer sign or a comment.
abbrev pub join_signs : Sign → Sign → Bool
join_signs Less next = is_equal next
join_signs Greater next = is_equal next
join_signs Slash next = is_times next
join_signs _ next = false

-- A token of the second kind runs together with one of the first, if no blank stands between them.
abbrev pub run_together : Last → Last → Bool
run_together last.Word last.Word = true
run_together last.Word last.Number = true
run_together last.Word _ = false
run_together last.Number last.Number = true
run_together last.Number _ = false
run_together (last.Sign s) (last.Sign t) = join_signs s t
run_together (last.Sign s) _ = false
run_together last.Other _ = false

-- the blank that is needed, if one is
abbrev pub gap : Bool → List ℕ
gap true = 32 ∷ []
gap false = []

-- a pen that has written nothing
abbrev pub blank_page : Pen
blank_page = record { text = []; last = last.Other }

-- the pen after one more token, of this kind and with these bytes
abbrev pub put : Last → List ℕ → Pen → Pen
put next bytes pen = record { text = (pen.text ++ gap (run_together pen.last next)) ++ bytes; last = next }

-- words that one blank joins
abbrev pub put_words : List ℕ → Pen → Pen
put_words words pen = put last.Word words pen

abbrev pub put_number : ℤ → Pen → Pen
put_number n pen = put last.Number (signed_decimal n) pen

abbrev pub put_sign : Sign → Pen → Pen
put_sign s pen = put (last.Sign s) (spelling s) pen

-- These bytes begin with two hexadecimal digits.
abbrev pub begins_hex : List ℕ → Bool
begins_hex [] = false
begins_hex (b ∷ []) = false
begins_hex (b ∷ c ∷ bs) = is_ascii_hexdigit b && is_ascii_hexdigit c

-- each `"` as `%22`, as the code does to what stands between two `%`
abbrev pub quotes_escaped : List ℕ → List ℕ
quotes_escaped [] = []
quotes_escaped (b ∷ bs) = (if b == 34 then codes "%22" else b ∷ []) ++ quotes_escaped bs

-- a `%`, before these bytes
abbrev pub percent : List ℕ → List ℕ
percent bs = if begins_hex bs then codes "%25" else 37 ∷ []

-- each `"` as `%22`, and each `%` that two hexadecimal digits follow as `%25`
abbrev pub escaped : List ℕ → List ℕ
escaped [] = []
escaped (b ∷ bs) = (if b == 34 then codes "%22" else (if b == 37 then percent bs else b ∷ [])) ++ escaped bs

-- a string between its quotes
abbrev pub put_string : List ℕ → Pen → Pen
put_string text pen = put last.Other (34 ∷ (escaped text ++ 34 ∷ [])) pen
