-- Words are ASCII.
use Rattle.std.proofs.Common.{◌≡◌, ℕ, ◌<◌, true, List, [], ◌∷◌, IsAscii, IsUtf8, arith}
use Rattle.std.proofs.lemmas.Bool.Decides.{nat_tests}
use Rattle.std.proofs.lemmas.Str.{IsUtf8-from_ascii}
use Rattle.std.proofs.lemmas.Str.Ascii.{IsAscii-nil, IsAscii-cons}
use Rattle.rel_lexer.specs.Bytes.{is_in_word}
use Rattle.rel_lexer.specs.Pieces.{Each}

in_word_ascii : (b : ℕ) → is_in_word b ≡ true → b < 128
in_word_ascii b h = grind (arith, nat_tests)

word_ascii : (bs : List ℕ) → Each is_in_word bs → IsAscii bs
word_ascii [] h = IsAscii-nil
word_ascii (b ∷ bs) h = IsAscii-cons b bs (in_word_ascii b h.0) (word_ascii bs h.1)

pub word_utf8 : (bs : List ℕ) → Each is_in_word bs → IsUtf8 bs
word_utf8 bs h = IsUtf8-from_ascii bs (word_ascii bs h)
