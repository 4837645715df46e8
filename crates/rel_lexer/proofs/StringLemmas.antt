-- A string by its raw bytes.
use Rattle.std.proofs.Common.{◌≡◌, ℕ, ◌+◌, false, List, [], ◌∷◌, ◌++◌, length, Some, IsUtf8, sym, subst, refl, ap, ◌∙◌, append_assoc, arith}
use Rattle.std.proofs.lemmas.List.{append-nil}
use Rattle.std.proofs.lemmas.Bool.Decides.{nat_tests}
use Rattle.rel_lexer.specs.declared.place.Place.{Place}
use Rattle.rel_lexer.specs.declared.token.TokenKind.TheVariants as kind
use Rattle.rel_lexer.specs.declared.error.LexError.{LexError}
use Rattle.rel_lexer.specs.declared.error.LexError.TheVariants.{BadByte, BadEscape, UnclosedString, UnclosedComment, TooLong, BadNumber, Memory}
use Rattle.rel_lexer.specs.Bytes.{is_no_quote, decoded, NotNext, StopsAt}
use Rattle.rel_lexer.specs.Pieces.{string, open_string, bytes_of, Each}
use Rattle.rel_lexer.specs.Tokens.{IsFault}
use Rattle.rel_lexer.specs.Reads.{SplitsRun, Takes, Faults, Fails, FailsString}

splits_string : (bytes raw left rest : List ℕ) → bytes ≡ raw ++ left → left ≡ 34 ∷ rest → 34 ∷ bytes ≡ bytes_of (string raw) ++ rest
splits_string bytes raw left rest e i = ap (λ l. 34 ∷ l) (e ∙ ap (λ l. raw ++ l) i ∙ sym (append_assoc raw (34 ∷ []) rest))

pub takes_string : (bytes raw left rest text : List ℕ) → SplitsRun is_no_quote bytes raw left → left ≡ 34 ∷ rest → IsUtf8 raw → IsUtf8 (decoded raw) → text ≡ decoded raw → Takes (34 ∷ bytes) (Some (kind.Text text)) rest
takes_string bytes raw left rest text s e u d t = record { piece = string raw; splits = splits_string bytes raw left rest s.splits e; stands = s.passing; good = (u, d); kind_is = ap (λ l. Some (kind.Text l)) t }

string_fault : (at : ℕ) (bytes raw left rest : List ℕ) → SplitsRun is_no_quote bytes raw left → left ≡ 34 ∷ rest → (error : LexError) → IsFault at (string raw) error → Faults at (34 ∷ bytes) error
string_fault at bytes raw left rest s e error f = record { piece = string raw; rest = rest; splits = splits_string bytes raw left rest s.splits e; stands = s.passing; fault = f }

pub fails_string : (at : ℕ) (bytes raw left rest : List ℕ) → SplitsRun is_no_quote bytes raw left → left ≡ 34 ∷ rest → (error : LexError) → FailsString at raw error → Fails at (34 ∷ bytes) error
fails_string at bytes raw left rest s e Memory f = tt
fails_string at bytes raw left rest s e TooLong f = string_fault at bytes raw left rest s e TooLong f
fails_string at bytes raw left rest s e (BadByte p) f = string_fault at bytes raw left rest s e (BadByte p) f
fails_string at bytes raw left rest s e (BadEscape p) f = string_fault at bytes raw left rest s e (BadEscape p) f
fails_string at bytes raw left rest s e (UnclosedString p) f = string_fault at bytes raw left rest s e (UnclosedString p) f
fails_string at bytes raw left rest s e (UnclosedComment p) f = string_fault at bytes raw left rest s e (UnclosedComment p) f
fails_string at bytes raw left rest s e (BadNumber p) f = string_fault at bytes raw left rest s e (BadNumber p) f

is_quote : (b : ℕ) → is_no_quote b ≡ false → b ≡ 34
is_quote b h = grind (arith, nat_tests)

ends : (left : List ℕ) → StopsAt is_no_quote left → NotNext 34 left → left ≡ []
ends [] h n = refl
ends (b ∷ bs) h n = absurd (n (is_quote b h))

pub open_string_fault : (at : ℕ) (bytes raw left : List ℕ) (place : Place) → SplitsRun is_no_quote bytes raw left → NotNext 34 left → place ≡ record { from = at; to = at + (1 + length bytes) } → Faults at (34 ∷ bytes) (UnclosedString place)
open_string_fault at bytes raw left place s n p =
    let whole : bytes ≡ raw = s.splits ∙ ap (λ l. raw ++ l) (ends left s.stops n) ∙ append-nil raw in
    record { piece = open_string bytes; rest = []; splits = ap (λ l. 34 ∷ l) (sym (append-nil bytes)); stands = (subst (λ l. Each is_no_quote l) (sym whole) s.passing, refl); fault = ap (λ x. UnclosedString x) (p ∙ ap (λ n. record { from = at; to = at + n }) (omega arith)) }
