-- A run of bytes as a word or a number.
use Rattle.std.proofs.Common.{◌≡◌, ℕ, ◌+◌, ◌<◌, ◌≤◌, length, pos, Bool, true, List, [], ◌∷◌, map, Some, sym, subst, refl, ap, ◌∙◌, arith}
use Rattle.std.specs.Char.{is_ascii_digit, to_ascii_lowercase}
use Rattle.std.proofs.lemmas.Bool.{false≢true}
use Rattle.std.proofs.lemmas.Bool.Decides.{nat_tests}
use Rattle.rel_lexer.specs.declared.place.Place.{Place}
use Rattle.rel_lexer.specs.declared.token.TokenKind.TheVariants as kind
use Rattle.rel_lexer.specs.declared.error.LexError.TheVariants.{BadNumber}
use Rattle.rel_lexer.specs.Bytes.{begins_word, is_in_word, number_of, StopsAt}
use Rattle.rel_lexer.specs.Pieces.{word, number, Each}
use Rattle.rel_lexer.specs.Reads.{Begins, SplitsRun, Takes, Faults}

in_word : (b : ℕ) → begins_word b ≡ true → is_in_word b ≡ true
in_word b h = grind (arith, nat_tests)

-- a run has the first byte where that passes
pub record HasFirst (first test : ℕ → Bool) (run : List ℕ) : Type 0 where
  pub begins : Begins first run
  pub passing : Each test run

has_first : (first test : ℕ → Bool) → ((b : ℕ) → first b ≡ true → test b ≡ true) → (bytes run rest : List ℕ) → Begins first bytes → SplitsRun test bytes run rest → HasFirst first test run
has_first first test i [] run rest h s = absurd h
has_first first test i (b ∷ bs) [] rest h s = absurd (false≢true (sym (subst (λ l. StopsAt test l) (sym s.splits) s.stops) ∙ i b h))
has_first first test i (b ∷ bs) (r ∷ run) rest h s = record {
  begins = subst (λ x. first x ≡ true) (let e = s.splits in cc) h;
  passing = s.passing;
}

word_of : (bytes run rest : List ℕ) → HasFirst begins_word is_in_word run → SplitsRun is_in_word bytes run rest → Takes bytes (Some (kind.Word (map to_ascii_lowercase run))) rest
word_of bytes [] rest h s = absurd h.begins
word_of bytes (b ∷ bs) rest h s = record { piece = word b bs; splits = s.splits; stands = (h.begins, h.passing.1, s.stops); good = tt; kind_is = refl }

pub takes_word : (bytes run rest : List ℕ) → Begins begins_word bytes → SplitsRun is_in_word bytes run rest → Takes bytes (Some (kind.Word (map to_ascii_lowercase run))) rest
takes_word bytes run rest h s = word_of bytes run rest (has_first begins_word is_in_word in_word bytes run rest h s) s

number_taken : (bytes run rest : List ℕ) → HasFirst is_ascii_digit is_ascii_digit run → SplitsRun is_ascii_digit bytes run rest → number_of run ≤ 9223372036854775807 → Takes bytes (Some (kind.Number (pos (number_of run)))) rest
number_taken bytes [] rest h s n = absurd h.begins
number_taken bytes (b ∷ bs) rest h s n = record { piece = number b bs; splits = s.splits; stands = (h.begins, h.passing.1, s.stops); good = n; kind_is = refl }

pub takes_number : (bytes run rest : List ℕ) → Begins is_ascii_digit bytes → SplitsRun is_ascii_digit bytes run rest → number_of run ≤ 9223372036854775807 → Takes bytes (Some (kind.Number (pos (number_of run)))) rest
takes_number bytes run rest h s n = number_taken bytes run rest (has_first is_ascii_digit is_ascii_digit (λ b e. e) bytes run rest h s) s n

number_fault : (at : ℕ) (bytes run rest : List ℕ) (place : Place) → HasFirst is_ascii_digit is_ascii_digit run → SplitsRun is_ascii_digit bytes run rest → 9223372036854775807 < number_of run → place ≡ record { from = at; to = at + length run } → Faults at bytes (BadNumber place)
number_fault at bytes [] rest place h s n p = absurd h.begins
number_fault at bytes (b ∷ bs) rest place h s n p = record { piece = number b bs; rest = rest; splits = s.splits; stands = (h.begins, h.passing.1, s.stops); fault = (n, ap (λ x. BadNumber x) p) }

pub faults_number : (at : ℕ) (bytes run rest : List ℕ) (place : Place) → Begins is_ascii_digit bytes → SplitsRun is_ascii_digit bytes run rest → 9223372036854775807 < number_of run → place ≡ record { from = at; to = at + length run } → Faults at bytes (BadNumber place)
faults_number at bytes run rest place h s n p = number_fault at bytes run rest place (has_first is_ascii_digit is_ascii_digit (λ b e. e) bytes run rest h s) s n p
