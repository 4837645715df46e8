-- What single bytes are in a text, and what the bytes of a number and of a string stand for.
use Rattle.std.specs.Prelude.{◌≡◌, ◌≢◌, ℕ, ◌+◌, ◌-◌, ◌*◌, Bool, true, false, ◌&&◌, ◌||◌, ◌==◌, if◌then◌else◌, List, [], ◌∷◌, ⊤}
use Rattle.std.specs.Char.{is_ascii_alphabetic, is_ascii_alphanumeric, is_ascii_hexdigit, digit_value}

-- space, tab, CR and LF
abbrev pub is_blank : ℕ → Bool
is_blank b = b == 32 || b == 9 || b == 13 || b == 10

-- a letter or `_`
abbrev pub begins_word : ℕ → Bool
begins_word b = is_ascii_alphabetic b || b == 95

-- a letter, a digit or `_`
abbrev pub is_in_word : ℕ → Bool
is_in_word b = is_ascii_alphanumeric b || b == 95

-- any byte but `"`
abbrev pub is_no_quote : ℕ → Bool
is_no_quote b = if b == 34 then false else true

-- these bytes don't begin with one that passes the test
abbrev pub StopsAt : (ℕ → Bool) → List ℕ → Type 0
StopsAt test [] = ⊤
StopsAt test (b ∷ bs) = test b ≡ false

-- these bytes don't begin with this one
abbrev pub NotNext : ℕ → List ℕ → Type 0
NotNext b [] = ⊤
NotNext b (c ∷ cs) = c ≢ b

-- `*/` stands nowhere in these bytes
abbrev pub HasNoClose : List ℕ → Type 0
HasNoClose [] = ⊤
HasNoClose (b ∷ bs) = (b ≡ 42 → NotNext 47 bs) × HasNoClose bs

-- the number whose decimal digits are those of n and then these
abbrev pub number_from : ℕ → List ℕ → ℕ
number_from n [] = n
number_from n (b ∷ bs) = number_from (10 * n + (b - 48)) bs

-- the number of these decimal digits
abbrev pub number_of : List ℕ → ℕ
number_of digits = number_from 0 digits

-- what a string's bytes stand for: `%` and two hexadecimal digits for that byte, any other byte for itself
unfoldable mutual
  pub decoded : List ℕ → List ℕ
  decoded [] = []
  decoded (b ∷ []) = b ∷ []
  decoded (b ∷ c ∷ []) = b ∷ c ∷ []
  decoded (b ∷ c ∷ d ∷ bs) =
      if b == 37 && is_ascii_hexdigit c && is_ascii_hexdigit d then (16 * digit_value c + digit_value d) ∷ decoded bs
      else b ∷ decoded (c ∷ d ∷ bs)
