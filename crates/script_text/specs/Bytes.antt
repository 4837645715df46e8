-- The bytes of a line of a script.
use Rattle.std.specs.Prelude.{◌≡◌, ◌≢◌, ℕ, Bool, true, false, not, ◌||◌, ◌==◌, List, [], ◌∷◌, ◌++◌, ⊤}
use Rattle.std.specs.List.{AllByRecursion}

-- space and tab
abbrev pub is_blank : ℕ → Bool
is_blank b = b == 32 || b == 9

-- any other byte
abbrev pub is_in_field : ℕ → Bool
is_in_field b = not (is_blank b)

-- each of these bytes passes the test
abbrev pub Each : (ℕ → Bool) → List ℕ → Type 0
Each test bytes = AllByRecursion (λ b. test b ≡ true) bytes

-- these bytes don't begin with one that passes the test
abbrev pub StopsAt : (ℕ → Bool) → List ℕ → Type 0
StopsAt test [] = ⊤
StopsAt test (b ∷ bs) = test b ≡ false

-- these bytes don't begin with this one
abbrev pub NotNext : ℕ → List ℕ → Type 0
NotNext b [] = ⊤
NotNext b (c ∷ cs) = c ≢ b

-- The text is cut before the first byte that fails the test.
pub record SplitsRun (test : ℕ → Bool) (text run rest : List ℕ) : Type 0 where
  pub splits : text ≡ run ++ rest
  pub passing : Each test run
  pub stops : StopsAt test rest
