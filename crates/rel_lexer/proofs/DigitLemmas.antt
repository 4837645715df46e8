-- Reading a number digit by digit.
use Rattle.std.proofs.Common.{◌≡◌, ℕ, ◌+◌, ◌-◌, ◌*◌, ◌<◌, ◌≤◌, List, [], ◌∷◌, arith, subst}
use Rattle.std.specs.Char.{is_ascii_digit}
use Rattle.rel_lexer.specs.Bytes.{number_from, number_of}
use Rattle.rel_lexer.specs.Pieces.{Each}

number_from-grows : (n : ℕ) (ds : List ℕ) → n ≤ number_from n ds
number_from-grows n [] = omega arith
number_from-grows n (d ∷ ds) = omega (arith, number_from-grows (10 * n + (d - 48)) ds)

-- how far the number has been read
pub record ReadSoFar (digits : List ℕ) (number : ℕ) (rest : List ℕ) : Type 0 where
  pub same : number_from number rest ≡ number_of digits
  pub are_digits : Each is_ascii_digit rest
  pub fits : number ≤ 9223372036854775807

pub too_large : (digits : List ℕ) (number d : ℕ) (rest more : List ℕ) → ReadSoFar digits number rest → rest ≡ d ∷ more → 9223372036854775807 < 10 * number + (d - 48) → 9223372036854775807 < number_of digits
too_large digits number d rest more r e h =
    let same : number_from (10 * number + (d - 48)) more ≡ number_of digits = subst (λ l. number_from number l ≡ number_of digits) e r.same in
    omega (arith, same, number_from-grows (10 * number + (d - 48)) more)
