-- String literals in expressions.
use Rattle.std.proofs.Common.{suc, zero, ◌≡◌, ℕ, ◌+◌, ◌<◌, ◌≤◌, Bool, true, false, not, cond, List, [], ◌∷◌, ◌++◌, length, get_or, take, drop, refl, sym, ap, subst, ◌∙◌, arith, add-one}
use Rattle.std.specs.Prelude.{nat_eq}
use Rattle.std.specs.Bool.{beq}
use Rattle.std.proofs.Math.Seq.{take-suc, split_at}
use Rattle.script_text.specs.Templates.{turned, in_literal, NoneEnds, HasNoEnd, EndsExpression}

pub none-snoc : (s : Bool) (xs : List ℕ) (b : ℕ) → NoneEnds s xs → (b ≡ 125 → in_literal s xs ≡ true) → NoneEnds s (xs ++ b ∷ [])
none-snoc s [] b h f = (f, tt)
none-snoc s (x ∷ xs) b h f = (h.0, none-snoc (turned s x) xs b h.1 f)

pub literal-snoc : (s : Bool) (xs : List ℕ) (b : ℕ) → in_literal s (xs ++ b ∷ []) ≡ turned (in_literal s xs) b
literal-snoc s [] b = refl
literal-snoc s (x ∷ xs) b = literal-snoc (turned s x) xs b

pub none_more : (inner : List ℕ) (i : ℕ) → i < length inner → NoneEnds false (take i inner) → (get_or inner i 0 ≡ 125 → in_literal false (take i inner) ≡ true) → NoneEnds false (take (i + 1) inner)
none_more inner i l h f = rw (add-one, take-suc inner i 0 l) (none-snoc false (take i inner) (get_or inner i 0) h f)

pub literal_more : (inner : List ℕ) (i : ℕ) → i < length inner → in_literal false (take (i + 1) inner) ≡ turned (in_literal false (take i inner)) (get_or inner i 0)
literal_more inner i l = rw (add-one, take-suc inner i 0 l) (literal-snoc false (take i inner) (get_or inner i 0))

flip : (s q : Bool) → not (beq s q) ≡ cond q (not s) s
flip true true = refl
flip true false = refl
flip false true = refl
flip false false = refl

pub turned_is : (s : Bool) (b : ℕ) → not (beq s (nat_eq b 34)) ≡ turned s b
turned_is s b = flip s (nat_eq b 34)

pub ends_at : (inner front back : List ℕ) (i : ℕ) → i < length inner → get_or inner i 0 ≡ 125 → NoneEnds false (take i inner) → in_literal false (take i inner) ≡ false → front ≡ take i inner → back ≡ drop (i + 1) inner → EndsExpression inner front back
ends_at inner front back i l b h s e f = record {
  splits = split_at inner i 0 l ∙ ap (λ x. take i inner ++ x ∷ drop (suc i) inner) b ∙ ap (λ x. x ++ 125 ∷ drop (suc i) inner) (sym e) ∙ ap (λ x. front ++ 125 ∷ x) (ap (λ k. drop k inner) (sym (add-one i)) ∙ sym f);
  first = subst (NoneEnds false) (sym e) h;
  outside = ap (in_literal false) e ∙ s;
}

take_all : (xs : List ℕ) (n : ℕ) → length xs ≤ n → take n xs ≡ xs
take_all [] zero l = refl
take_all [] (suc n) l = refl
take_all (x ∷ xs) zero l = absurd (omega arith)
take_all (x ∷ xs) (suc n) l = ap (λ t. x ∷ t) (take_all xs n (omega arith))

pub none_all : (inner : List ℕ) (i : ℕ) → length inner ≤ i → NoneEnds false (take i inner) → HasNoEnd inner
none_all inner i l h = subst (NoneEnds false) (take_all inner i l) h
