-- Texts that are cut at a byte. Other crates may cite these lemmas.
use Rattle.std.proofs.Common.{◌≡◌, ◌≢◌, ◌==◌, true, ℕ, inl, inr, arith, List, [], ◌∷◌, ◌++◌, MatchOption, None, Some, sym, refl, ap, ◌∙◌, append_assoc}
use Rattle.std.specs.Prelude.{not}
use Rattle.std.specs.List.{list_all}
use Rattle.std.proofs.lemmas.Bool.{cases_eq}
use Rattle.std.proofs.lemmas.Bool.Decides.{nat_tests}
use Rattle.std.proofs.lemmas.List.Elements.{All-nil, All-cons, All-head, All-tail}
use Rattle.std.proofs.lemmas.List.{append_cancel_left}
use Rattle.std.proofs.lemmas.Option.{MatchOption-at_none}
use Rattle.std.specs.declared.option.Option.{Option}
use Rattle.line_forms.specs.Cuts.{Lacks, IsCut}
use Rattle.line_forms.specs.Fields.{Follows, field_text}
use denote.Ref.{Bor}

-- a text is cut at a byte in one way
one_cut : (byte : ℕ) (first rest other left : List ℕ) → Lacks byte first → Lacks byte other → first ++ byte ∷ rest ≡ other ++ byte ∷ left → (other ≡ first) × (left ≡ rest)
one_cut byte [] rest [] left a b e = (refl, cc)
one_cut byte [] rest (y ∷ ys) left a b e = absurd (All-head (λ x. x ≢ byte) y ys b (cc))
one_cut byte (x ∷ xs) rest [] left a b e = absurd (All-head (λ x. x ≢ byte) x xs a (cc))
one_cut byte (x ∷ xs) rest (y ∷ ys) left a b e =
    let more = one_cut byte xs rest ys left (All-tail (λ x. x ≢ byte) x xs a) (All-tail (λ x. x ≢ byte) y ys b) (cc) in
    (cc, more.1)

pub IsCut-one : (byte : ℕ) (text first rest other left : List ℕ) → IsCut byte text first rest → IsCut byte text other left → (other ≡ first) × (left ≡ rest)
IsCut-one byte text first rest other left a b = one_cut byte first rest other left a.0 b.0 (sym a.1 ∙ b.1)

-- a text lacks a byte where a test says so
pub lacks_by : (byte : ℕ) (xs : List ℕ) → list_all (λ x. not (x == byte)) xs ≡ true → Lacks byte xs
lacks_by byte [] h = All-nil (λ x. x ≢ byte)
lacks_by byte (x ∷ xs) h = elim (cases_eq x byte) [
  | inl same ↦ absurd (grind (arith, nat_tests))
  | inr other ↦ All-cons (λ x. x ≢ byte) x xs other (lacks_by byte xs (grind (arith, nat_tests)))
]

-- what follows a word and a space
pub Follows-none : (word line : List ℕ) (r : Option (Bor (List ℕ))) → MatchOption r ((rest : List ℕ) → line ≢ word ++ rest) (λ x. line ≡ word ++ x.now) → r ≡ None → (rest : List ℕ) → line ≡ field_text word ++ rest → ⊥
Follows-none word line r cases none rest is = MatchOption-at_none ((other : List ℕ) → line ≢ word ++ other) (λ x. line ≡ word ++ x.now) none cases ((32 ∷ []) ++ rest) (is ∙ append_assoc word (32 ∷ []) rest)

pub Follows-from : (word line inner : List ℕ) (r : Option (Bor (List ℕ))) → line ≡ word ++ inner → MatchOption r ((rest : List ℕ) → inner ≢ (32 ∷ []) ++ rest) (λ x. inner ≡ (32 ∷ []) ++ x.now) → Follows word line r
Follows-from word line inner None is none = λ rest e. none rest (append_cancel_left word inner ((32 ∷ []) ++ rest) (sym is ∙ e ∙ append_assoc word (32 ∷ []) rest))
Follows-from word line inner (Some x) is some = is ∙ ap (λ l. word ++ l) some ∙ sym (append_assoc word (32 ∷ []) x.now)
