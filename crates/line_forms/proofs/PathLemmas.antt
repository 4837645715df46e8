-- Paths and their parts.
use Rattle.std.proofs.Common.{◌≡◌, ◌≢◌, ℕ, ◌<◌, ◌≤◌, List, [], ◌∷◌, Bool, IsTrue, ◌↔◌, codes, inl, inr, subst, refl, arith}
use Rattle.std.proofs.lemmas.List.Elements.{All-weaker, All-nil}
use Rattle.line_forms.specs.Cuts.{Lacks, IsCut}
use Rattle.line_forms.specs.Paths.{IsPart, AreParts, HasPathForm}
use Rattle.line_forms.proofs.Pieces.{joined_first, joined_rest, joined_more, joined_one, only_joined}

pub part-lacks : (part : List ℕ) → IsPart part → Lacks 47 part
part-lacks part is = All-weaker (λ byte. (32 ≤ byte) × (byte ≢ 47)) (λ byte. byte ≢ 47) (λ byte h. h.1) part is.3

pub parts_first : (text first rest : List ℕ) → IsCut 47 text first rest → AreParts text → IsPart first
parts_first = joined_first 47 IsPart part-lacks

pub parts_rest : (text first rest : List ℕ) → IsCut 47 text first rest → AreParts text → AreParts rest
parts_rest = joined_rest 47 IsPart part-lacks

pub parts_more : (text first rest : List ℕ) → IsCut 47 text first rest → IsPart first → AreParts rest → AreParts text
parts_more = joined_more 47 IsPart part-lacks

pub parts_one : (text : List ℕ) → IsPart text → AreParts text
parts_one = joined_one 47 IsPart

pub only_parts : (text : List ℕ) → Lacks 47 text → AreParts text → IsPart text
only_parts = only_joined 47 IsPart part-lacks

-- parts don't begin with a `/`
pub parts-root : (rest : List ℕ) → AreParts (47 ∷ rest) → ⊥
parts-root rest are =
    let first : IsPart [] = parts_first (47 ∷ rest) [] rest (All-nil (λ byte. byte ≢ 47), refl) are in
    let some : 0 < 0 = first.0 in
    omega arith

parts_same : (text xs ys : List ℕ) → text ≡ 47 ∷ xs → text ≡ 47 ∷ ys → xs ≡ ys
parts_same text xs ys a b = cc

-- a path that begins with a `/` and isn't that alone
pub form_from_root : (text parts : List ℕ) (r : Bool) → (text ≡ codes "/" → ⊥) → text ≡ 47 ∷ parts → IsTrue r ↔ AreParts parts → IsTrue r ↔ HasPathForm text
form_from_root text parts r other is says = (
  λ h. inr (inr (parts, is, says.0 h)),
  λ form. elim form [
    | inl root ↦ absurd (other root)
    | inr more ↦ elim more [
      | inl are ↦ let P : List ℕ → Type 0 = AreParts in absurd (parts-root parts (subst P is are))
      | inr split ↦ let P : List ℕ → Type 0 = AreParts in let e : split.0 ≡ parts = parts_same text split.0 parts split.1 is in says.1 (subst P e split.2)
    ]
  ],
)
