-- Items that hold templates.
use Rattle.std.proofs.Common.{◌≡◌, ℕ, List, [], ◌∷◌, sym, subst, ◌∙◌, inl, inr}
use Rattle.std.proofs.lemmas.List.{append_cancel_right}
use Rattle.script_text.specs.declared.piece.Ending.TheVariants as ending
use Rattle.script_text.specs.declared.error.Refusal.{Refusal}
use Rattle.script_text.specs.declared.error.Refusal.TheVariants as refusal
use Rattle.script_text.specs.Templates.{IsTemplate, HasOpenBrace}
use Rattle.script_text.specs.Items.{quoted, IsInQuotes, IsPathText}
use Rattle.script_text.specs.Readings.{NotTaken, NoTemplate}
use Rattle.script_text.proofs.OneTemplate.{early_no_template, early_not_open}

pub quoted_fails : (text inner : List ℕ) (e : Refusal) → text ≡ 34 ∷ inner → NoTemplate ending.Quote inner e → NotTaken quoted text e
quoted_fails text inner refusal.NoCommand s h = (
  λ t rest x. (let f : x.0 ≡ inner = (let a = x.1 in let b = s in cc) in early_no_template ending.Quote inner t (34 ∷ rest) h (subst (λ i. IsTemplate ending.Quote i t (34 ∷ rest)) f x.2)),
  λ x. (let f : x.0 ≡ inner = (let a = x.1 in let b = s in cc) in early_not_open ending.Quote inner h (subst (λ i. HasOpenBrace ending.Quote i) f x.2)),
)
quoted_fails text inner refusal.BraceNotClosed s h = (inner, s, h)
quoted_fails text inner refusal.Memory s h = tt

in_quotes_one : (text a b : List ℕ) → IsInQuotes text a → IsInQuotes text b → a ≡ b
in_quotes_one text a b x y = append_cancel_right a b (34 ∷ []) (let f = x in let g = y in cc)

pub path_one : (text a b : List ℕ) → IsPathText text a → IsPathText text b → a ≡ b
path_one text a b x y = elim x [
  | inl p ↦ elim y [ inl q ↦ in_quotes_one text a b p q | inr q ↦ absurd (q.0 a p) ]
  | inr p ↦ elim y [ inl q ↦ absurd (p.0 b q) | inr q ↦ p.1 ∙ sym q.1 ]
]
