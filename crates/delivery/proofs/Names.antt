-- What stands under a name after a change of what stood under one.
use Rattle.std.specs.Prelude.{◌≡◌, ◌≢◌, ◌⊎◌, ℕ, bytes_eq, true, false, cond, List, is_some, Some, None}
use Rattle.std.specs.Map.{lookup, set_value}
use Rattle.std.specs.Cmp.Lexicographic.{nat_list_eq_equiv}
use Rattle.std.proofs.Common.{inl, inr, refl, sym, ap, ◌∙◌, true≢false}
use Rattle.std.proofs.lemmas.Map.{lookup-set_value}
use Rattle.std.proofs.lemmas.Slice.Eq.{bytes_eq-Decides}
use Rattle.delivery.specs.Messages.{changed, named, replaced}
use Rattle.delivery.proofs.Lists.{none_some, some_is}

module _ {V : Type 0} where
  -- It is what was made of what stood there, or it stood there before, under another name.
  abbrev pub ComesOf : List ℕ → (V → V) → List (List ℕ × V) → List ℕ → V → Type 0
  ComesOf name change entries other there =
      ((name ≡ other) × ((old : V) × (named name entries ≡ Some old) × (change old ≡ there)))
      ⊎ ((name ≢ other) × (named other entries ≡ Some there))

  found_set : (name : List ℕ) (change : V → V) (entries : List (List ℕ × V)) (other : List ℕ) (old there : V) → named name entries ≡ Some old
      → lookup (bytes_eq other) (set_value (bytes_eq name) entries (change old)) ≡ Some there → ComesOf name change entries other there
  found_set name change entries other old there stood found =
      let is = lookup-set_value nat_list_eq_equiv (bytes_eq name) (λ x y e. nat_list_eq_equiv.congr name x y e) other (change old) entries (ap is_some stood) in
      elim (bytes_eq name other) as (λ b. bytes_eq name other ≡ b → cond b (Some (change old)) (lookup (bytes_eq other) entries) ≡ Some there
      → ComesOf name change entries other there) [
        | true ↦ λ e f. inl ((bytes_eq-Decides name other).0 e, (old, stood, some_is (change old) there f))
        | false ↦ λ e f. inr ((λ same. true≢false (sym ((bytes_eq-Decides name other).1 same) ∙ e)), f)
      ] refl (sym is ∙ found)

  -- what stands under a name after a change
  pub after_change : (name : List ℕ) (change : V → V) (entries : List (List ℕ × V)) (other : List ℕ) (there : V)
      → named other (changed name change entries) ≡ Some there → ComesOf name change entries other there
  after_change name change entries other there found =
      elim (named name entries) as (λ o. named name entries ≡ o → named other (replaced name change entries o) ≡ Some there
      → ComesOf name change entries other there) [
        | None ↦ λ e f. inr ((λ same. none_some there (sym e ∙ ap (λ n. named n entries) same ∙ f)), f)
        | Some old ↦ λ e f. found_set name change entries other old there e f
      ] refl found
