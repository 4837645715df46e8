-- What stands under names, with more behind it and after something else was put in its place.
use Rattle.std.proofs.Common.{◌≡◌, ℕ, Bool, true, false, cond, List, [], ◌∷◌, ◌++◌, Option, Some, None, refl, sym, ap, subst, ◌∙◌}
use Rattle.std.specs.Prelude.{All, bytes_eq, slice_get}
use Rattle.std.specs.Map.{lookup, set_value}
use Rattle.std.proofs.lemmas.Map.Entries.{place_from_lookup}
use Rattle.std.proofs.lemmas.Map.Steps.{set_value_same}
use Rattle.std.proofs.lemmas.Option.{get_or_from_slice_get, slice_get_within}
use Rattle.delivery.specs.Messages.{changed, named, replaced}

-- what holds of each element holds of one that is got, or looked up
pub all_got : {X : Type 0} (P : X → Type 0) (xs : List X) (i : ℕ) (x : X) → All P xs → slice_get xs i ≡ Some x → P x
all_got P xs i x all got = subst P (get_or_from_slice_get xs i x x got) (all i x (slice_get_within xs i x got))

pub all_looked : {K V : Type 0} (P : K × V → Type 0) (test : K → Bool) (entries : List (K × V)) (value : V) → All P entries → lookup test entries ≡ Some value → (key : K) × (test key ≡ true) × P (key, value)
all_looked P test entries value all found =
    let place = place_from_lookup test entries value found in
    (place.1, place.3, all_got P entries place.0 (place.1, value) all place.2)

module _ {V : Type 0} where
  -- ---- with more behind
  pub named_more : (name : List ℕ) (xs ys : List (List ℕ × V)) (v : V) → named name xs ≡ Some v → named name (xs ++ ys) ≡ Some v
  named_more name [] ys v e = absurd (cc)
  named_more name (x ∷ xs) ys v e = by (bytes_eq name x.0) e (named_more name xs ys v)
    where
      by : (b : Bool) → cond b (Some x.1) (named name xs) ≡ Some v → (named name xs ≡ Some v → named name (xs ++ ys) ≡ Some v) → cond b (Some x.1) (named name (xs ++ ys)) ≡ Some v
      by true e next = e
      by false e next = next e

  pub set_more : (name : List ℕ) (xs ys : List (List ℕ × V)) (v w : V) → named name xs ≡ Some v → set_value (bytes_eq name) (xs ++ ys) w ≡ set_value (bytes_eq name) xs w ++ ys
  set_more name [] ys v w e = absurd (cc)
  set_more name (x ∷ xs) ys v w e = by (bytes_eq name x.0) e (set_more name xs ys v w)
    where
      by : (b : Bool) → cond b (Some x.1) (named name xs) ≡ Some v → (named name xs ≡ Some v → set_value (bytes_eq name) (xs ++ ys) w ≡ set_value (bytes_eq name) xs w ++ ys)
          → cond b ((x.0, w) ∷ (xs ++ ys)) (x ∷ set_value (bytes_eq name) (xs ++ ys) w) ≡ cond b ((x.0, w) ∷ xs) (x ∷ set_value (bytes_eq name) xs w) ++ ys
      by true e next = refl
      by false e next = ap (λ (l : List (List ℕ × V)). x ∷ l) (next e)

  -- ---- something in its place
  pub set_named : (name : List ℕ) (change : V → V) (xs : List (List ℕ × V)) (v : V) → named name xs ≡ Some v → changed name change xs ≡ set_value (bytes_eq name) xs (change v)
  set_named name change xs v e = ap (λ (o : Option V). replaced name change xs o) e

  pub changed_more : (name : List ℕ) (change : V → V) (xs ys : List (List ℕ × V)) (v : V) → named name xs ≡ Some v → changed name change (xs ++ ys) ≡ changed name change xs ++ ys
  changed_more name change xs ys v e =
      set_named name change (xs ++ ys) v (named_more name xs ys v e) ∙ set_more name xs ys v (change v) e ∙ ap (λ (l : List (List ℕ × V)). l ++ ys) (sym (set_named name change xs v e))

  pub unchanged : (name : List ℕ) (xs : List (List ℕ × V)) (v : V) → named name xs ≡ Some v → xs ≡ set_value (bytes_eq name) xs v
  unchanged name xs v e = sym (set_value_same (bytes_eq name) xs v e)

  pub set_found : (name : List ℕ) (xs : List (List ℕ × V)) (v w : V) → named name xs ≡ Some v → named name (set_value (bytes_eq name) xs w) ≡ Some w
  set_found name [] v w e = absurd (cc)
  set_found name (x ∷ xs) v w e = by (bytes_eq name x.0) refl e (set_found name xs v w)
    where
      by : (b : Bool) → bytes_eq name x.0 ≡ b → cond b (Some x.1) (named name xs) ≡ Some v → (named name xs ≡ Some v → named name (set_value (bytes_eq name) xs w) ≡ Some w)
          → named name (cond b ((x.0, w) ∷ xs) (x ∷ set_value (bytes_eq name) xs w)) ≡ Some w
      by true is e next = ap (λ (b : Bool). cond b (Some w) (named name xs)) is
      by false is e next = ap (λ (b : Bool). cond b (Some x.1) (named name (set_value (bytes_eq name) xs w))) is ∙ next e

  pub set_again : (name : List ℕ) (xs : List (List ℕ × V)) (v w : V) → set_value (bytes_eq name) (set_value (bytes_eq name) xs v) w ≡ set_value (bytes_eq name) xs w
  set_again name [] v w = refl
  set_again name (x ∷ xs) v w = by (bytes_eq name x.0) refl (set_again name xs v w)
    where
      by : (b : Bool) → bytes_eq name x.0 ≡ b → set_value (bytes_eq name) (set_value (bytes_eq name) xs v) w ≡ set_value (bytes_eq name) xs w
          → set_value (bytes_eq name) (cond b ((x.0, v) ∷ xs) (x ∷ set_value (bytes_eq name) xs v)) w ≡ cond b ((x.0, w) ∷ xs) (x ∷ set_value (bytes_eq name) xs w)
      by true is next = ap (λ (b : Bool). cond b ((x.0, w) ∷ xs) ((x.0, v) ∷ set_value (bytes_eq name) xs w)) is
      by false is next =
          ap (λ (b : Bool). cond b ((x.0, w) ∷ set_value (bytes_eq name) xs v) (x ∷ set_value (bytes_eq name) (set_value (bytes_eq name) xs v) w)) is ∙ ap (λ (l : List (List ℕ × V)). x ∷ l) next

  -- something goes on to stand under each name
  set_stays : (name other : List ℕ) (xs : List (List ℕ × V)) (v w : V) → named other xs ≡ Some v → (u : V) × (named other (set_value (bytes_eq name) xs w) ≡ Some u)
  set_stays name other [] v w e = absurd (cc)
  set_stays name other (x ∷ xs) v w e = by (bytes_eq name x.0) (bytes_eq other x.0) refl e (set_stays name other xs v w)
    where
      by : (b c : Bool) → bytes_eq other x.0 ≡ c → cond c (Some x.1) (named other xs) ≡ Some v → (named other xs ≡ Some v → (u : V) × (named other (set_value (bytes_eq name) xs w) ≡ Some u))
          → (u : V) × (named other (cond b ((x.0, w) ∷ xs) (x ∷ set_value (bytes_eq name) xs w)) ≡ Some u)
      by true true is e next = (w, ap (λ (c : Bool). cond c (Some w) (named other xs)) is)
      by true false is e next = (v, ap (λ (c : Bool). cond c (Some w) (named other xs)) is ∙ e)
      by false true is e next = (x.1, ap (λ (c : Bool). cond c (Some x.1) (named other (set_value (bytes_eq name) xs w))) is)
      by false false is e next =
          let r = next e in
          (r.0, ap (λ (c : Bool). cond c (Some x.1) (named other (set_value (bytes_eq name) xs w))) is ∙ r.1)

  pub changed_stays : (name other : List ℕ) (change : V → V) (xs : List (List ℕ × V)) (v : V) → named other xs ≡ Some v → (u : V) × (named other (changed name change xs) ≡ Some u)
  changed_stays name other change xs v e = by (named name xs)
    where
      by : (o : Option V) → (u : V) × (named other (replaced name change xs o) ≡ Some u)
      by None = (v, e)
      by (Some there) = set_stays name other xs v (change there) e
