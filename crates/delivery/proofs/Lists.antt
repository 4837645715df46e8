-- Elements of lists, and keys of reports.
use Rattle.std.specs.Prelude.{◌≡◌, ◌≢◌, ◌⊎◌, ℕ, nat_eq, ◌<◌, Bool, true, false, List, [], ◌∷◌, All, Contains, find, slice_get, Some, None}
use Rattle.std.specs.declared.option.Option.{Option}
use Rattle.std.specs.Map.{lookup}
use Rattle.std.specs.Cmp.{first_so, second_so}
use Rattle.std.specs.Cmp.Lexicographic.{pointwise, bytes_decides}
use Rattle.std.proofs.Common.{arith, inl, inr, refl, sym, ◌∙◌, subst}
use Rattle.std.proofs.lemmas.Bool.{eqb-true}
use Rattle.std.proofs.lemmas.List.Elements.{Contains-append_cases, Contains-append_right, Contains-push_cases}
use Rattle.std.proofs.lemmas.List.Folds.{find_at}
use Rattle.std.specs.List.{position_or_len}
use Rattle.std.proofs.lemmas.Map.Entries.{place_from_lookup}
use Rattle.std.proofs.lemmas.Option.{get_or_from_slice_get, slice_get_within}
use Rattle.relay_core.specs.ReportKeys.{ReportKey, same_key}

-- ---- elements

pub in_nothing : {X : Type 0} (x : X) → Contains [] x → ⊥
in_nothing x h = let within : h.0 < 0 = h.1 in omega arith

pub in_cons : {X : Type 0} (y : X) (xs : List X) (x : X) → Contains (y ∷ xs) x → (y ≡ x) ⊎ Contains xs x
in_cons y xs x h =
    elim (Contains-append_cases (y ∷ []) xs x h) as (λ c. (y ≡ x) ⊎ Contains xs x) [
      | inl one ↦ elim (Contains-push_cases [] y x one) as (λ c. (y ≡ x) ⊎ Contains xs x) [
        | inl none ↦ absurd (in_nothing x none)
        | inr same ↦ inl same
      ]
      | inr rest ↦ inr rest
    ]

pub cons_head : {X : Type 0} (x : X) (xs : List X) → Contains (x ∷ xs) x
cons_head x xs = (0, omega arith, refl)

pub cons_tail : {X : Type 0} (y : X) (xs : List X) (x : X) → Contains xs x → Contains (y ∷ xs) x
cons_tail y xs x h = Contains-append_right (y ∷ []) xs x h

-- ---- what is found

pub some_is : {X : Type 0} (x y : X) → Some x ≡ Some y → x ≡ y
some_is x y e = cc

pub none_some : {X : Type 0} (x : X) → None ≡ Some x → ⊥
none_some x e = cc

pub all_got : {X : Type 0} (P : X → Type 0) (xs : List X) (i : ℕ) (x : X) → All P xs → slice_get xs i ≡ Some x → P x
all_got P xs i x all got = subst P (get_or_from_slice_get xs i x x got) (all i x (slice_get_within xs i x got))

pub all_found : {X : Type 0} (P : X → Type 0) (test : X → Bool) (xs : List X) (x : X) → All P xs → find test xs ≡ Some x → P x
all_found P test xs x all found = all_got P xs (position_or_len test xs) x all (sym (find_at test xs) ∙ found)

pub all_looked : {K V : Type 0} (P : K × V → Type 0) (test : K → Bool) (entries : List (K × V)) (value : V) → All P entries
    → lookup test entries ≡ Some value → (key : K) × (test key ≡ true) × P (key, value)
all_looked P test entries value all found =
    let place = place_from_lookup test entries value found in
    (place.1, place.3, all_got P entries place.0 (place.1, value) all place.2)

-- ---- keys

pub same_key_is : (key other : ReportKey) → same_key key other ≡ true → key ≡ other
same_key_is key other same =
    let seq : key.seq ≡ other.seq = eqb-true _ _ (first_so (nat_eq key.seq other.seq) (pointwise nat_eq key.computer other.computer) same) in
    let computer : key.computer ≡ other.computer =
    (bytes_decides _ _).0 (second_so (nat_eq key.seq other.seq) (pointwise nat_eq key.computer other.computer) same) in
    λ i. record { computer = computer i; seq = seq i }

pub keys_apart : (key other : ReportKey) → key ≢ other → same_key key other ≡ false
keys_apart key other apart =
    elim (same_key key other) as (λ b. same_key key other ≡ b → b ≡ false) [
      | true ↦ λ e. absurd (apart (same_key_is key other e))
      | false ↦ λ e. refl
    ] refl
