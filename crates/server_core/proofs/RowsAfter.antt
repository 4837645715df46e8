-- The row of a key after a batch, and lists with one element more.
use Rattle.std.proofs.Common.{◌≡◌, ℕ, ◌<◌, ◌⊎◌, inl, inr, List, [], ◌∷◌, ◌++◌, cond, Some, None, refl, sym, ap, ◌∙◌, arith, true, false}
use Rattle.std.specs.Prelude.{Contains}
use Rattle.std.specs.declared.option.Option.{Option}
use Rattle.std.proofs.lemmas.List.Elements.{Contains-append_cases, Contains-append_right, Contains-push_cases}
use Rattle.desk_keep.specs.declared.change.Change.{Change}
use Rattle.desk_keep.specs.Keys.{Key, key_of, same_key}
use Rattle.desk_keep.specs.Tables.{put, put_all, row_at}
use Rattle.desk_keep.proofs.KeyOrder.{same_exact, same_itself}
use Rattle.desk_keep.proofs.Putting.{row_at-put}

-- what a batch puts at a key: its last row there, or what was there before
abbrev pub row_after : Key → List Change → Option Change → Option Change
row_after key [] before = before
row_after key (row ∷ batch) before = row_after key batch (cond (same_key key (key_of row)) (Some row) before)

pub row_at-put_all : (key : Key) (batch rows : List Change) → row_at key (put_all batch rows) ≡ row_after key batch (row_at key rows)
row_at-put_all key [] rows = refl
row_at-put_all key (row ∷ batch) rows = row_at-put_all key batch (put row rows) ∙ ap (row_after key batch) (row_at-put key row rows)

-- two keys are the same or not
pub other_key : (key other : Key) → same_key key other ≡ false → key ≡ other → ⊥
other_key key other apart same =
    let itself : same_key key other ≡ true = sym (ap (λ k. same_key k other) (sym same)) ∙ same_itself other in
    cc

pub in_nothing : {X : Type 0} (x : X) → Contains [] x → ⊥
in_nothing x h = let within : h.0 < 0 = h.1 in omega arith

pub in_cons : {X : Type 0} (y : X) (xs : List X) (x : X) → Contains (y ∷ xs) x → (y ≡ x) ⊎ Contains xs x
in_cons y xs x h =
    elim (Contains-append_cases (y ∷ []) xs x h) as (λ c. (y ≡ x) ⊎ Contains xs x) [
      | inl one ↦ elim (Contains-push_cases [] y x one) as (λ c. (y ≡ x) ⊎ Contains xs x) [
        | inl none ↦ absurd (in_nothing x none)
        | inr same ↦ inl same
      ]
      | inr rest ↦ inr rest
    ]

pub cons_head : {X : Type 0} (x : X) (xs : List X) → Contains (x ∷ xs) x
cons_head x xs = (0, omega arith, refl)

pub cons_tail : {X : Type 0} (y : X) (xs : List X) (x : X) → Contains xs x → Contains (y ∷ xs) x
cons_tail y xs x h = Contains-append_right (y ∷ []) xs x h
