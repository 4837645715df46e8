-- The sets of ids that are kept beside the blocks of a site so far.
use Rattle.std.proofs.Common.{ℕ, ◌≡◌, ◌<◌, List, [], ◌∷◌, ◌++◌, length, true, false, nat_lt, refl, sym, ap, subst, ◌∙◌, ◌⊎◌, inl, inr, arith, All}
use Rattle.std.specs.Prelude.{◌↔◌, IsTrue, Contains}
use Rattle.std.specs.Ordering.{nat_cmp}
use Rattle.std.specs.BTreeSet.{BTreeSet, contains, IsUpperBound}
use Rattle.std.proofs.lemmas.Bool.Decides.{Decides-ltb}
use Rattle.std.proofs.lemmas.List.Elements.{All-nil, All-cons, All-contains, Contains-append_left, Contains-append_right, Contains-push, Contains-push_cases}
use Rattle.std.proofs.lemmas.Map.Keys.{ge_from_not_lt}
use Rattle.fix_site.specs.declared.fixlet.Fixlet.{Fixlet}
use Rattle.fix_site.specs.declared.block.Block.{Block}
use Rattle.fix_site.specs.declared.block.Block.TheVariants.{Fixlet as fixlet_block, Baseline as baseline_block, Action as action_block}
use Rattle.fix_site.specs.declared.block_reader.Kind.TheVariants as kind
use Rattle.fix_site.specs.BlockHeads.{CanBegin}
use Rattle.fix_site.specs.Blocks.{HasId, HasFixlet, block_id}
use Rattle.fix_site.specs.KnownIds.{HasJust, IsIn, IsFixletWith}

-- the ids of one block more
pub ids_more : (blocks : List Block) (block : Block) (old new : BTreeSet ℕ) → HasJust old (HasId blocks) → HasJust new (IsIn old (λ id. block_id block ≡ id)) → HasJust new (HasId (blocks ++ block ∷ []))
ids_more blocks block old new mine more q = (λ t. there ((more q).0 t), λ h. (more q).1 (back h (Contains-push_cases blocks block h.0 h.1)))
  where
    there : IsIn old (λ id. block_id block ≡ id) q → HasId (blocks ++ block ∷ []) q
    there (inl o) = let h = (mine q).0 o in (h.0, Contains-append_left blocks (block ∷ []) h.0 h.1, h.2)
    there (inr e) = (block, Contains-push blocks block, e)

    back : (h : HasId (blocks ++ block ∷ []) q) → Contains blocks h.0 ⊎ (block ≡ h.0) → IsIn old (λ id. block_id block ≡ id) q
    back h (inl c) = inl ((mine q).1 (h.0, c, h.2))
    back h (inr e) = inr (ap block_id e ∙ h.2)

fixlet_with : (block : Block) (id : ℕ) → IsFixletWith block id → (fixlet : Fixlet) × (block ≡ fixlet_block fixlet) × (fixlet.id ≡ id)
fixlet_with (fixlet_block fixlet) id e = (fixlet, refl, e)
fixlet_with (baseline_block baseline) id e = absurd e
fixlet_with (action_block action) id e = absurd e

-- the ids of the fixlets with one block more
pub fixlets_more : (blocks : List Block) (block : Block) (old new : BTreeSet ℕ) → HasJust old (HasFixlet blocks) → HasJust new (IsIn old (IsFixletWith block)) → HasJust new (HasFixlet (blocks ++ block ∷ []))
fixlets_more blocks block old new mine more q = (λ t. there ((more q).0 t), λ h. (more q).1 (back h (Contains-push_cases blocks block (fixlet_block h.0) h.1)))
  where
    there : IsIn old (IsFixletWith block) q → HasFixlet (blocks ++ block ∷ []) q
    there (inl o) = let h = (mine q).0 o in (h.0, Contains-append_left blocks (block ∷ []) (fixlet_block h.0) h.1, h.2)
    there (inr e) =
        let f = fixlet_with block q e in
        let P : Block → Type 0 = Contains (blocks ++ block ∷ []) in
        (f.0, subst P f.1 (Contains-push blocks block), f.2)

    back : (h : HasFixlet (blocks ++ block ∷ []) q) → Contains blocks (fixlet_block h.0) ⊎ (block ≡ fixlet_block h.0) → IsIn old (IsFixletWith block) q
    back h (inl c) = inl ((mine q).1 (h.0, c, h.2))
    back h (inr e) = let P : Block → Type 0 = λ b. IsFixletWith b q in inr (subst P (sym e) h.2)

-- a list of which each value is so
all_of : {V : Type 0} (P : V → Type 0) (vs : List V) → ((v : V) → Contains vs v → P v) → All P vs
all_of P [] says = All-nil P
all_of P (v ∷ vs) says = All-cons P v vs (says v (Contains-append_left (v ∷ []) vs v (Contains-push [] v))) (all_of P vs (λ w c. says w (Contains-append_right (v ∷ []) vs w c)))

-- all ids are below one that is above the greatest
pub below : (blocks : List Block) (set : BTreeSet ℕ) (greatest id : ℕ) → HasJust set (HasId blocks) → IsTrue (contains nat_cmp set greatest) → IsUpperBound nat_cmp set greatest → IsTrue (nat_lt greatest id) ↔ All (λ b. block_id b < id) blocks
below blocks set greatest id mine member upper = (λ t. all_of (λ b. block_id b < id) blocks (there ((Decides-ltb greatest id).0 t)), λ all. (Decides-ltb greatest id).1 (back all))
  where
    there : greatest < id → (b : Block) → Contains blocks b → block_id b < id
    there l b c = let le = ge_from_not_lt greatest (block_id b) (upper (block_id b) ((mine (block_id b)).1 (b, c, refl))) in omega arith

    back : All (λ b. block_id b < id) blocks → greatest < id
    back all =
        let h = (mine greatest).0 member in
        let P : ℕ → Type 0 = λ n. n < id in
        subst P h.2 (All-contains (λ b. block_id b < id) blocks h.0 all h.1)

-- a set that has an id isn't empty
pub some_key : (set : BTreeSet ℕ) (id : ℕ) → IsTrue (contains nat_cmp set id) → 0 < length set.keys
some_key set id t = from set.keys refl
  where
    from : (keys : List ℕ) → set.keys ≡ keys → 0 < length set.keys
    from [] e = absurd (let P : List ℕ → Type 0 = λ l. IsTrue (contains nat_cmp (record { keys = l }) id) in false_true (subst P e t))
      where
        false_true : false ≡ true → ⊥
        false_true h = cc
    from (k ∷ ks) e = let count = ap (length {A = ℕ}) e in omega arith

-- an empty set knows of no block
pub none_below : (blocks : List Block) (set : BTreeSet ℕ) (id : ℕ) → HasJust set (HasId blocks) → (0 < length set.keys → IsTrue false) → IsTrue true ↔ All (λ b. block_id b < id) blocks
none_below blocks set id mine none = (λ t. all_of (λ b. block_id b < id) blocks never, λ all. refl)
  where
    never : (b : Block) → Contains blocks b → block_id b < id
    never b c = let f = none (some_key set (block_id b) ((mine (block_id b)).1 (b, c, refl))) in cc

-- and of no fixlet
pub some_fixlet_known : (blocks : List Block) (set : BTreeSet ℕ) → HasJust set (HasFixlet blocks) → (0 < length set.keys → IsTrue false) → IsTrue false ↔ CanBegin blocks kind.Baseline 0
some_fixlet_known blocks set mine none = (λ f. cc, λ h. none (some_key set h.0.id ((mine h.0.id).1 (h.0, h.1, refl))))
