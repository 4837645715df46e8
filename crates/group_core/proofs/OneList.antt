-- The members of a group are one list.
use Rattle.std.proofs.Common.{ℕ, zero, suc, ◌≡◌, List, [], ◌∷◌, Contains, refl, sym, ap, ◌∙◌, arith}
use Rattle.std.specs.declared.cmp.Ordering.TheVariants.{Less, Greater}
use Rattle.std.specs.Ordering.{is_lt, ordering_reverse}
use Rattle.std.specs.Cmp.Lexicographic.{nat_list_cmp_total}
use Rattle.std.specs.List.{AllByRecursion}
use Rattle.std.specs.List.Sorted.{IsStrictlySortedBy}
use Rattle.std.proofs.lemmas.Bool.{true≢false}
use Rattle.std.proofs.lemmas.List.Elements.{Contains-append_right}
use Rattle.bf_world.specs.Maps.{byte_order}
use Rattle.bf_world.proofs.MapLemmas.{order-same}
use Rattle.group_text.specs.declared.group.Group.{Group}
use Rattle.group_sample.specs.declared.sample.Sample.{Sample}
use Rattle.group_core.specs.Members.{AreMembers}

-- what stands in a list whose elements are all above a name is above it
above : (name : List ℕ) (xs : List (List ℕ)) → AllByRecursion (λ y. byte_order name y ≡ Less) xs → (x : List ℕ) → Contains xs x → byte_order name x ≡ Less
above name [] all x has = absurd (omega (arith, has.1))
above name (y ∷ ys) all x (zero, inside, at) = ap (byte_order name) (sym at) ∙ all.0
above name (y ∷ ys) all x (suc k, inside, at) = above name ys all.1 x (k, omega (arith, inside), at)

-- lists in order with the same elements are the same
pub same_lists : (xs ys : List (List ℕ)) → IsStrictlySortedBy byte_order xs → IsStrictlySortedBy byte_order ys → ((x : List ℕ) → Contains xs x → Contains ys x) → ((x : List ℕ) → Contains ys x → Contains xs x) → xs ≡ ys
unfolding IsStrictlySortedBy
same_lists [] [] s t there back = refl
same_lists [] (y ∷ ys) s t there back = absurd (let has = back y (zero, omega arith, refl) in omega (arith, has.1))
same_lists (x ∷ xs) [] s t there back = absurd (let has = there x (zero, omega arith, refl) in omega (arith, has.1))
same_lists (x ∷ xs) (y ∷ ys) s t there back =
    let heads : x ≡ y = head_same (there x (zero, omega arith, refl)) (back y (zero, omega arith, refl)) in
    ap (λ h. h ∷ xs) heads ∙ ap (λ l. y ∷ l) (same_lists xs ys s.1 t.1 (λ z has. rest_there heads z has) (λ z has. rest_back heads z has))
  where
    head_same : Contains (y ∷ ys) x → Contains (x ∷ xs) y → x ≡ y
    head_same (zero, i, at) has = sym at
    head_same (suc k, i, at) (zero, j, at') = at'
    head_same (suc k, i, at) (suc m, j, at') =
        let up : byte_order y x ≡ Less = above y ys t.0 x (k, omega (arith, i), at) in
        let down : byte_order x y ≡ Less = above x xs s.0 y (m, omega (arith, j), at') in
        absurd (let e : Less ≡ Greater = sym down ∙ nat_list_cmp_total.antisymm x y ∙ ap ordering_reverse up in cc)

    rest_there : x ≡ y → (z : List ℕ) → Contains xs z → Contains ys z
    rest_there same z has = later (there z (Contains-append_right (x ∷ []) xs z has))
      where
        later : Contains (y ∷ ys) z → Contains ys z
        later (zero, i, at) =
            let less : byte_order x z ≡ Less = above x xs s.0 z has in
            absurd (true≢false (sym (ap is_lt less) ∙ ap is_lt (ap (λ n. byte_order x n) (sym at ∙ sym same) ∙ order-same x)))
        later (suc k, i, at) = (k, omega (arith, i), at)

    rest_back : x ≡ y → (z : List ℕ) → Contains ys z → Contains xs z
    rest_back same z has = later (back z (Contains-append_right (y ∷ []) ys z has))
      where
        later : Contains (x ∷ xs) z → Contains xs z
        later (zero, i, at) =
            let less : byte_order y z ≡ Less = above y ys t.0 z has in
            absurd (true≢false (sym (ap is_lt less) ∙ ap is_lt (ap (λ n. byte_order y n) (sym at ∙ same) ∙ order-same y)))
        later (suc k, i, at) = (k, omega (arith, i), at)

pub one_list : (samples : List Sample) (group : Group) (members others : List (List ℕ)) → AreMembers samples group members → AreMembers samples group others → others ≡ members
one_list samples group members others are also =
    same_lists others members also.ascending are.ascending (λ c has. (are.each c).1 ((also.each c).0 has)) (λ c has. (also.each c).1 ((are.each c).0 has))
