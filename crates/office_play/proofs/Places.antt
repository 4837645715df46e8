-- Where things of a name stand.
use Rattle.std.proofs.Common.{◌≡◌, ℕ, suc, ◌+◌, ◌<◌, arith, List, [], ◌∷◌, ◌++◌, length, Bool, true, false, cond, Option, Some, None, refl, sym, ap, subst, ◌∙◌, true≢false}
use Rattle.std.specs.Prelude.{bytes_eq, All, IsSome, is_some, get_or, slice_set, option_map}
use Rattle.std.specs.declared.cmp.Ordering.{Ordering}
use Rattle.std.specs.declared.cmp.Ordering.TheVariants.{Less, Equal, Greater}
use Rattle.std.specs.Ordering.{match_ordering, is_eq}
use Rattle.std.specs.Map.{set_value, keys_of}
use Rattle.std.specs.List.{list_any}
use Rattle.std.proofs.lemmas.List.Elements.{All-get_or}
use Rattle.std.proofs.lemmas.Map.{keys-set_value}
use Rattle.std.proofs.lemmas.Map.Made.{is_some-lookup}
use Rattle.std.proofs.lemmas.Map.Text.{is_eq-slice_cmp}
use Rattle.std.proofs.lemmas.Slice.Eq.{bytes_eq-Decides}
use Rattle.bf_world.specs.Maps.{at, byte_order, put}
use Rattle.bf_world.proofs.MapLemmas.{order-same}
use Rattle.delivery.specs.Messages.{changed, named, replaced}
use Rattle.office_play.specs.Links.{FindsPlaces, IsNamed, IsPlaceOf, place_of}

-- ---- places in lists
pub some_is : {X : Type 0} (x y : X) → Some x ≡ Some y → x ≡ y
some_is x y e = cc

pub none_some : {X : Type 0} (x : X) → None ≡ Some x → ⊥
none_some x e = cc

pub same_name : (a b : List ℕ) → bytes_eq a b ≡ true → a ≡ b
same_name a b h = (bytes_eq-Decides a b).0 h

pub is_same : (a b : List ℕ) → a ≡ b → bytes_eq a b ≡ true
is_same a b h = (bytes_eq-Decides a b).1 h

-- a place after the first is one of the rest
after_first : (o : Option ℕ) (p : ℕ) → option_map suc o ≡ Some p → (q : ℕ) × (o ≡ Some q) × (p ≡ suc q)
after_first None p e = absurd (none_some p e)
after_first (Some q) p e = (q, refl, sym (some_is (suc q) p e))

module _ {V : Type 0} where
  -- What stands at the place of a name has that name, and is found by it.
  pub at_place : (name : List ℕ) (es : List (List ℕ × V)) (p : ℕ) (e : List ℕ × V) → place_of name es ≡ Some p → e ≡ get_or es p e
      → (name ≡ e.0) × (named name es ≡ Some e.1)
  at_place name [] p e h g = absurd (none_some p h)
  at_place name (x ∷ es) p e h g = by (bytes_eq name x.0) refl (λ q. at_place name es q e)
    where
      by : (b : Bool) → bytes_eq name x.0 ≡ b
          → ((q : ℕ) → place_of name es ≡ Some q → e ≡ get_or es q e → (name ≡ e.0) × (named name es ≡ Some e.1))
          → (name ≡ e.0) × (named name (x ∷ es) ≡ Some e.1)
      by true is more =
          let first : p ≡ 0 = sym (some_is 0 p (sym (ap (λ b. cond b (Some 0) (option_map suc (place_of name es))) is) ∙ h)) in
          let here : e ≡ x = g ∙ ap (λ n. get_or (x ∷ es) n e) first in (
            same_name name x.0 is ∙ ap (λ (y : List ℕ × V). y.0) (sym here),
            ap (λ b. cond b (Some x.1) (named name es)) is ∙ ap (λ (y : List ℕ × V). Some y.1) (sym here),
          )
      by false is more =
          let rest = after_first (place_of name es) p (sym (ap (λ b. cond b (Some 0) (option_map suc (place_of name es))) is) ∙ h) in
          let there : e ≡ get_or es rest.0 e = g ∙ ap (λ n. get_or (x ∷ es) n e) rest.2 in
          let found = more rest.0 rest.1 there in
          (found.0, ap (λ b. cond b (Some x.1) (named name es)) is ∙ found.1)

  -- A value at the place of a name is the value of the name.
  pub set_place : (name : List ℕ) (es : List (List ℕ × V)) (p : ℕ) (w : V) → place_of name es ≡ Some p
      → slice_set es p (name, w) ≡ set_value (bytes_eq name) es w
  set_place name [] p w h = absurd (none_some p h)
  set_place name (x ∷ es) p w h = by (bytes_eq name x.0) refl (λ q. set_place name es q w)
    where
      by : (b : Bool) → bytes_eq name x.0 ≡ b
          → ((q : ℕ) → place_of name es ≡ Some q → slice_set es q (name, w) ≡ set_value (bytes_eq name) es w)
          → slice_set (x ∷ es) p (name, w) ≡ set_value (bytes_eq name) (x ∷ es) w
      by true is more =
          let first : p ≡ 0 = sym (some_is 0 p (sym (ap (λ b. cond b (Some 0) (option_map suc (place_of name es))) is) ∙ h)) in
          ap (λ n. slice_set (x ∷ es) n (name, w)) first ∙ ap (λ (k : List ℕ). (k, w) ∷ es) (same_name name x.0 is)
          ∙ ap (λ b. cond b ((x.0, w) ∷ es) (x ∷ set_value (bytes_eq name) es w)) (sym is)
      by false is more =
          let rest = after_first (place_of name es) p (sym (ap (λ b. cond b (Some 0) (option_map suc (place_of name es))) is) ∙ h) in
          ap (λ n. slice_set (x ∷ es) n (name, w)) rest.2 ∙ ap (λ l. x ∷ l) (more rest.0 rest.1)
          ∙ ap (λ b. cond b ((x.0, w) ∷ es) (x ∷ set_value (bytes_eq name) es w)) (sym is)

  -- So it is of a value at the place of what stands there.
  pub set_entry : (name : List ℕ) (es : List (List ℕ × V)) (p : ℕ) (e : List ℕ × V) (w : V) → place_of name es ≡ Some p
      → e ≡ get_or es p e → slice_set es p (e.0, w) ≡ set_value (bytes_eq name) es w
  set_entry name es p e w h g =
      ap (λ (k : List ℕ). slice_set es p (k, w)) (sym (at_place name es p e h g).0) ∙ set_place name es p w h

  -- Keys stay where a value is set at the place of what stands there.
  pub keys_stay : (name : List ℕ) (es : List (List ℕ × V)) (p : ℕ) (e : List ℕ × V) (w : V) → place_of name es ≡ Some p
      → e ≡ get_or es p e → keys_of (slice_set es p (e.0, w)) ≡ keys_of es
  keys_stay name es p e w h g = ap keys_of (set_entry name es p e w h g) ∙ keys-set_value (bytes_eq name) es w

  -- A name has a place where something has it, and none where nothing has.
  pub placed : (name : List ℕ) (es : List (List ℕ × V)) → is_some (place_of name es) ≡ is_some (named name es)
  placed name [] = refl
  placed name (x ∷ es) = by (bytes_eq name x.0) (placed name es)
    where
      some_suc : (o : Option ℕ) → is_some (option_map suc o) ≡ is_some o
      some_suc None = refl
      some_suc (Some n) = refl

      by : (b : Bool) → is_some (place_of name es) ≡ is_some (named name es)
          → is_some (cond b (Some 0) (option_map suc (place_of name es))) ≡ is_some (cond b (Some x.1) (named name es))
      by true h = refl
      by false h = some_suc (place_of name es) ∙ h

  -- A place is one of the list.
  pub place_within : (name : List ℕ) (es : List (List ℕ × V)) (p : ℕ) → place_of name es ≡ Some p → p < length es
  place_within name [] p h = absurd (none_some p h)
  place_within name (x ∷ es) p h = by (bytes_eq name x.0) refl (place_within name es)
    where
      by : (b : Bool) → bytes_eq name x.0 ≡ b → ((q : ℕ) → place_of name es ≡ Some q → q < length es) → p < length (x ∷ es)
      by true is more =
          let first : p ≡ 0 = sym (some_is 0 p (sym (ap (λ b. cond b (Some 0) (option_map suc (place_of name es))) is) ∙ h)) in
          omega (arith, first)
      by false is more =
          let rest = after_first (place_of name es) p (sym (ap (λ b. cond b (Some 0) (option_map suc (place_of name es))) is) ∙ h) in
          let less = more rest.0 rest.1 in
          let is_suc = rest.2 in
          omega (arith, less, is_suc)

  -- What stands under a name has a place.
  pub is_there : (name : List ℕ) (es : List (List ℕ × V)) → IsNamed name es → IsSome (place_of name es)
  is_there name es is = placed name es ∙ is

  -- What is at a place of the list where it was looked for, by a name under which something stands.
  pub place_found : (name : List ℕ) (places : List (List ℕ × ℕ)) (es : List (List ℕ × V)) (p : ℕ) → FindsPlaces places es
      → at name places ≡ Some p → IsPlaceOf name es p
  place_found name places es p finds h =
      let first : place_of name es ≡ Some p = sym (finds name) ∙ h in
      record { within = place_within name es p first; first = first }

  pub never_lost : (name : List ℕ) (places : List (List ℕ × ℕ)) (es : List (List ℕ × V)) → FindsPlaces places es → IsNamed name es
      → at name places ≡ None → ⊥
  never_lost name places es finds is h =
      true≢false (sym (is_there name es is) ∙ ap is_some (sym (finds name) ∙ h))

  -- What stands under a name has it, and is in the list.
  pub named_holds : (P : List ℕ × V → Type 0) (name : List ℕ) (es : List (List ℕ × V)) (p : ℕ) (e : List ℕ × V) → IsPlaceOf name es p
      → e ≡ get_or es p e → All P es → P e
  named_holds P name es p e is g all = subst P (sym g) (All-get_or P es p e is.within all)

  -- What stands under a name is changed to this.
  pub changed_to : (name : List ℕ) (es : List (List ℕ × V)) (old w : V) → named name es ≡ Some old
      → changed name (λ _. w) es ≡ set_value (bytes_eq name) es w
  changed_to name es old w h = ap (replaced name (λ _. w) es) h

  -- Places stay where the keys do.
  pub places_stay : (name : List ℕ) (es fs : List (List ℕ × V)) → keys_of es ≡ keys_of fs → place_of name es ≡ place_of name fs
  places_stay name [] [] h = refl
  places_stay name [] (y ∷ fs) h = absurd cc
  places_stay name (x ∷ es) [] h = absurd cc
  places_stay name (x ∷ es) (y ∷ fs) h =
      let first : x.0 ≡ y.0 = cc in
      let rest : keys_of es ≡ keys_of fs = cc in
      ap (λ (k : List ℕ). cond (bytes_eq name k) (Some 0) (option_map suc (place_of name es))) first
      ∙ ap (λ o. cond (bytes_eq name y.0) (Some 0) (option_map suc o)) (places_stay name es fs rest)

  -- Names stay where the keys do.
  pub names_stay : (name : List ℕ) (es fs : List (List ℕ × V)) → keys_of es ≡ keys_of fs → IsNamed name es → IsNamed name fs
  names_stay name es fs h is =
      is_some-lookup (bytes_eq name) fs ∙ ap (list_any (bytes_eq name)) (sym h) ∙ sym (is_some-lookup (bytes_eq name) es) ∙ is

  -- ---- one thing more
  -- where a name stands in a list with one thing more, whose name is new
  pub place_more : (q k : List ℕ) (v : V) (es : List (List ℕ × V)) → named k es ≡ None
      → place_of q (es ++ (k, v) ∷ []) ≡ cond (bytes_eq q k) (Some (length es)) (place_of q es)
  place_more q k v [] h = refl
  place_more q k v (x ∷ es) h = both (bytes_eq k x.0) refl (place_more q k v es)
    where
      both : (b : Bool) → bytes_eq k x.0 ≡ b
          → (named k es ≡ None → place_of q (es ++ (k, v) ∷ []) ≡ cond (bytes_eq q k) (Some (length es)) (place_of q es))
          → place_of q (x ∷ es ++ (k, v) ∷ []) ≡ cond (bytes_eq q k) (Some (length (x ∷ es))) (place_of q (x ∷ es))
      both true is more = absurd (none_some x.1 (sym h ∙ ap (λ b. cond b (Some x.1) (named k es)) is))
      both false is more =
          let rest : named k es ≡ None = sym (ap (λ b. cond b (Some x.1) (named k es)) is) ∙ h in
          let apart : (bytes_eq q x.0 ≡ true) → (bytes_eq q k ≡ true) → ⊥ = λ one two. true≢false (sym (is_same k x.0 (sym (same_name q k two) ∙ same_name q x.0 one)) ∙ is) in
          ap (λ o. cond (bytes_eq q x.0) (Some 0) (option_map suc o)) (more rest)
          ∙ swap (bytes_eq q x.0) (bytes_eq q k) (place_of q es) apart
        where
          swap : (a b : Bool) (o : Option ℕ) → (a ≡ true → b ≡ true → ⊥)
              → cond a (Some 0) (option_map suc (cond b (Some (length es)) o)) ≡ cond b (Some (suc (length es))) (cond a (Some 0) (option_map suc o))
          swap true true o never = absurd (never refl refl)
          swap true false o never = refl
          swap false true o never = refl
          swap false false o never = refl

-- texts that are equal in their order are the same
same_text : (a b : List ℕ) → is_eq (byte_order a b) ≡ true → a ≡ b
same_text a b h = (bytes_eq-Decides a b).0 (sym (is_eq-slice_cmp a b) ∙ h)

-- what is at a name in a map that has this put
at_put : (q k : List ℕ) (v : ℕ) (es : List (List ℕ × ℕ)) → at q (put k v es) ≡ cond (is_eq (byte_order q k)) (Some v) (at q es)
at_put q k v [] = refl
at_put q k v (e ∷ es) = by (byte_order k e.0) refl (at_put q k v es)
  where
    equal : (b : Bool) (w : ℕ) → cond b (Some v) (at q es) ≡ cond b (Some v) (cond b (Some w) (at q es))
    equal true w = refl
    equal false w = refl

    greater : (a b : Bool) → (a ≡ true → b ≡ true → ⊥) → cond a (Some e.1) (cond b (Some v) (at q es)) ≡ cond b (Some v) (cond a (Some e.1) (at q es))
    greater true true never = absurd (never refl refl)
    greater true false never = refl
    greater false true never = refl
    greater false false never = refl

    by : (r : Ordering) → byte_order k e.0 ≡ r → at q (put k v es) ≡ cond (is_eq (byte_order q k)) (Some v) (at q es)
        → at q (match_ordering r ((k, v) ∷ e ∷ es) ((e.0, v) ∷ es) (e ∷ put k v es)) ≡ cond (is_eq (byte_order q k)) (Some v) (at q (e ∷ es))
    by Less is more = refl
    by Equal is more =
        let same : k ≡ e.0 = same_text k e.0 (ap is_eq is) in
        equal (is_eq (byte_order q e.0)) e.1 ∙ ap (λ (x : List ℕ). cond (is_eq (byte_order q x)) (Some v) (at q (e ∷ es))) (sym same)
    by Greater is more =
        let apart : is_eq (byte_order q e.0) ≡ true → is_eq (byte_order q k) ≡ true → ⊥ = λ one two.
        let same : k ≡ e.0 = sym (same_text q k two) ∙ same_text q e.0 one in
        true≢false (sym (ap is_eq (order-same k)) ∙ ap (λ (x : List ℕ). is_eq (byte_order k x)) same ∙ ap is_eq is) in
        ap (λ o. cond (is_eq (byte_order q e.0)) (Some e.1) o) more ∙ greater (is_eq (byte_order q e.0)) (is_eq (byte_order q k)) apart

-- A thing of a new name at the end, and its place in the map.
pub finds_more : {V : Type 0} (places more : List (List ℕ × ℕ)) (es fs : List (List ℕ × V)) (k : List ℕ) (v : V) → FindsPlaces places es
    → named k es ≡ None → more ≡ put k (length es) places → fs ≡ es ++ (k, v) ∷ [] → FindsPlaces more fs
finds_more places more es fs k v finds new put_is push_is q =
    ap (at q) put_is ∙ at_put q k (length es) places ∙ ap (λ b. cond b (Some (length es)) (at q places)) (is_eq-slice_cmp q k)
    ∙ ap (λ o. cond (bytes_eq q k) (Some (length es)) o) (finds q) ∙ sym (place_more q k v es new) ∙ ap (place_of q) (sym push_is)

-- The map goes on finding names in a list with the same keys.
pub finds_still : {V : Type 0} (places : List (List ℕ × ℕ)) (es fs : List (List ℕ × V)) → FindsPlaces places es → keys_of es ≡ keys_of fs
    → FindsPlaces places fs
finds_still places es fs finds same q = finds q ∙ places_stay q es fs same
