-- Entries stay in order where one follows whose name is above the last one's.
use Rattle.std.proofs.Common.{◌≡◌, ℕ, ◌-◌, suc, zero, IsTrue, List, [], ◌∷◌, ◌++◌, map, length, get_or, Some, refl, sym, subst, arith}
use Rattle.std.specs.declared.cmp.Ordering.{Ordering}
use Rattle.std.specs.declared.cmp.Ordering.TheVariants.{Less, Equal, Greater}
use Rattle.std.specs.Prelude.{slice_get}
use Rattle.std.specs.Ordering.{is_lt}
use Rattle.std.specs.List.{AllByRecursion}
use Rattle.std.specs.List.Sorted.{IsStrictlySortedBy}
use Rattle.std.proofs.lemmas.Cmp.{nat_list_cmp_total}
use Rattle.std.proofs.lemmas.List.Elements.{All-nil, All-push}
use Rattle.std.proofs.lemmas.Option.{get_or_from_slice_get}
use Rattle.line_forms.specs.Paths.{IsPart}
use Rattle.bf_world.specs.declared.answer.Entry.{Entry}
use Rattle.bf_world.specs.Maps.{byte_order}
use Rattle.host_edge.specs.Ordered.{AreEntries, CanFollow}

abbrev names : List Entry → List (List ℕ)
names entries = map (λ e. e.name) entries

-- each of the names is below y
abbrev AllBelow : List (List ℕ) → List ℕ → Type 0
AllBelow ns y = AllByRecursion (λ n. byte_order n y ≡ Less) ns

above-push : (x : List ℕ) (es : List Entry) (e : Entry) → AllByRecursion (λ n. byte_order x n ≡ Less) (names es) → byte_order x e.name ≡ Less
    → AllByRecursion (λ n. byte_order x n ≡ Less) (names (es ++ e ∷ []))
above-push x [] e all below = (below, tt)
above-push x (z ∷ zs) e all below = (all.0, above-push x zs e all.1 below)

sorted-push : (es : List Entry) (e : Entry) → IsStrictlySortedBy byte_order (names es) → AllBelow (names es) e.name
    → IsStrictlySortedBy byte_order (names (es ++ e ∷ []))
unfolding IsStrictlySortedBy
sorted-push [] e sorted below = (tt, tt)
sorted-push (x ∷ xs) e sorted below = (above-push x.name xs e sorted.0 below.0, sorted-push xs e sorted.1 below.1)

-- where the last name is below y, all are
last-below : (es : List Entry) (y : List ℕ) (d : Entry) (n : ℕ) → length es ≡ suc n → byte_order (get_or es n d).name y ≡ Less
    → IsStrictlySortedBy byte_order (names es) → AllBelow (names es) y
unfolding IsStrictlySortedBy
last-below [] y d n long below sorted = tt
last-below (x ∷ []) y d zero long below sorted = (below, tt)
last-below (x ∷ []) y d (suc n) long below sorted = absurd (omega arith)
last-below (x ∷ z ∷ zs) y d zero long below sorted = absurd (omega arith)
last-below (x ∷ z ∷ zs) y d (suc n) long below sorted =
    let rest = last-below (z ∷ zs) y d n (omega arith) below sorted.1 in
    (nat_list_cmp_total.trans x.name z.name y sorted.0.0 rest.0, rest)

less-from : (o : Ordering) → IsTrue (is_lt o) → o ≡ Less
less-from Less is = refl
less-from Equal is = grind arith
less-from Greater is = grind arith

pub above-last : (es : List Entry) (last : Entry) (y : List ℕ) → slice_get es (length es - 1) ≡ Some last → IsTrue (is_lt (byte_order last.name y))
    → IsStrictlySortedBy byte_order (names es) → AllBelow (names es) y
above-last [] last y is lt sorted = tt
above-last (x ∷ xs) last y is lt sorted =
    let there : get_or (x ∷ xs) (length (x ∷ xs) - 1) last ≡ last = get_or_from_slice_get (x ∷ xs) (length (x ∷ xs) - 1) last last is in
    let at : length (x ∷ xs) - 1 ≡ length xs = omega arith in
    let same : get_or (x ∷ xs) (length xs) last ≡ last = subst (λ n. get_or (x ∷ xs) n last ≡ last) at there in
    last-below (x ∷ xs) y last (length xs) (omega arith)
    (subst (λ (e : Entry). byte_order e.name y ≡ Less) (sym same) (less-from (byte_order last.name y) lt)) sorted

pub no-entries : AreEntries []
unfolding IsStrictlySortedBy
no-entries = (All-nil (λ (e : Entry). IsPart e.name), tt)

-- an entry that can follow these makes one more of them
pub entries-push : (es : List Entry) (e : Entry) → AreEntries es → CanFollow es e → AreEntries (es ++ e ∷ [])
entries-push es e are follows = (All-push (λ (x : Entry). IsPart x.name) es e are.0 follows.0, sorted-push es e are.1 follows.1)
