-- The order of keys: it is total, and keys that tie are one. Other crates may cite these lemmas.
use Rattle.std.proofs.Common.{◌≡◌, ℕ, List, true, refl, ap}
use Rattle.std.specs.declared.cmp.Ordering.{Ordering}
use Rattle.std.specs.declared.cmp.Ordering.TheVariants.{Less, Equal, Greater}
use Rattle.std.specs.Ordering.{is_eq, nat_cmp, ordering_then, ordering_reverse}
use Rattle.std.specs.Cmp.{IsTotalOrder}
use Rattle.std.specs.Cmp.Lexicographic.{slice_cmp}
use Rattle.std.proofs.lemmas.Cmp.{then_total, on_total, nat_cmp_total, nat_list_cmp_total, tied_itself}
use Rattle.std.proofs.lemmas.Map.Lookups.{exact_pairs, exact_unsigned, exact_bytes}
use Rattle.desk_keep.specs.Keys.{Key, key_cmp, same_key}

pub key_total : IsTotalOrder key_cmp
key_total =
    then_total (on_total (λ (k : Key). k.table) nat_cmp_total)
    (then_total (on_total (λ (k : Key). k.name) nat_list_cmp_total) (on_total (λ (k : Key). k.number) nat_cmp_total))

-- keys that tie are one
pub key_exact : (a b : Key) → key_cmp a b ≡ Equal → a ≡ b
key_exact a b tied =
    ap (λ (p : ℕ × (List ℕ × ℕ)). record { table = p.0; name = p.1.0; number = p.1.1 })
    (exact_pairs nat_cmp (λ (x y : List ℕ × ℕ). ordering_then (slice_cmp nat_cmp x.0 y.0) (nat_cmp x.1 y.1)) exact_unsigned
    (exact_pairs (slice_cmp nat_cmp) nat_cmp exact_bytes exact_unsigned) (a.table, (a.name, a.number)) (b.table, (b.name, b.number)) tied)

pub equal_from_test : (o : Ordering) → is_eq o ≡ true → o ≡ Equal
equal_from_test Less h = cc
equal_from_test Equal h = refl
equal_from_test Greater h = cc

pub same_exact : (a b : Key) → same_key a b ≡ true → a ≡ b
same_exact a b same = key_exact a b (equal_from_test (key_cmp a b) same)

pub same_itself : (a : Key) → same_key a a ≡ true
same_itself a = ap is_eq (tied_itself key_total a)

-- a key the other way round
pub turned : (a b : Key) → key_cmp b a ≡ ordering_reverse (key_cmp a b)
turned a b = key_total.antisymm b a
