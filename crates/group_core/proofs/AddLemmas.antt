-- Which properties of an analysis are kept, new, or have the name of another one. Other crates may cite these lemmas.
use Rattle.std.proofs.Common.{ℕ, zero, suc, ◌≡◌, ◌≢◌, ◌<◌, ◌≤◌, ◌+◌, Bool, true, false, cond, not, ◌||◌, ◌⊎◌, inl, inr, List, [], ◌∷◌, ◌++◌, length, get_or, take, drop, filter, find, All, Contains, Some, None, bytes_eq, refl, sym, ap, subst, ◌∙◌, arith, append-nil, length-append, Result, Ok, Err}
use Rattle.std.specs.Prelude.{is_ok}
use Rattle.std.specs.List.{AllByRecursion, IsDistinct}
use Rattle.std.specs.Ordering.{int_eq}
use Rattle.std.proofs.lemmas.Bool.{or_parts, true≢false}
use Rattle.std.proofs.lemmas.Bool.Decides.{Decides-int_eq}
use Rattle.std.proofs.lemmas.List.{take-append-drop, take_more}
use Rattle.std.proofs.Math.Seq.{drop-cons}
use Rattle.std.proofs.lemmas.List.Elements.{All-nil, All-append, All-cons, All-filter, All-head, All-push, All-tail, Contains-append_right, filter_more}
use Rattle.group_text.specs.declared.property.Property.{Property}
use Rattle.group_text.specs.Properties.{AreProperties, IsQuestion, names_of}
use Rattle.group_core.specs.Books.{IsFirstTaken, IsKept, IsTaken, has_name, new_ones}
use Rattle.group_core.proofs.Sorting.{no_name, same_name, name_same}

-- ---- properties are the same, or they differ
pub same_or_not : (a b : Property) → (a ≡ b) ⊎ (a ≢ b)
same_or_not a b = by (bytes_eq a.name b.name) (int_eq a.period b.period) (bytes_eq a.question b.question) refl refl refl
  where
    by : (x y z : Bool) → bytes_eq a.name b.name ≡ x → int_eq a.period b.period ≡ y → bytes_eq a.question b.question ≡ z → (a ≡ b) ⊎ (a ≢ b)
    by true true true n t q =
        let period : a.period ≡ b.period = (Decides-int_eq a.period b.period).0 t in
        inl (λ i. record { name = same_name a.name b.name n i; period = period i; question = same_name a.question b.question q i })
    by false y z n t q = inr (λ e. no_name a.name b.name n (ap (λ (p : Property). p.name) e))
    by true false z n t q = inr (λ e. true≢false (sym ((Decides-int_eq a.period b.period).1 (ap (λ (p : Property). p.period) e)) ∙ t))
    by true true false n t q = inr (λ e. no_name a.question b.question q (ap (λ (p : Property). p.question) e))

pub not_false : (b : Bool) → not b ≡ true → b ≡ false
not_false true e = absurd (true≢false (sym e))
not_false false e = refl

pub not_if : (b : Bool) → (b ≡ true → ⊥) → not b ≡ true
not_if true none = absurd (none refl)
not_if false none = refl

or_true : (b : Bool) → (b || true) ≡ true
or_true true = refl
or_true false = refl

-- ---- a name that is kept
abbrev Named : List Property → List ℕ → Type 0
Named kept name = (other : Property) × Contains kept other × (other.name ≡ name)

pub found_name : (kept : List Property) (name : List ℕ) → has_name kept name ≡ true → Named kept name
found_name [] name e = absurd (true≢false (sym e))
found_name (p ∷ kept) name e = by (bytes_eq p.name name) refl (found_name kept name) e
  where
    by : (b : Bool) → bytes_eq p.name name ≡ b → (has_name kept name ≡ true → Named kept name) → (b || has_name kept name) ≡ true → Named (p ∷ kept) name
    by true is rest e = (p, (zero, omega arith, refl), same_name p.name name is)
    by false is rest e = let there = rest e in (there.0, Contains-append_right (p ∷ []) kept there.0 there.1, there.2)

pub has_found : (kept : List Property) (name : List ℕ) (other : Property) → Contains kept other → other.name ≡ name → has_name kept name ≡ true
has_found [] name other (k, inside, at) is = absurd (omega (arith, inside))
has_found (p ∷ kept) name other (zero, inside, at) is = ap (λ b. b || has_name kept name) (name_same p.name name (ap (λ (x : Property). x.name) at ∙ is))
has_found (p ∷ kept) name other (suc k, inside, at) is =
    ap (λ b. bytes_eq p.name name || b) (has_found kept name other (k, omega (arith, inside), at) is) ∙ or_true (bytes_eq p.name name)

-- the one that is found by a name
abbrev pub is_named : List ℕ → Property → Bool
is_named name other = bytes_eq other.name name

pub found_is : (kept : List Property) (name : List ℕ) (other : Property) → find (is_named name) kept ≡ Some other → Contains kept other × (other.name ≡ name)
found_is [] name other e = cc
found_is (p ∷ kept) name other e = by (bytes_eq p.name name) refl (found_is kept name other) e
  where
    by : (b : Bool) → bytes_eq p.name name ≡ b → (find (is_named name) kept ≡ Some other → Contains kept other × (other.name ≡ name)) → cond b (Some p) (find (is_named name) kept) ≡ Some other
        → Contains (p ∷ kept) other × (other.name ≡ name)
    by true is rest e =
        let same : p ≡ other = cc in
        ((zero, omega arith, same), ap (λ (x : Property). x.name) (sym same) ∙ same_name p.name name is)
    by false is rest e = let there = rest e in (Contains-append_right (p ∷ []) kept other there.0, there.1)

pub none_found : (kept : List Property) (name : List ℕ) → find (is_named name) kept ≡ None → has_name kept name ≡ false
none_found [] name e = refl
none_found (p ∷ kept) name e = by (bytes_eq p.name name) refl (none_found kept name) e
  where
    by : (b : Bool) → bytes_eq p.name name ≡ b → (find (is_named name) kept ≡ None → has_name kept name ≡ false) → cond b (Some p) (find (is_named name) kept) ≡ None → (bytes_eq p.name name || has_name kept name) ≡ false
    by true is rest e = cc
    by false is rest e = ap (λ b. b || has_name kept name) is ∙ rest e

-- of distinct names each has one property
apart : (name : List ℕ) (kept : List Property) (other : Property) → AllByRecursion (λ o. bytes_eq name o ≡ false) (names_of kept) → Contains kept other → name ≢ other.name
apart name [] other all (k, inside, at) e = omega (arith, inside)
apart name (p ∷ kept) other all (zero, inside, at) e = no_name name p.name all.0 (e ∙ ap (λ (x : Property). x.name) (sym at))
apart name (p ∷ kept) other all (suc k, inside, at) e = apart name kept other all.1 (k, omega (arith, inside), at) e

pub one_named : (kept : List Property) (a b : Property) → IsDistinct bytes_eq (names_of kept) → Contains kept a → Contains kept b → a.name ≡ b.name → a ≡ b
unfolding IsDistinct
one_named [] a b distinct (k, inside, at) has same = absurd (omega (arith, inside))
one_named (p ∷ kept) a b distinct (zero, i, at) (zero, j, also) same = sym at ∙ also
one_named (p ∷ kept) a b distinct (zero, i, at) (suc m, j, also) same =
    absurd (apart p.name kept b distinct.0 (m, omega (arith, j), also) (ap (λ (x : Property). x.name) at ∙ same))
one_named (p ∷ kept) a b distinct (suc k, i, at) (zero, j, also) same =
    absurd (apart p.name kept a distinct.0 (k, omega (arith, i), at) (ap (λ (x : Property). x.name) also ∙ sym same))
one_named (p ∷ kept) a b distinct (suc k, i, at) (suc m, j, also) same =
    one_named kept a b distinct.1 (k, omega (arith, i), at) (m, omega (arith, j), also) same

-- ---- whether its name is that of another one
pub taken_by : (kept : List Property) (p other : Property) → find (is_named p.name) kept ≡ Some other → other ≢ p → IsTaken kept p
taken_by kept p other found differs =
    let there = found_is kept p.name other found in record { other = other; among = there.0; same_name = there.1; differs = differs }

pub not_taken_by : (kept : List Property) (p other : Property) → IsDistinct bytes_eq (names_of kept) → find (is_named p.name) kept ≡ Some other → other ≡ p → IsTaken kept p → ⊥
not_taken_by kept p other distinct found same taken =
    let there = found_is kept p.name other found in
    taken.differs (one_named kept taken.other other distinct taken.among there.0 (taken.same_name ∙ sym there.1) ∙ same)

pub not_taken : (kept : List Property) (p : Property) → find (is_named p.name) kept ≡ None → IsTaken kept p → ⊥
not_taken kept p none taken =
    true≢false (sym (has_found kept p.name taken.other taken.among taken.same_name) ∙ none_found kept p.name none)

-- none so far is
pub free_more : (kept properties : List Property) (i : ℕ) (p : Property) → i < length properties → p ≡ get_or properties i p → All (λ q. IsTaken kept q → ⊥) (take i properties) → (IsTaken kept p → ⊥)
    → All (λ q. IsTaken kept q → ⊥) (take (i + 1) properties)
free_more kept properties i p inside is free not_p =
    let P : Property → Type 0 = λ q. IsTaken kept q → ⊥ in
    let A : List Property → Type 0 = All P in
    subst A (sym (take_more properties i p inside ∙ ap (λ q. take i properties ++ q ∷ []) (sym is))) (All-push P (take i properties) p free not_p)

-- the first one is at this place
pub first_at : (kept properties : List Property) (i : ℕ) (p : Property) → i < length properties → p ≡ get_or properties i p → All (λ q. IsTaken kept q → ⊥) (take i properties) → IsTaken kept p → IsFirstTaken kept properties p.name
first_at kept properties i p inside is free taken = record {
  before = take i properties;
  first = p;
  after = drop (suc i) properties;
  properties_are = sym (take-append-drop i properties) ∙ ap (λ l. take i properties ++ l) (drop-cons properties i p inside ∙ ap (λ q. q ∷ drop (suc i) properties) (sym is));
  free = free;
  taken = taken;
  name_is = refl;
}

-- ---- whether there is a new one
kept_one : (kept : List Property) (p : Property) → has_name kept p.name ≡ true → (IsTaken kept p → ⊥) → Contains kept p
kept_one kept p has free = by (found_name kept p.name has)
  where
    by : Named kept p.name → Contains kept p
    by (other, among, same) = which (same_or_not other p)
      where
        which : (other ≡ p) ⊎ (other ≢ p) → Contains kept p
        which (inl e) = subst (Contains kept) e among
        which (inr differs) = absurd (free (record { other = other; among = among; same_name = same; differs = differs }))

pub all_kept : (kept ps : List Property) → All (λ p. IsTaken kept p → ⊥) ps → length (new_ones kept ps) ≡ 0 → All (IsKept kept) ps
all_kept kept [] free none = All-nil (IsKept kept)
all_kept kept (p ∷ ps) free none = by (has_name kept p.name) refl (all_kept kept ps (All-tail (λ q. IsTaken kept q → ⊥) p ps free)) none
  where
    by : (b : Bool) → has_name kept p.name ≡ b → (length (new_ones kept ps) ≡ 0 → All (IsKept kept) ps) → length (cond (not b) (p ∷ new_ones kept ps) (new_ones kept ps)) ≡ 0 → All (IsKept kept) (p ∷ ps)
    by true is rest none = All-cons (IsKept kept) p ps (kept_one kept p is (All-head (λ q. IsTaken kept q → ⊥) p ps free)) (rest none)
    by false is rest none = absurd (omega (arith, none))

pub not_all_kept : (kept ps : List Property) → 0 < length (new_ones kept ps) → All (IsKept kept) ps → ⊥
not_all_kept kept [] some all = omega (arith, some)
not_all_kept kept (p ∷ ps) some all = by (has_name kept p.name) refl (λ h. not_all_kept kept ps h (All-tail (IsKept kept) p ps all)) some
  where
    by : (b : Bool) → has_name kept p.name ≡ b → (0 < length (new_ones kept ps) → ⊥) → 0 < length (cond (not b) (p ∷ new_ones kept ps) (new_ones kept ps)) → ⊥
    by true is rest some = rest some
    by false is rest some = true≢false (sym (has_found kept p.name p (All-head (IsKept kept) p ps all) refl) ∙ is)

-- one more that is looked at
pub new_more : (kept properties : List Property) (i : ℕ) (p : Property) → i < length properties → p ≡ get_or properties i p → not (has_name kept p.name) ≡ true
    → new_ones kept (take (i + 1) properties) ≡ new_ones kept (take i properties) ++ p ∷ []
new_more kept properties i p inside is new =
    let test : Property → Bool = λ q. not (has_name kept q.name) in
    filter_more test properties i p inside ∙ ap (λ q. filter test (take i properties) ++ cond (test q) (q ∷ []) []) (sym is) ∙ ap (λ b. filter test (take i properties) ++ cond b (p ∷ []) []) new

pub old_more : (kept properties : List Property) (i : ℕ) (p : Property) → i < length properties → p ≡ get_or properties i p → not (has_name kept p.name) ≡ false
    → new_ones kept (take (i + 1) properties) ≡ new_ones kept (take i properties)
old_more kept properties i p inside is old =
    let test : Property → Bool = λ q. not (has_name kept q.name) in
    filter_more test properties i p inside ∙ ap (λ q. filter test (take i properties) ++ cond (test q) (q ∷ []) []) (sym is) ∙ ap (λ b. filter test (take i properties) ++ cond b (p ∷ []) []) old
    ∙ append-nil (filter test (take i properties))

pub fewer_new : (kept ps : List Property) → length (new_ones kept ps) ≤ length ps
fewer_new kept [] = omega arith
fewer_new kept (p ∷ ps) = by (has_name kept p.name) (fewer_new kept ps)
  where
    by : (b : Bool) → length (new_ones kept ps) ≤ length ps → length (cond (not b) (p ∷ new_ones kept ps) (new_ones kept ps)) ≤ suc (length ps)
    by true le = omega (arith, le)
    by false le = omega (arith, le)

-- ---- the new ones behind those that are kept
all_joined : (P : List ℕ → Type 0) (xs ys : List Property) → AllByRecursion P (names_of xs) → AllByRecursion P (names_of ys) → AllByRecursion P (names_of (xs ++ ys))
all_joined P [] ys a b = b
all_joined P (x ∷ xs) ys a b = (a.0, all_joined P xs ys a.1 b)

-- none of these has a name that is kept
abbrev AreApart : List Property → List Property → Type 0
AreApart kept ps = All (λ p. has_name kept p.name ≡ false) ps

head_apart : (k : Property) (kept ps : List Property) → AreApart (k ∷ kept) ps → AllByRecursion (λ o. bytes_eq k.name o ≡ false) (names_of ps)
head_apart k kept [] all = tt
head_apart k kept (p ∷ ps) all =
    let P : Property → Type 0 = λ q. has_name (k ∷ kept) q.name ≡ false in
    ((or_parts (bytes_eq k.name p.name) (has_name kept p.name) (All-head P p ps all)).0, head_apart k kept ps (All-tail P p ps all))

tail_apart : (k : Property) (kept ps : List Property) → AreApart (k ∷ kept) ps → AreApart kept ps
tail_apart k kept [] all = All-nil (λ p. has_name kept p.name ≡ false)
tail_apart k kept (p ∷ ps) all =
    let P : Property → Type 0 = λ q. has_name (k ∷ kept) q.name ≡ false in
    All-cons (λ q. has_name kept q.name ≡ false) p ps ((or_parts (bytes_eq k.name p.name) (has_name kept p.name) (All-head P p ps all)).1) (tail_apart k kept ps (All-tail P p ps all))

joined_distinct : (kept ps : List Property) → IsDistinct bytes_eq (names_of kept) → IsDistinct bytes_eq (names_of ps) → AreApart kept ps → IsDistinct bytes_eq (names_of (kept ++ ps))
unfolding IsDistinct
joined_distinct [] ps a b all = b
joined_distinct (k ∷ kept) ps a b all =
    (all_joined (λ o. bytes_eq k.name o ≡ false) kept ps a.0 (head_apart k kept ps all), joined_distinct kept ps a.1 b (tail_apart k kept ps all))

new_apart : (kept ps : List Property) → AreApart kept (new_ones kept ps)
new_apart kept [] = All-nil (λ p. has_name kept p.name ≡ false)
new_apart kept (p ∷ ps) = by (has_name kept p.name) refl (new_apart kept ps)
  where
    by : (b : Bool) → has_name kept p.name ≡ b → AreApart kept (new_ones kept ps) → AreApart kept (cond (not b) (p ∷ new_ones kept ps) (new_ones kept ps))
    by true is rest = rest
    by false is rest = All-cons (λ q. has_name kept q.name ≡ false) p (new_ones kept ps) is rest

fewer_names : (name : List ℕ) (test : Property → Bool) (ps : List Property) → AllByRecursion (λ o. bytes_eq name o ≡ false) (names_of ps) → AllByRecursion (λ o. bytes_eq name o ≡ false) (names_of (filter test ps))
fewer_names name test [] all = tt
fewer_names name test (p ∷ ps) all = by (test p) (fewer_names name test ps all.1)
  where
    by : (b : Bool) → AllByRecursion (λ o. bytes_eq name o ≡ false) (names_of (filter test ps)) → AllByRecursion (λ o. bytes_eq name o ≡ false) (names_of (cond b (p ∷ filter test ps) (filter test ps)))
    by true rest = (all.0, rest)
    by false rest = rest

fewer_distinct : (test : Property → Bool) (ps : List Property) → IsDistinct bytes_eq (names_of ps) → IsDistinct bytes_eq (names_of (filter test ps))
unfolding IsDistinct
fewer_distinct test [] distinct = tt
fewer_distinct test (p ∷ ps) distinct = by (test p) (fewer_distinct test ps distinct.1)
  where
    by : (b : Bool) → IsDistinct bytes_eq (names_of (filter test ps)) → IsDistinct bytes_eq (names_of (cond b (p ∷ filter test ps) (filter test ps)))
    by true rest = (fewer_names p.name test ps distinct.0, rest)
    by false rest = rest

pub properties_with : (kept ps : List Property) → AreProperties kept → AreProperties ps → AreProperties (kept ++ new_ones kept ps)
properties_with kept ps are also =
    let test : Property → Bool = λ p. not (has_name kept p.name) in
    let Q : Property → Type 0 = λ p. IsQuestion p.question in
    record {
      distinct = joined_distinct kept (new_ones kept ps) are.distinct (fewer_distinct test ps also.distinct) (new_apart kept ps);
      questions = All-append Q kept (new_ones kept ps) are.questions (All-filter test Q ps also.questions);
    }

-- the properties after they were appended, or not
pub after_append : {T E : Type 0} (r : Result T E) (kept ps l : List Property) (limit : ℕ) → AreProperties kept → AreProperties ps → length kept ≤ limit → length kept + length (new_ones kept ps) ≤ limit
    → l ≡ cond (is_ok r) (kept ++ new_ones kept ps) kept → AreProperties l × (length l ≤ limit)
after_append (Ok x) kept ps l limit are also few both is =
    let count : length l ≡ length kept + length (new_ones kept ps) = ap (length {A = Property}) is ∙ length-append kept (new_ones kept ps) in
    (subst AreProperties (sym is) (properties_with kept ps are also), omega (arith, both, count))
after_append (Err e) kept ps l limit are also few both is =
    let count : length l ≡ length kept = ap (length {A = Property}) is in
    (subst AreProperties (sym is) are, omega (arith, few, count))
