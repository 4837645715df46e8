-- What a sample does to the members of groups.
use Rattle.std.proofs.Common.{ℕ, zero, suc, ◌≡◌, ◌==◌, Bool, true, false, cond, not, ◌&&◌, ◌||◌, ◌↔◌, ◌⊎◌, inl, inr, List, [], ◌∷◌, ◌++◌, map, length, filter, Option, Some, None, IsSome, refl, sym, ap, subst, ◌∙◌, arith, bytes_eq, Contains}
use Rattle.std.specs.Option.{option_or}
use Rattle.std.specs.Ordering.{is_lt, ordering_reverse}
use Rattle.std.specs.declared.cmp.Ordering.{Ordering}
use Rattle.std.specs.declared.cmp.Ordering.TheVariants.{Less, Equal, Greater}
use Rattle.std.specs.Cmp.Lexicographic.{nat_list_cmp_total}
use Rattle.std.specs.List.{AllByRecursion, IsDistinct, list_any, list_all}
use Rattle.std.specs.List.Sorted.{IsStrictlySortedBy}
use Rattle.std.proofs.lemmas.Bool.{true≢false, or_parts, and_parts}
use Rattle.std.proofs.lemmas.List.Elements.{Contains-append_left, Contains-append_right, Contains-append_cases}
use Rattle.std.proofs.lemmas.Map.Lookups.{exact_bytes}
use Rattle.bf_world.specs.Maps.{byte_order}
use Rattle.bf_world.proofs.MapLemmas.{order-same}
use Rattle.line_forms.proofs.Sorted.{sorted_with}
use Rattle.group_text.specs.declared.group.Group.{Group}
use Rattle.group_text.specs.declared.test.Test.{Test}
use Rattle.group_text.specs.Tests.{property_of}
use Rattle.group_sample.specs.declared.sample.Sample.{Sample}
use Rattle.group_sample.specs.declared.sample.Sampled.{Sampled}
use Rattle.group_core.specs.declared.kept_group.KeptGroup.{KeptGroup}
use Rattle.group_core.specs.declared.kept_row.KeptRow.{KeptRow}
use Rattle.group_core.specs.Books.{is_newer}
use Rattle.group_core.specs.Keeping.{IsReady, can_change, differs, is_turned, newer_rows, settled, settled_members, with_or_without}
use Rattle.group_core.specs.Lists.{after, before, itself, one_of, row_name, with_all, with_one, without}
use Rattle.group_core.specs.Members.{AreMembers, IsMember, fits, passes, row_passes}
use Rattle.group_core.specs.Tables.{row_in, table_row}
use Rattle.group_core.proofs.Sorting.{found_all, same_name, name_same}
use Rattle.group_core.proofs.Tabling.{other_computer, own_computer, kept_after, distinct_newer, put_row}

abbrev Rows : Type 0
Rows = List ℕ → Option KeptRow

-- ---- a group whose tests come to the same fits alike
abbrev passing : Rows → Test → Bool
passing row_of test = passes test (row_of (property_of test))

abbrev PassAlike : Rows → Rows → List Test → Type 0
PassAlike f g tests = AllByRecursion (λ test. passing f test ≡ passing g test) tests

any_alike : (f g : Rows) (tests : List Test) → PassAlike f g tests → list_any (passing f) tests ≡ list_any (passing g) tests
any_alike f g [] same = refl
any_alike f g (t ∷ tests) same = λ i. same.0 i || any_alike f g tests same.1 i

all_alike : (f g : Rows) (tests : List Test) → PassAlike f g tests → list_all (passing f) tests ≡ list_all (passing g) tests
all_alike f g [] same = refl
all_alike f g (t ∷ tests) same = λ i. same.0 i && all_alike f g tests same.1 i

fits_alike : (f g : Rows) (group : Group) → PassAlike f g group.tests → fits f group ≡ fits g group
fits_alike f g group same = by group.any
  where
    by : (b : Bool) → cond b (list_any (passing f) group.tests) (list_all (passing f) group.tests) ≡ cond b (list_any (passing g) group.tests) (list_all (passing g) group.tests)
    by true = any_alike f g group.tests same
    by false = all_alike f g group.tests same

everywhere : (f g : Rows) (tests : List Test) → ((p : List ℕ) → f p ≡ g p) → PassAlike f g tests
everywhere f g [] same = tt
everywhere f g (t ∷ tests) same = (ap (passes t) (same (property_of t)), everywhere f g tests same)

pub fits_same : (f g : Rows) (group : Group) → ((p : List ℕ) → f p ≡ g p) → fits f group ≡ fits g group
fits_same f g group same = fits_alike f g group (everywhere f g group.tests same)

-- where a test holds there is a row
row_there : (o : Option KeptRow) (test : Test) → passes test o ≡ true → IsSome o
row_there None test e = absurd (true≢false (sym e))
row_there (Some kept) test e = refl

any_row : (f : Rows) (tests : List Test) → list_any (passing f) tests ≡ true → (p : List ℕ) × IsSome (f p)
any_row f [] e = absurd (true≢false (sym e))
any_row f (t ∷ tests) e = by (passing f t) refl (any_row f tests) e
  where
    by : (b : Bool) → passing f t ≡ b → (list_any (passing f) tests ≡ true → (p : List ℕ) × IsSome (f p)) → (b || list_any (passing f) tests) ≡ true → (p : List ℕ) × IsSome (f p)
    by true is rest e = (property_of t, row_there (f (property_of t)) t is)
    by false is rest e = rest e

all_row : (f : Rows) (tests : List Test) → (length tests == 0) ≡ false → list_all (passing f) tests ≡ true → (p : List ℕ) × IsSome (f p)
all_row f [] some e = absurd (true≢false some)
all_row f (t ∷ tests) some e = (property_of t, row_there (f (property_of t)) t (and_parts (passing f t) (list_all (passing f) tests) e).0)

pub fits_row : (f : Rows) (group : Group) → (length group.tests == 0) ≡ false → fits f group ≡ true → (p : List ℕ) × IsSome (f p)
fits_row f group some e = by group.any refl e
  where
    by : (b : Bool) → group.any ≡ b → cond b (list_any (passing f) group.tests) (list_all (passing f) group.tests) ≡ true → (p : List ℕ) × IsSome (f p)
    by true is e = any_row f group.tests e
    by false is e = all_row f group.tests some e

-- ---- members by their rows
pub member_same : (ss ts : List Sample) (group : Group) (c : List ℕ) → ((p : List ℕ) → table_row ss c p ≡ table_row ts c p) → IsMember ss group c → IsMember ts group c
member_same ss ts group c same is =
    let P : Option KeptRow → Type 0 = λ o. IsSome o in
    record {
      property = is.property;
      has_row = subst P (same is.property) is.has_row;
      rows_fit = sym (fits_same (table_row ss c) (table_row ts c) group same) ∙ is.rows_fit;
    }

-- a computer is a member as before where the tests of the group come to the same, and there are some
member_stays : (ss ts : List Sample) (group : Group) (c : List ℕ) → (length group.tests == 0) ≡ false → PassAlike (table_row ss c) (table_row ts c) group.tests → IsMember ss group c → IsMember ts group c
member_stays ss ts group c some same is =
    let fit : fits (table_row ts c) group ≡ true = sym (fits_alike (table_row ss c) (table_row ts c) group same) ∙ is.rows_fit in
    let row = fits_row (table_row ts c) group some fit in
    record { property = row.0; has_row = row.1; rows_fit = fit }

-- a test that a newer row doesn't turn comes to the same by it
same_passes : (t : Test) (there newer : Option KeptRow) → differs t there newer ≡ false → passes t there ≡ passes t (option_or newer there)
same_passes t there None e = refl
same_passes t there (Some row) e = by (passes t there) (row_passes t row) e
  where
    by : (a b : Bool) → cond a (not b) b ≡ false → a ≡ b
    by true true e = refl
    by true false e = absurd (true≢false e)
    by false true e = absurd (true≢false e)
    by false false e = refl

-- ---- lists of names
itself_map : (xs : List (List ℕ)) → map itself xs ≡ xs
itself_map [] = refl
itself_map (x ∷ xs) = ap (λ l. x ∷ l) (itself_map xs)

all_joined : (P : List ℕ → Type 0) (xs : List (List ℕ)) (k : List ℕ) (ys : List (List ℕ)) → AllByRecursion P (xs ++ k ∷ ys) → AllByRecursion P (xs ++ ys)
all_joined P [] k ys h = h.1
all_joined P (x ∷ xs) k ys h = (h.0, all_joined P xs k ys h.1)

drop_middle : (xs : List (List ℕ)) (k : List ℕ) (ys : List (List ℕ)) → IsStrictlySortedBy byte_order (xs ++ k ∷ ys) → IsStrictlySortedBy byte_order (xs ++ ys)
unfolding IsStrictlySortedBy
drop_middle [] k ys h = h.1
drop_middle (x ∷ xs) k ys h = (all_joined (λ y. byte_order x y ≡ Less) xs k ys h.0, drop_middle xs k ys h.1)

pub sorted_put : (name : List ℕ) (names : List (List ℕ)) → IsStrictlySortedBy byte_order names → IsStrictlySortedBy byte_order (with_one itself name names)
sorted_put name names sorted =
    let S : List (List ℕ) → Type 0 = IsStrictlySortedBy byte_order in
    subst S (itself_map (with_one itself name names)) (sorted_with nat_list_cmp_total itself name names (subst S (sym (itself_map names)) sorted))

pub sorted_out : (name : List ℕ) (names : List (List ℕ)) → IsStrictlySortedBy byte_order names → IsStrictlySortedBy byte_order (without itself name names)
sorted_out name names sorted = drop_middle (before itself name names) name (after itself name names) (sorted_put name names sorted)

-- what a filter has is among what was filtered, and passes
filtered_among : (test : List ℕ → Bool) (xs : List (List ℕ)) (c : List ℕ) → Contains (filter test xs) c → Contains xs c × (test c ≡ true)
filtered_among test [] c has = absurd (omega (arith, has.1))
filtered_among test (x ∷ xs) c has = by (test x) refl has (filtered_among test xs c)
  where
    by : (b : Bool) → test x ≡ b → Contains (cond b (x ∷ filter test xs) (filter test xs)) c → (Contains (filter test xs) c → Contains xs c × (test c ≡ true)) → Contains (x ∷ xs) c × (test c ≡ true)
    by false is has rest = let r = rest has in (Contains-append_right (x ∷ []) xs c r.0, r.1)
    by true is (zero, inside, at) rest = ((zero, omega arith, at), ap test (sym at) ∙ is)
    by true is (suc k, inside, at) rest = let r = rest (k, omega (arith, inside), at) in (Contains-append_right (x ∷ []) xs c r.0, r.1)

among_filtered : (test : List ℕ → Bool) (xs : List (List ℕ)) (c : List ℕ) → Contains xs c → test c ≡ true → Contains (filter test xs) c
among_filtered test [] c has is = absurd (omega (arith, has.1))
among_filtered test (x ∷ xs) c (zero, inside, at) is = here (test x) refl
  where
    here : (b : Bool) → test x ≡ b → Contains (cond b (x ∷ filter test xs) (filter test xs)) c
    here true e = (zero, omega arith, at)
    here false e = absurd (true≢false (sym is ∙ ap test (sym at) ∙ e))
among_filtered test (x ∷ xs) c (suc k, inside, at) is = later (test x) (among_filtered test xs c (k, omega (arith, inside), at) is)
  where
    later : (b : Bool) → Contains (filter test xs) c → Contains (cond b (x ∷ filter test xs) (filter test xs)) c
    later true has = Contains-append_right (x ∷ []) (filter test xs) c has
    later false has = has

-- a name is among those before another one, is that one, or is among those behind it
sides : (name : List ℕ) (names : List (List ℕ)) (c : List ℕ) → Contains names c → (c ≡ name → ⊥) → Contains (before itself name names) c ⊎ Contains (after itself name names) c
sides name names c has other = by (byte_order c name) refl
  where
    by : (r : Ordering) → byte_order c name ≡ r → Contains (before itself name names) c ⊎ Contains (after itself name names) c
    by Less e = inl (among_filtered (λ x. is_lt (byte_order x name)) names c has (ap is_lt e))
    by Equal e = absurd (other (exact_bytes c name e))
    by Greater e = inr (among_filtered (λ x. is_lt (byte_order name x)) names c has (ap is_lt (nat_list_cmp_total.antisymm name c ∙ ap ordering_reverse e)))

-- with a name put
pub among_put : (name : List ℕ) (names : List (List ℕ)) (c : List ℕ) → (c ≡ name → ⊥) → Contains names c → Contains (with_one itself name names) c
among_put name names c other has = elim (sides name names c has other) [
  | inl front ↦ Contains-append_left (before itself name names) (name ∷ after itself name names) c front
  | inr back ↦ Contains-append_right (before itself name names) (name ∷ after itself name names) c (Contains-append_right (name ∷ []) (after itself name names) c back)
]

pub put_among : (name : List ℕ) (names : List (List ℕ)) (c : List ℕ) → (c ≡ name → ⊥) → Contains (with_one itself name names) c → Contains names c
put_among name names c other has = elim (Contains-append_cases (before itself name names) (name ∷ after itself name names) c has) [
  | inl front ↦ (filtered_among (λ x. is_lt (byte_order x name)) names c front).0
  | inr back ↦ elim (Contains-append_cases (name ∷ []) (after itself name names) c back) [
    | inl one ↦ absurd (other (only one))
    | inr behind ↦ (filtered_among (λ x. is_lt (byte_order name x)) names c behind).0
  ]
]
  where
    only : Contains (name ∷ []) c → c ≡ name
    only (zero, inside, at) = sym at
    only (suc k, inside, at) = absurd (omega (arith, inside))

pub put_there : (name : List ℕ) (names : List (List ℕ)) → Contains (with_one itself name names) name
put_there name names = Contains-append_right (before itself name names) (name ∷ after itself name names) name (zero, omega arith, refl)

-- with a name taken out
pub among_out : (name : List ℕ) (names : List (List ℕ)) (c : List ℕ) → (c ≡ name → ⊥) → Contains names c → Contains (without itself name names) c
among_out name names c other has = elim (sides name names c has other) [
  | inl front ↦ Contains-append_left (before itself name names) (after itself name names) c front
  | inr back ↦ Contains-append_right (before itself name names) (after itself name names) c back
]

pub out_among : (name : List ℕ) (names : List (List ℕ)) (c : List ℕ) → Contains (without itself name names) c → Contains names c × (c ≡ name → ⊥)
out_among name names c has = elim (Contains-append_cases (before itself name names) (after itself name names) c has) [
  | inl front ↦ let r = filtered_among (λ x. is_lt (byte_order x name)) names c front in (r.0, λ same. apart (sym r.1 ∙ ap (λ n. is_lt (byte_order n name)) same))
  | inr back ↦ let r = filtered_among (λ x. is_lt (byte_order name x)) names c back in (r.0, λ same. apart (sym r.1 ∙ ap (λ n. is_lt (byte_order name n)) same))
]
  where
    apart : true ≡ is_lt (byte_order name name) → ⊥
    apart e = true≢false (e ∙ ap is_lt (order-same name))

-- ---- a sample and a group
-- what is known where a sample is put
pub record Putting (ss : List Sample) (s : Sample) (kept : List KeptRow) : Type 0 where
  pub distinct : IsDistinct bytes_eq (map (λ (row : Sampled). row.property) s.rows)
  pub table : (p : List ℕ) → one_of row_name p kept ≡ table_row ss s.computer p

abbrev after_rows : List KeptRow → Sample → List KeptRow
after_rows kept s = with_all row_name (newer_rows kept s) kept

module _ (ss : List Sample) (s : Sample) (kept : List KeptRow) (known : Putting ss s kept) where
  -- the rows of the sample's computer
  pub own_rows : (p : List ℕ) → one_of row_name p (after_rows kept s) ≡ table_row (ss ++ s ∷ []) s.computer p
  own_rows p =
      kept_after kept s p known.distinct ∙ ap (λ o. put_row (row_in p s) o) (known.table p) ∙ sym (own_computer ss s s.computer p (name_same s.computer s.computer refl))

  -- other computers are members as before
  others_stay : (group : Group) (c : List ℕ) → (c ≡ s.computer → ⊥) → IsMember ss group c ↔ IsMember (ss ++ s ∷ []) group c
  others_stay group c other =
      let same : (p : List ℕ) → table_row (ss ++ s ∷ []) c p ≡ table_row ss c p = λ p. other_computer ss s c p (unlike (bytes_eq s.computer c) refl) in
      (member_same ss (ss ++ s ∷ []) group c (λ p. sym (same p)), member_same (ss ++ s ∷ []) ss group c same)
    where
      unlike : (b : Bool) → bytes_eq s.computer c ≡ b → bytes_eq s.computer c ≡ false
      unlike false e = e
      unlike true e = absurd (other (sym (same_name s.computer c e)))

  -- a group of which no test is turned keeps its members
  unturned_test : (t : Test) → is_turned kept (newer_rows kept s) t ≡ false → passing (table_row ss s.computer) t ≡ passing (table_row (ss ++ s ∷ []) s.computer) t
  unturned_test t e =
      let p = property_of t in
      let test : Sampled → Bool = λ row. is_newer s.seq (one_of row_name row.property kept) in
      ap (passes t) (sym (known.table p)) ∙ same_passes t (one_of row_name p kept) (one_of row_name p (newer_rows kept s)) e
      ∙ ap (passes t) (sym (found_all row_name (newer_rows kept s) kept p (distinct_newer s.seq test s.rows known.distinct)) ∙ own_rows p)

  unturned_tests : (tests : List Test) → list_any (is_turned kept (newer_rows kept s)) tests ≡ false → PassAlike (table_row ss s.computer) (table_row (ss ++ s ∷ []) s.computer) tests
  unturned_tests [] e = tt
  unturned_tests (t ∷ tests) e =
      let parts = or_parts (is_turned kept (newer_rows kept s) t) (list_any (is_turned kept (newer_rows kept s)) tests) e in
      (unturned_test t parts.0, unturned_tests tests parts.1)

  back_tests : (tests : List Test) → PassAlike (table_row ss s.computer) (table_row (ss ++ s ∷ []) s.computer) tests → PassAlike (table_row (ss ++ s ∷ []) s.computer) (table_row ss s.computer) tests
  back_tests [] h = tt
  back_tests (t ∷ tests) h = (sym h.0, back_tests tests h.1)

  same_or_other : (P : Type 0) (c : List ℕ) → (c ≡ s.computer → P) → ((c ≡ s.computer → ⊥) → P) → P
  same_or_other P c same other = by (bytes_eq c s.computer) refl
    where
      by : (b : Bool) → bytes_eq c s.computer ≡ b → P
      by true e = same (same_name c s.computer e)
      by false e = other (λ is. true≢false (sym (name_same c s.computer is) ∙ e))

  pub untouched : (group : Group) (members : List (List ℕ)) → can_change kept (newer_rows kept s) group ≡ false → AreMembers ss group members → AreMembers (ss ++ s ∷ []) group members
  untouched group members none are =
      let parts = or_parts (length group.tests == 0) (list_any (is_turned kept (newer_rows kept s)) group.tests) none in
      let alike = unturned_tests group.tests parts.1 in
      record {
        each = λ c.
            same_or_other (Contains members c ↔ IsMember (ss ++ s ∷ []) group c) c
            (λ same. let P : List ℕ → Type 0 = λ n. Contains members n ↔ IsMember (ss ++ s ∷ []) group n in
            subst P (sym same) (
              (λ has. member_stays ss (ss ++ s ∷ []) group s.computer parts.0 alike ((are.each s.computer).0 has)),
              (λ is. (are.each s.computer).1 (member_stays (ss ++ s ∷ []) ss group s.computer parts.0 (back_tests group.tests alike) is)),
            ))
            (λ other. ((λ has. (others_stay group c other).0 ((are.each c).0 has)), (λ is. (are.each c).1 ((others_stay group c other).1 is))));
        ascending = are.ascending;
      }

  -- one that may gain or lose the computer has it where its rows fit
  pub touched : (group : Group) (members : List (List ℕ)) (fit : Bool) → fits (λ p. one_of row_name p (after_rows kept s)) group ≡ fit → ((p : List ℕ) × IsSome (one_of row_name p (after_rows kept s)))
      → AreMembers ss group members → AreMembers (ss ++ s ∷ []) group (with_or_without fit s.computer members)
  touched group members true fit some are =
      let fitting : fits (table_row (ss ++ s ∷ []) s.computer) group ≡ true = sym (fits_same (λ p. one_of row_name p (after_rows kept s)) (table_row (ss ++ s ∷ []) s.computer) group own_rows) ∙ fit in
      let is : IsMember (ss ++ s ∷ []) group s.computer = record { property = some.0; has_row = subst IsSome (own_rows some.0) some.1; rows_fit = fitting } in
      record {
        each = λ c.
            same_or_other (Contains (with_one itself s.computer members) c ↔ IsMember (ss ++ s ∷ []) group c) c
            (λ same. let P : List ℕ → Type 0 = λ n. Contains (with_one itself s.computer members) n ↔ IsMember (ss ++ s ∷ []) group n in
            subst P (sym same) ((λ has. is), (λ member. put_there s.computer members)))
            (λ other. (
              (λ has. (others_stay group c other).0 ((are.each c).0 (put_among s.computer members c other has))),
              (λ member. among_put s.computer members c other ((are.each c).1 ((others_stay group c other).1 member))),
            ));
        ascending = sorted_put s.computer members are.ascending;
      }
  touched group members false fit some are =
      let fitting : fits (table_row (ss ++ s ∷ []) s.computer) group ≡ false = sym (fits_same (λ p. one_of row_name p (after_rows kept s)) (table_row (ss ++ s ∷ []) s.computer) group own_rows) ∙ fit in
      record {
        each = λ c.
            same_or_other (Contains (without itself s.computer members) c ↔ IsMember (ss ++ s ∷ []) group c) c
            (λ same. let P : List ℕ → Type 0 = λ n. Contains (without itself s.computer members) n ↔ IsMember (ss ++ s ∷ []) group n in
            subst P (sym same) (
              (λ has. absurd ((out_among s.computer members s.computer has).1 refl)),
              (λ member. absurd (true≢false (sym member.rows_fit ∙ fitting))),
            ))
            (λ other. (
              (λ has. (others_stay group c other).0 ((are.each c).0 (out_among s.computer members c has).0)),
              (λ member. among_out s.computer members c other ((are.each c).1 ((others_stay group c other).1 member))),
            ));
        ascending = sorted_out s.computer members are.ascending;
      }

  -- a group that was made ready and settled has its members
  pub settles : (group : KeptGroup) → IsReady s.computer kept (newer_rows kept s) group → ((p : List ℕ) × IsSome (one_of row_name p (after_rows kept s))) → AreMembers ss group.group group.members.items
      → AreMembers (ss ++ s ∷ []) (settled (after_rows kept s) group).group (settled (after_rows kept s) group).members
  settles group ready some are = by (can_change kept (newer_rows kept s) group.group) refl
    where
      fit : Bool
      fit = fits (λ p. one_of row_name p (after_rows kept s)) group.group

      M : Option (List ℕ) → Type 0
      M o = AreMembers (ss ++ s ∷ []) group.group (settled_members o fit group.members.items)

      by : (b : Bool) → can_change kept (newer_rows kept s) group.group ≡ b → M group.spare
      by true is = subst M (sym (ready.changes is)) (touched group.group group.members.items fit refl some are)
      by false is = subst M (sym (ready.stays is)) (untouched group.group group.members.items is are)

-- without a newer row nothing changes
pub nothing_new : (ss : List Sample) (s : Sample) (kept : List KeptRow) → Putting ss s kept → newer_rows kept s ≡ [] → (c p : List ℕ) → table_row (ss ++ s ∷ []) c p ≡ table_row ss c p
nothing_new ss s kept known none c p = by (bytes_eq s.computer c) refl
  where
    own : one_of row_name p kept ≡ table_row (ss ++ s ∷ []) s.computer p
    own = sym (ap (λ rows. one_of row_name p (with_all row_name rows kept)) none) ∙ own_rows ss s kept known p

    by : (b : Bool) → bytes_eq s.computer c ≡ b → table_row (ss ++ s ∷ []) c p ≡ table_row ss c p
    by false e = other_computer ss s c p e
    by true e =
        let P : List ℕ → Type 0 = λ n. table_row (ss ++ s ∷ []) n p ≡ table_row ss n p in
        subst P (same_name s.computer c e) (sym own ∙ known.table p)

pub members_same : (ss ts : List Sample) (group : Group) (members : List (List ℕ)) → ((c p : List ℕ) → table_row ts c p ≡ table_row ss c p) → AreMembers ss group members → AreMembers ts group members
members_same ss ts group members same are = record {
  each = λ c. ((λ has. member_same ss ts group c (λ p. sym (same c p)) ((are.each c).0 has)), (λ is. (are.each c).1 (member_same ts ss group c (same c) is)));
  ascending = are.ascending;
}
