-- The names of the computers that fit a group are its members.
use Rattle.std.proofs.Common.{ℕ, zero, suc, ◌≡◌, ◌<◌, ◌==◌, Bool, true, false, cond, not, ◌&&◌, List, [], ◌∷◌, ◌++◌, ◌+◌, map, length, filter, take, get_or, append-nil, Contains, Option, Some, None, IsSome, bytes_eq, refl, sym, ap, subst, ◌∙◌, arith}
use Rattle.std.specs.List.{AllByRecursion}
use Rattle.std.specs.declared.cmp.Ordering.TheVariants.{Less}
use Rattle.std.specs.Ordering.{is_lt}
use Rattle.std.proofs.lemmas.Bool.{and_parts, cond-true, true≢false}
use Rattle.std.proofs.lemmas.Bool.Decides.{Decides-eqb}
use Rattle.std.proofs.lemmas.List.{map-append}
use Rattle.std.proofs.lemmas.List.Elements.{filter_more}
use Rattle.bf_world.specs.Maps.{byte_order}
use Rattle.bf_world.proofs.MapLemmas.{order-same}
use Rattle.line_forms.proofs.Sorted.{sorted_filtered}
use Rattle.group_text.specs.declared.group.Group.{Group}
use Rattle.group_sample.specs.declared.sample.Sample.{Sample}
use Rattle.std.specs.List.Sorted.{IsStrictlySortedBy}
use Rattle.group_core.specs.declared.computers.Computer.{Computer}
use Rattle.group_core.specs.declared.kept_row.KeptRow.{KeptRow}
use Rattle.group_core.specs.Keeping.{fitting_names, is_fitting}
use Rattle.group_core.specs.Lists.{AreComputers, Ascends, computer_name, one_of, row_at, row_name, rows_at, rows_in}
use Rattle.group_core.specs.Members.{AreMembers, IsMember, fits}
use Rattle.group_core.specs.Tables.{table_row}
use Rattle.group_core.proofs.Membering.{fits_same}
use Rattle.group_core.proofs.Sorting.{name_same, same_name}

-- ---- what is in a list
kept_by : {X : Type 0} (p : X → Bool) (xs : List X) (x : X) → Contains (filter p xs) x → Contains xs x × (p x ≡ true)
kept_by p [] x has = absurd (omega (arith, has.1))
kept_by p (y ∷ xs) x has = by (p y) refl (kept_by p xs x) has
  where
    by : (b : Bool) → p y ≡ b → (Contains (filter p xs) x → Contains xs x × (p x ≡ true)) → Contains (cond b (y ∷ filter p xs) (filter p xs)) x → Contains (y ∷ xs) x × (p x ≡ true)
    by true is rest (zero, inside, at) = ((zero, omega arith, at), sym (ap p at) ∙ is)
    by true is rest (suc k, inside, at) = let there = rest (k, omega (arith, inside), at) in ((suc there.0.0, omega (arith, there.0.1), there.0.2), there.1)
    by false is rest has = let there = rest has in ((suc there.0.0, omega (arith, there.0.1), there.0.2), there.1)

keeps : {X : Type 0} (p : X → Bool) (xs : List X) (x : X) → Contains xs x → p x ≡ true → Contains (filter p xs) x
keeps p [] x has yes_x = absurd (omega (arith, has.1))
keeps p (y ∷ xs) x (zero, inside, at) passes_x =
    let P : Bool → Type 0 = λ b. Contains (cond b (y ∷ filter p xs) (filter p xs)) x in subst P (sym (ap p at ∙ passes_x)) (zero, omega arith, at)
keeps p (y ∷ xs) x (suc k, inside, at) passes_x = by (p y) (keeps p xs x (k, omega (arith, inside), at) passes_x)
  where
    by : (b : Bool) → Contains (filter p xs) x → Contains (cond b (y ∷ filter p xs) (filter p xs)) x
    by true there = (suc there.0, omega (arith, there.1), there.2)
    by false there = there

mapped : {X : Type 0} (f : X → List ℕ) (xs : List X) (name : List ℕ) → Contains (map f xs) name → (x : X) × Contains xs x × (f x ≡ name)
mapped f [] name has = absurd (omega (arith, has.1))
mapped f (y ∷ xs) name (zero, inside, at) = (y, (zero, omega arith, refl), at)
mapped f (y ∷ xs) name (suc k, inside, at) = let there = mapped f xs name (k, omega (arith, inside), at) in (there.0, (suc there.1.0, omega (arith, there.1.1), there.1.2), there.2)

maps : {X : Type 0} (f : X → List ℕ) (xs : List X) (x : X) → Contains xs x → Contains (map f xs) (f x)
maps f [] x has = absurd (omega (arith, has.1))
maps f (y ∷ xs) x (zero, inside, at) = (zero, omega arith, ap f at)
maps f (y ∷ xs) x (suc k, inside, at) = let there = maps f xs x (k, omega (arith, inside), at) in (suc there.0, omega (arith, there.1), there.2)

-- ---- one of a name
module _ {X : Type 0} (name_of : X → List ℕ) where
  pub one_is : (xs : List X) (name : List ℕ) (x : X) → one_of name_of name xs ≡ Some x → Contains xs x × (name_of x ≡ name)
  one_is [] name x e = cc
  one_is (y ∷ xs) name x e = by (bytes_eq (name_of y) name) refl (one_is xs name x) e
    where
      by : (b : Bool) → bytes_eq (name_of y) name ≡ b → (one_of name_of name xs ≡ Some x → Contains xs x × (name_of x ≡ name)) → cond b (Some y) (one_of name_of name xs) ≡ Some x → Contains (y ∷ xs) x × (name_of x ≡ name)
      by true is rest e = let same : y ≡ x = cc in ((zero, omega arith, same), ap name_of (sym same) ∙ same_name (name_of y) name is)
      by false is rest e = let there = rest e in ((suc there.0.0, omega (arith, there.0.1), there.0.2), there.1)

  below : (name : List ℕ) (xs : List X) (x : X) → AllByRecursion (λ o. byte_order name o ≡ Less) (map name_of xs) → Contains xs x → byte_order name (name_of x) ≡ Less
  below name [] x all has = absurd (omega (arith, has.1))
  below name (y ∷ xs) x all (zero, inside, at) = ap (λ z. byte_order name (name_of z)) (sym at) ∙ all.0
  below name (y ∷ xs) x all (suc k, inside, at) = below name xs x all.1 (k, omega (arith, inside), at)

  pub found_contained : (xs : List X) (x : X) → Ascends name_of xs → Contains xs x → one_of name_of (name_of x) xs ≡ Some x
  unfolding IsStrictlySortedBy
  found_contained [] x sorted has = absurd (omega (arith, has.1))
  found_contained (y ∷ xs) x sorted (zero, inside, at) =
      cond-true (bytes_eq (name_of y) (name_of x)) (Some y) (one_of name_of (name_of x) xs) (name_same (name_of y) (name_of x) (ap name_of at)) ∙ ap Some at
  found_contained (y ∷ xs) x sorted (suc k, inside, at) = by (bytes_eq (name_of y) (name_of x)) refl (found_contained xs x sorted.1 (k, omega (arith, inside), at))
    where
      by : (b : Bool) → bytes_eq (name_of y) (name_of x) ≡ b → one_of name_of (name_of x) xs ≡ Some x → cond b (Some y) (one_of name_of (name_of x) xs) ≡ Some x
      by false is rest = rest
      by true is rest =
          let less = below (name_of y) xs x sorted.0 (k, omega (arith, inside), at) in
          absurd (true≢false (ap is_lt (sym less) ∙ ap is_lt (ap (λ n. byte_order (name_of y) n) (sym (same_name (name_of y) (name_of x) is)) ∙ order-same (name_of y))))

-- ---- computers that fit
-- there is a row where there are rows
some_row : (rows : List KeptRow) → (length rows == 0) ≡ false → (p : List ℕ) × IsSome (one_of row_name p rows)
some_row [] e = absurd (true≢false e)
some_row (r ∷ rows) e =
    let P : Option KeptRow → Type 0 = IsSome in
    (row_name r, subst P (sym (cond-true (bytes_eq (row_name r) (row_name r)) (Some r) (one_of row_name (row_name r) rows) (name_same (row_name r) (row_name r) refl))) refl)

not_zero : (n : ℕ) → (suc n == 0) ≡ false
not_zero n = by (suc n == 0) refl
  where
    by : (b : Bool) → (suc n == 0) ≡ b → (suc n == 0) ≡ false
    by true e = absurd (let k : suc n ≡ 0 = (Decides-eqb (suc n) 0).0 e in omega arith)
    by false e = e

rows_some : (rows : List KeptRow) (p : List ℕ) → IsSome (one_of row_name p rows) → (length rows == 0) ≡ false
rows_some [] p some = absurd (true≢false (sym some))
rows_some (r ∷ rows) p some = not_zero (length rows)

not_false : (b : Bool) → not b ≡ true → b ≡ false
not_false true e = absurd (true≢false (sym e))
not_false false e = refl

there_is : (o : Option Computer) (p : List ℕ) → IsSome (one_of row_name p (rows_in o)) → (c : Computer) × (o ≡ Some c)
there_is None p some = absurd (true≢false (sym some))
there_is (Some c) p some = (c, refl)

both_true : (a b : Bool) → a ≡ true → b ≡ true → (a && b) ≡ true
both_true true b e f = f
both_true false b e f = absurd (true≢false (sym e))

module _ (samples : List Sample) (computers : List Computer) (group : Group) (are : AreComputers computers)
    (table : (c p : List ℕ) → row_at computers c p ≡ table_row samples c p) where
  own : (c : Computer) → Contains computers c → rows_at computers c.name ≡ c.rows.items
  own c has = ap rows_in (found_contained computer_name computers c are.ascending has)

  rows_own : (c : Computer) → Contains computers c → (p : List ℕ) → one_of row_name p c.rows.items ≡ table_row samples c.name p
  rows_own c has p = ap (one_of row_name p) (sym (own c has)) ∙ table c.name p

  fit_is_member : (c : Computer) → Contains computers c → is_fitting group c ≡ true → IsMember samples group c.name
  fit_is_member c has e =
      let parts = and_parts (not (length c.rows.items == 0)) (fits (λ p. one_of row_name p c.rows.items) group) e in
      let row = some_row c.rows.items (not_false (length c.rows.items == 0) parts.0) in
      let P : Option KeptRow → Type 0 = IsSome in
      record {
        property = row.0;
        has_row = subst P (rows_own c has row.0) row.1;
        rows_fit = sym (fits_same (λ p. one_of row_name p c.rows.items) (table_row samples c.name) group (rows_own c has)) ∙ parts.1;
      }

  member_fits : (c : Computer) → Contains computers c → IsMember samples group c.name → is_fitting group c ≡ true
  member_fits c has is =
      let P : Option KeptRow → Type 0 = IsSome in
      let some = rows_some c.rows.items is.property (subst P (sym (rows_own c has is.property)) is.has_row) in
      both_true (not (length c.rows.items == 0)) (fits (λ p. one_of row_name p c.rows.items) group) (ap not some)
      (fits_same (λ p. one_of row_name p c.rows.items) (table_row samples c.name) group (rows_own c has) ∙ is.rows_fit)

  pub fitting_are_members : AreMembers samples group (fitting_names group computers)
  fitting_are_members = record {
    each = λ name. (
      (λ has. let there = mapped computer_name (filter (is_fitting group) computers) name has in
          let kept = kept_by (is_fitting group) computers there.0 there.1 in
          let M : List ℕ → Type 0 = IsMember samples group in
          subst M there.2 (fit_is_member there.0 kept.0 kept.1)),
      (λ is. let P : Option KeptRow → Type 0 = IsSome in
          let found = there_is (one_of computer_name name computers) is.property (subst P (sym (table name is.property)) is.has_row) in
          let c = found.0 in
          let there = one_is computer_name computers name c found.1 in
          let M : List ℕ → Type 0 = IsMember samples group in
          let N : List ℕ → Type 0 = Contains (fitting_names group computers) in
          subst N there.1 (maps computer_name (filter (is_fitting group) computers) c (keeps (is_fitting group) computers c there.0 (member_fits c there.0 (subst M (sym there.1) is))))),
    );
    ascending = sorted_filtered byte_order computer_name (is_fitting group) computers are.ascending;
  }

-- ---- one computer more
more_names : (group : Group) (xs : List Computer) (i : ℕ) (x : Computer) → i < length xs → x ≡ get_or xs i x → fitting_names group (take (i + 1) xs) ≡ fitting_names group (take i xs) ++ map computer_name (cond (is_fitting group x) (x ∷ []) [])
more_names group xs i x inside is =
    let test : Computer → Bool = is_fitting group in
    ap (map computer_name) (filter_more test xs i x inside ∙ ap (λ y. filter test (take i xs) ++ cond (test y) (y ∷ []) []) (sym is))
    ∙ map-append computer_name (filter test (take i xs)) (cond (test x) (x ∷ []) [])

pub fit_more : (group : Group) (xs : List Computer) (i : ℕ) (x : Computer) → i < length xs → x ≡ get_or xs i x → is_fitting group x ≡ true → fitting_names group (take (i + 1) xs) ≡ fitting_names group (take i xs) ++ x.name ∷ []
fit_more group xs i x inside is fit = more_names group xs i x inside is ∙ ap (λ b. fitting_names group (take i xs) ++ map computer_name (cond b (x ∷ []) [])) fit

pub unfit_more : (group : Group) (xs : List Computer) (i : ℕ) (x : Computer) → i < length xs → x ≡ get_or xs i x → is_fitting group x ≡ false → fitting_names group (take (i + 1) xs) ≡ fitting_names group (take i xs)
unfit_more group xs i x inside is fit =
    more_names group xs i x inside is ∙ ap (λ b. fitting_names group (take i xs) ++ map computer_name (cond b (x ∷ []) [])) fit ∙ append-nil (fitting_names group (take i xs))
