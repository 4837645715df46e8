-- Books keep what belongs to the samples that were put.
use Rattle.std.proofs.Common.{ℕ, suc, ◌≡◌, ◌≤◌, Bool, true, false, List, [], ◌∷◌, ◌++◌, map, length, filter, All, Option, Some, IsSome, bytes_eq, cond, refl, sym, ap, subst, ◌∙◌, arith}
use Rattle.std.specs.Option.{option_or}
use Rattle.std.proofs.lemmas.Bool.{true≢false}
use Rattle.std.specs.List.{IsDistinct}
use Rattle.std.proofs.lemmas.List.{length-map}
use Rattle.std.proofs.lemmas.List.Elements.{All-nil, All-cons, All-head, All-tail, All-map}
use Rattle.group_sample.specs.declared.sample.Sample.{Sample}
use Rattle.group_sample.specs.declared.sample.Sampled.{Sampled}
use Rattle.group_sample.specs.Samples.{AreRows}
use Rattle.group_core.specs.declared.book.Book.TheInside.{Inside}
use Rattle.group_core.specs.declared.kept_group.KeptGroup.{KeptGroup}
use Rattle.group_core.specs.declared.kept_row.KeptRow.{KeptRow}
use Rattle.group_core.specs.Books.{changed_rows, is_newer}
use Rattle.group_core.specs.Keeping.{IsReady, KeepsBook, Membership, newer_rows, numbered, settled, shown}
use Rattle.group_core.specs.Lists.{one_of, row_name, rows_at, with_all}
use Rattle.group_core.specs.Members.{AreMembers}
use Rattle.group_core.specs.Tables.{table_row}
use Rattle.group_core.proofs.Membering.{Putting, members_same, nothing_new, own_rows, settles}
use Rattle.group_core.proofs.Sorting.{found_all, same_name, name_same}
use Rattle.group_core.proofs.Tabling.{other_computer}

-- ---- all of what is shown
pub all_from_map : {X Y : Type 0} (P : Y → Type 0) (f : X → Y) (xs : List X) → All P (map f xs) → All (λ x. P (f x)) xs
all_from_map P f [] all = All-nil (λ x. P (f x))
all_from_map P f (x ∷ xs) all = All-cons (λ y. P (f y)) x xs (All-head P (f x) (map f xs) all) (all_from_map P f xs (All-tail P (f x) (map f xs) all))

-- what holds of what is shown holds wherever the same is shown
pub all_shown : (P : Membership → Type 0) (xs ys : List KeptGroup) → map shown ys ≡ map shown xs → All (λ kept. P (shown kept)) xs → All (λ kept. P (shown kept)) ys
all_shown P xs ys same all =
    let Q : List Membership → Type 0 = All P in
    all_from_map P shown ys (subst Q (sym same) (All-map P shown xs all))

-- what holds of each group when it is settled holds of the groups that are shown so
pub all_settled : (P : Membership → Type 0) (rows : List KeptRow) (xs ys : List KeptGroup) → map shown ys ≡ map (settled rows) xs → All (λ kept. P (settled rows kept)) xs → All (λ kept. P (shown kept)) ys
all_settled P rows xs ys same all =
    let Q : List Membership → Type 0 = All P in
    all_from_map P shown ys (subst Q (sym same) (All-map P (settled rows) xs all))

-- two things that hold of each
all_both : {X : Type 0} (P Q R : X → Type 0) → ((x : X) → P x → Q x → R x) → (xs : List X) → All P xs → All Q xs → All R xs
all_both P Q R step [] p q = All-nil R
all_both P Q R step (x ∷ xs) p q =
    All-cons R x xs (step x (All-head P x xs p) (All-head Q x xs q)) (all_both P Q R step xs (All-tail P x xs p) (All-tail Q x xs q))

-- ---- a sample that is put
abbrev pub AreMembersOf : List Sample → Membership → Type 0
AreMembersOf samples m = AreMembers samples m.group m.members

pub putting : (book : Inside) (s : Sample) → KeepsBook book → AreRows s.rows → Putting book.samples s (rows_at book.computers.items s.computer)
putting book s keeps rows = record { distinct = rows.distinct; table = λ p. keeps.table s.computer p }

-- the members of the groups that were made ready and settled
pub members_after : (ss : List Sample) (s : Sample) (kept : List KeptRow) (old ready new : List KeptGroup) → Putting ss s kept → ((p : List ℕ) × IsSome (one_of row_name p (with_all row_name (newer_rows kept s) kept)))
    → All (λ (g : KeptGroup). AreMembers ss g.group g.members.items) old → map shown ready ≡ map shown old → All (IsReady s.computer kept (newer_rows kept s)) ready
    → map shown new ≡ map (settled (with_all row_name (newer_rows kept s) kept)) ready → All (λ (g : KeptGroup). AreMembers (ss ++ s ∷ []) g.group g.members.items) new
members_after ss s kept old ready new known some members same made after =
    let before : All (λ (g : KeptGroup). AreMembersOf ss (shown g)) ready = all_shown (AreMembersOf ss) old ready same members in
    all_settled (AreMembersOf (ss ++ s ∷ [])) (with_all row_name (newer_rows kept s) kept) ready new after
    (all_both (IsReady s.computer kept (newer_rows kept s)) (λ (g : KeptGroup). AreMembersOf ss (shown g)) (λ (g : KeptGroup). AreMembersOf (ss ++ s ∷ []) (settled (with_all row_name (newer_rows kept s) kept) g))
    (λ g is are. settles ss s kept known g is some are) ready made before)

-- there is a row where a new one was put
pub some_row : (kept fresh : List KeptRow) → IsDistinct bytes_eq (map row_name fresh) → (length fresh ≡ 0 → ⊥) → (p : List ℕ) × IsSome (one_of row_name p (with_all row_name fresh kept))
some_row kept [] distinct some = absurd (some refl)
some_row kept (row ∷ fresh) distinct some =
    let p = row_name row in
    let found : one_of row_name p (row ∷ fresh) ≡ Some row = ap (λ b. cond b (Some row) (one_of row_name p fresh)) (name_same p p refl) in
    let P : Option KeptRow → Type 0 = IsSome in
    (p, subst P (sym (found_all row_name (row ∷ fresh) kept p distinct ∙ ap (λ o. option_or o (one_of row_name p kept)) found)) refl)

-- the table where one computer has the new rows and the others have theirs
pub table_after : (ss : List Sample) (s : Sample) (kept : List KeptRow) (rows : List ℕ → List KeptRow) → Putting ss s kept → ((c p : List ℕ) → (c ≡ s.computer → ⊥) → one_of row_name p (rows c) ≡ table_row ss c p)
    → rows s.computer ≡ with_all row_name (newer_rows kept s) kept → (c p : List ℕ) → one_of row_name p (rows c) ≡ table_row (ss ++ s ∷ []) c p
table_after ss s kept rows known others own c p = by (bytes_eq s.computer c) refl
  where
    by : (b : Bool) → bytes_eq s.computer c ≡ b → one_of row_name p (rows c) ≡ table_row (ss ++ s ∷ []) c p
    by true e =
        let P : List ℕ → Type 0 = λ n. one_of row_name p (rows n) ≡ table_row (ss ++ s ∷ []) n p in
        subst P (same_name s.computer c e) (ap (one_of row_name p) own ∙ own_rows ss s kept known p)
    by false e = others c p (λ is. true≢false (sym (name_same s.computer c (sym is)) ∙ e)) ∙ sym (other_computer ss s c p e)

-- where no row is newer, everything stays and belongs to one sample more
pub members_unchanged : (ss : List Sample) (s : Sample) (kept : List KeptRow) (groups : List KeptGroup) → Putting ss s kept → newer_rows kept s ≡ [] → All (λ (g : KeptGroup). AreMembers ss g.group g.members.items) groups
    → All (λ (g : KeptGroup). AreMembers (ss ++ s ∷ []) g.group g.members.items) groups
members_unchanged ss s kept groups known none members =
    all_both (λ (g : KeptGroup). AreMembers ss g.group g.members.items) (λ (g : KeptGroup). Unit {0}) (λ (g : KeptGroup). AreMembers (ss ++ s ∷ []) g.group g.members.items)
    (λ g are u. members_same ss (ss ++ s ∷ []) g.group g.members.items (nothing_new ss s kept known none) are) groups members (all_units groups)
  where
    all_units : (groups : List KeptGroup) → All (λ (g : KeptGroup). Unit {0}) groups
    all_units [] = All-nil (λ (g : KeptGroup). Unit {0})
    all_units (g ∷ groups) = All-cons (λ (h : KeptGroup). Unit {0}) g groups tt (all_units groups)

-- ---- how many rows are newer
filter_same : {X : Type 0} (p q : X → Bool) (xs : List X) → ((x : X) → p x ≡ q x) → filter p xs ≡ filter q xs
filter_same p q [] same = refl
filter_same p q (x ∷ xs) same = λ i. cond (same x i) (x ∷ filter_same p q xs same i) (filter_same p q xs same i)

pub newer_count : (book : Inside) (s : Sample) → KeepsBook book → length (newer_rows (rows_at book.computers.items s.computer) s) ≡ length (changed_rows book.samples s)
newer_count book s keeps =
    let kept = rows_at book.computers.items s.computer in
    let test : Sampled → Bool = λ row. is_newer s.seq (one_of row_name row.property kept) in
    length-map (filter test s.rows) (numbered s.seq)
    ∙ ap (length {A = Sampled}) (filter_same test (λ (row : Sampled). is_newer s.seq (table_row book.samples s.computer row.property)) s.rows (λ row. ap (is_newer s.seq) (keeps.table s.computer row.property)))

kept_some : {X : Type 0} (p : X → Bool) (xs : List X) → length (filter p xs) ≤ length xs
kept_some p [] = omega arith
kept_some p (x ∷ xs) = by (p x) (kept_some p xs)
  where
    by : (b : Bool) → length (filter p xs) ≤ length xs → length (cond b (x ∷ filter p xs) (filter p xs)) ≤ suc (length xs)
    by true le = omega (arith, le)
    by false le = omega (arith, le)

pub newer_few : (kept : List KeptRow) (s : Sample) → length (newer_rows kept s) ≤ length s.rows
newer_few kept s =
    let test : Sampled → Bool = λ row. is_newer s.seq (one_of row_name row.property kept) in
    let count : length (newer_rows kept s) ≡ length (filter test s.rows) = length-map (filter test s.rows) (numbered s.seq) in
    omega (arith, count, kept_some test s.rows)
