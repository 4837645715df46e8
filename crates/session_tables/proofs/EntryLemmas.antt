-- Names put one after another, and entries of names.
use Rattle.std.proofs.Common.{◌≡◌, ℕ, Bool, true, false, cond, List, [], ◌∷◌, ◌++◌, length, map, codes, Some, refl, sym, ap, subst, All, ◌∙◌, arith}
use Rattle.std.specs.List.Sorted.{IsStrictlySortedBy}
use Rattle.std.specs.Map.{keys_of}
use Rattle.std.proofs.lemmas.List.Elements.{All-nil, All-cons, All-head, All-tail}
use Rattle.std.proofs.lemmas.Map.Views.{All-keys-insert_entry}
use Rattle.line_forms.specs.Paths.{IsPart}
use Rattle.bf_world.specs.declared.answer.Entry.{Entry}
use Rattle.bf_world.specs.Maps.{byte_order, IsMap, put}
use Rattle.bf_world.specs.Paths.{is_part}
use Rattle.bf_world.specs.Places.{folder_test}
use Rattle.desk_keep.specs.declared.change.Change.{Change}
use Rattle.session_tables.specs.Inside.{named_entry, root_names, with_name, with_names}
use Rattle.session_tables.specs.Paths.{find_of, is_shown, name_of, node_of}
use Rattle.session_tables.proofs.Parts.{part-Decides}
use Rattle.session_tables.proofs.Showing.{name-is_part}

-- the last row's name is put first
last_name_first : (rows : List Change) (row : Change) (names : List (List ℕ × Bool)) → with_names (rows ++ row ∷ []) names ≡ with_names rows (with_name row names)
last_name_first [] row names = refl
last_name_first (r ∷ rows) row names = ap (with_name r) (last_name_first rows row names)

-- a row was taken from the end of those that are left, and its name put
pub named_on : (before left : List Change) (row : Change) (names more all : List (List ℕ × Bool)) → before ≡ left ++ row ∷ [] → more ≡ with_name row names
    → with_names before names ≡ all → with_names left more ≡ all
named_on before left row names more all split put_it is =
    ap (with_names left) put_it ∙ sym (last_name_first left row names) ∙ ap (λ (l : List Change). with_names l names) (sym split) ∙ is

-- where no row is left, the names are all
pub no_rows_left : (rows : List Change) (names : List (List ℕ × Bool)) → length rows ≡ 0 → with_names rows names ≡ names
no_rows_left [] names none = refl
no_rows_left (row ∷ rows) names none = absurd (omega (arith, none))

-- names of rows are parts of paths
with_part : (row : Change) (names : List (List ℕ × Bool)) → All IsPart (keys_of names) → All IsPart (keys_of (with_name row names))
with_part row names all = by (is_shown (find_of row)) refl
  where
    by : (b : Bool) → is_shown (find_of row) ≡ b → All IsPart (keys_of (with_name row names))
    by true is =
        let put_it = All-keys-insert_entry byte_order (name_of (find_of row)) (folder_test (Some (node_of row))) IsPart names all
        ((part-Decides (name_of (find_of row))).0 (name-is_part (find_of row) is)) in
        let AreParts : Bool → Type 0 = λ b. All IsPart (keys_of (cond b (put (name_of (find_of row)) (folder_test (Some (node_of row))) names) names)) in
        subst AreParts (sym is) put_it
    by false is =
        let AreParts : Bool → Type 0 = λ b. All IsPart (keys_of (cond b (put (name_of (find_of row)) (folder_test (Some (node_of row))) names) names)) in
        subst AreParts (sym is) all

pub with_parts : (rows : List Change) → All IsPart (keys_of (with_names rows []))
with_parts [] = All-nil IsPart
with_parts (row ∷ rows) = with_part row (with_names rows []) (with_parts rows)

-- entries of parts are good
pub good_entries : (names : List (List ℕ × Bool)) → All IsPart (keys_of names) → All (λ (e : Entry). IsPart e.name) (map named_entry names)
good_entries [] all = All-nil (λ (e : Entry). IsPart e.name)
good_entries (e ∷ names) all =
    All-cons (λ (e : Entry). IsPart e.name) (named_entry e) (map named_entry names) (All-head IsPart e.0 (keys_of names) all) (good_entries names (All-tail IsPart e.0 (keys_of names) all))

entry_names : (names : List (List ℕ × Bool)) → keys_of names ≡ map (λ (e : Entry). e.name) (map named_entry names)
entry_names [] = refl
entry_names (e ∷ names) = ap (λ l. e.0 ∷ l) (entry_names names)

pub ascending_entries : (names : List (List ℕ × Bool)) → IsMap names → IsStrictlySortedBy byte_order (map (λ (e : Entry). e.name) (map named_entry names))
ascending_entries names sorted = subst (λ l. IsStrictlySortedBy byte_order l) (entry_names names) sorted

-- ---- the root
pub root_put : put (codes "sites") true (put (codes "computers") true (put (codes "actions") true [])) ≡ root_names
root_put = refl

root_part : (name : List ℕ) → is_part name ≡ true → IsPart name
root_part name is = (part-Decides name).0 is

pub root_parts : All IsPart (keys_of root_names)
unfolding is_part
root_parts =
    All-cons IsPart (codes "actions") (codes "computers" ∷ codes "sites" ∷ []) (root_part (codes "actions") refl)
    (All-cons IsPart (codes "computers") (codes "sites" ∷ []) (root_part (codes "computers") refl)
    (All-cons IsPart (codes "sites") [] (root_part (codes "sites") refl) (All-nil IsPart)))
