-- The entries of a folder of the world of the tables are the names of the rows that stand in it.
use Rattle.std.proofs.Common.{◌≡◌, ℕ, Bool, true, false, ◌&&◌, cond, List, [], ◌∷◌, ◌++◌, map, Option, None, Some, refl, sym, ap, subst, ◌∙◌}
use Rattle.std.specs.declared.cmp.Ordering.{Ordering}
use Rattle.std.specs.declared.cmp.Ordering.TheVariants.{Less, Equal, Greater}
use Rattle.std.specs.Ordering.{match_ordering, nat_cmp, ordering_reverse, ordering_then}
use Rattle.std.specs.List.{AllByRecursion, cons_option, filter, filter_map}
use Rattle.std.specs.List.Sorted.{IsStrictlySortedBy}
use Rattle.std.specs.Map.{keys_of}
use Rattle.std.specs.Option.{IfSome}
use Rattle.std.specs.Str.{bytes_eq}
use Rattle.std.proofs.lemmas.Cmp.{nat_cmp_total, nat_list_cmp_total}
use Rattle.std.proofs.lemmas.Map.Lookups.{exact_bytes}
use Rattle.std.proofs.lemmas.Slice.Eq.{bytes_eq-Decides}
use Rattle.bf_world.specs.declared.answer.Entry.{Entry}
use Rattle.bf_world.specs.declared.parts.Node.{Node}
use Rattle.bf_world.specs.Maps.{byte_order, IsMap, put}
use Rattle.bf_world.specs.Paths.{is_part, joined, last_name, slash_behind}
use Rattle.bf_world.specs.Places.{folder_test}
use Rattle.bf_world.specs.Shown.{entry_in}
use Rattle.bf_world.proofs.MapLemmas.{itself}
use Rattle.desk_keep.specs.declared.change.Change.{Change}
use Rattle.session_tables.specs.Inside.{named_entry, with_name, with_names}
use Rattle.session_tables.specs.Paths.{find_of, is_shown, name_of, node_of, path_of}
use Rattle.session_tables.specs.Worlds.{folders, paths_of}

-- ---- maps stay in order
above_too : (k x : List ℕ) (ks : List (List ℕ)) → byte_order k x ≡ Less → AllByRecursion (λ y. byte_order x y ≡ Less) ks → AllByRecursion (λ y. byte_order k y ≡ Less) ks
above_too k x [] below all = tt
above_too k x (y ∷ ks) below all = (nat_list_cmp_total.trans k x y below all.0, above_too k x ks below all.1)

below_put : {V : Type 0} (x k : List ℕ) (v : V) (es : List (List ℕ × V)) → byte_order x k ≡ Less → AllByRecursion (λ y. byte_order x y ≡ Less) (keys_of es)
    → AllByRecursion (λ y. byte_order x y ≡ Less) (keys_of (put k v es))
below_put x k v [] below all = (below, tt)
below_put {V} x k v (e ∷ es) below all =
    elim (byte_order k e.0) as (λ r. AllByRecursion (λ y. byte_order x y ≡ Less) (keys_of (match_ordering r ((k, v) ∷ e ∷ es) ((e.0, v) ∷ es) (e ∷ put k v es)))) [
      | Less ↦ (below, all)
      | Equal ↦ all
      | Greater ↦ (all.0, below_put x k v es below all.1)
    ]

placed : {V : Type 0} (k : List ℕ) (v : V) (e : List ℕ × V) (es : List (List ℕ × V)) (r : Ordering) → byte_order k e.0 ≡ r → IsMap (e ∷ es) → IsMap (put k v es)
    → IsMap (match_ordering r ((k, v) ∷ e ∷ es) ((e.0, v) ∷ es) (e ∷ put k v es))
unfolding IsStrictlySortedBy
placed k v e es Less is sorted more = ((is, above_too k e.0 (keys_of es) is sorted.0), sorted)
placed k v e es Equal is sorted more = sorted
placed k v e es Greater is sorted more =
    (below_put e.0 k v es (nat_list_cmp_total.antisymm e.0 k ∙ ap ordering_reverse is) sorted.0, more)

rest_sorted : {V : Type 0} (e : List ℕ × V) (es : List (List ℕ × V)) → IsMap (e ∷ es) → IsMap es
unfolding IsStrictlySortedBy
rest_sorted e es sorted = sorted.1

pub IsMap-put : {V : Type 0} (k : List ℕ) (v : V) (es : List (List ℕ × V)) → IsMap es → IsMap (put k v es)
unfolding IsStrictlySortedBy
IsMap-put k v [] sorted = (tt, tt)
IsMap-put k v (e ∷ es) sorted = placed k v e es (byte_order k e.0) refl sorted (IsMap-put k v es (rest_sorted e es sorted))

pub IsMap-paths : (rows : List Change) → IsMap (paths_of rows)
unfolding IsStrictlySortedBy
IsMap-paths [] = ((refl, (refl, tt)), ((refl, tt), (tt, tt)))
IsMap-paths (row ∷ rows) =
    elim (is_shown (find_of row)) as (λ b. IsMap (cond b (put (path_of (find_of row)) (node_of row) (paths_of rows)) (paths_of rows))) [
      | true ↦ IsMap-put (path_of (find_of row)) (node_of row) (paths_of rows) (IsMap-paths rows)
      | false ↦ IsMap-paths rows
    ]

-- ---- the order of paths in a folder is that of names
behind_front : (p a b : List ℕ) → byte_order (p ++ a) (p ++ b) ≡ byte_order a b
behind_front [] a b = refl
behind_front (x ∷ xs) a b =
    ap (λ r. ordering_then r (byte_order (xs ++ a) (xs ++ b))) (itself (nat_cmp x x) (nat_cmp_total.antisymm x x)) ∙ behind_front xs a b

in_folder : (folder a b : List ℕ) → byte_order (joined folder a) (joined folder b) ≡ byte_order a b
in_folder folder a b = behind_front (folder ++ slash_behind folder) a b

-- an entry stands at its joined path
entry_joined : (folder : List ℕ) (e : List ℕ × Node) → IfSome (entry_in folder e) (λ entry. joined folder entry.name ≡ e.0)
unfolding entry_in
entry_joined folder e =
    let name = last_name e.0 in
    let found : Option Entry = Some (record { name = name; folder = folder_test (Some e.1) }) in
    let at_it : Option Entry → Type 0 = λ o. IfSome o (λ entry. joined folder entry.name ≡ e.0) in
    elim (is_part name) as (λ b. at_it (cond (b && bytes_eq (joined folder name) e.0) found None)) [
      | true ↦
          elim (bytes_eq (joined folder name) e.0) as (λ b. (b ≡ true → joined folder name ≡ e.0) → at_it (cond b found None)) [
            | true ↦ λ same. same refl
            | false ↦ λ same. tt
          ] (bytes_eq-Decides (joined folder name) e.0).0
      | false ↦ tt
    ]

entry_path : (folder : List ℕ) (e : List ℕ × Node) (x : Entry) → entry_in folder e ≡ Some x → joined folder x.name ≡ e.0
entry_path folder e x is =
    let at_it : Option Entry → Type 0 = λ o. IfSome o (λ entry. joined folder entry.name ≡ e.0) in
    subst at_it is (entry_joined folder e)

-- whether there is an entry is fixed by the path
absent_with : (folder path : List ℕ) (m n : Node) → entry_in folder (path, m) ≡ None → entry_in folder (path, n) ≡ None
unfolding entry_in
absent_with folder path m n none = by (is_part (last_name path) && bytes_eq (joined folder (last_name path)) path) none
  where
    by : (b : Bool) → cond {A = Option Entry} b (Some (record { name = last_name path; folder = folder_test (Some m) })) None ≡ None
        → cond {A = Option Entry} b (Some (record { name = last_name path; folder = folder_test (Some n) })) None ≡ None
    by true none = absurd (cc)
    by false none = refl

-- ---- the names of the entries of a folder, each with whether it is a folder
abbrev pub with_entry : Option Entry → List (List ℕ × Bool) → List (List ℕ × Bool)
with_entry None names = names
with_entry (Some x) names = (x.name, x.folder) ∷ names

abbrev pub names_in : List ℕ → List (List ℕ × Node) → List (List ℕ × Bool)
names_in folder [] = []
names_in folder (e ∷ es) = with_entry (entry_in folder e) (names_in folder es)

entry_of : (o : Option Entry) (names : List (List ℕ × Bool)) → cons_option o (map named_entry names) ≡ map named_entry (with_entry o names)
entry_of None names = refl
entry_of (Some x) names = refl

entries_of : (folder : List ℕ) (es : List (List ℕ × Node)) → filter_map (entry_in folder) es ≡ map named_entry (names_in folder es)
entries_of folder [] = refl
entries_of folder (e ∷ es) = ap (cons_option (entry_in folder e)) (entries_of folder es) ∙ entry_of (entry_in folder e) (names_in folder es)

-- where all paths are above that of a name in the folder, the name comes first
put_first : (folder path name : List ℕ) (b : Bool) → joined folder name ≡ path → (es : List (List ℕ × Node)) → AllByRecursion (λ y. byte_order path y ≡ Less) (keys_of es)
    → put name b (names_in folder es) ≡ (name, b) ∷ names_in folder es
put_first folder path name b at_it [] all = refl
put_first folder path name b at_it (e ∷ es) all = by (put_first folder path name b at_it es all.1) (entry_in folder e) refl
  where
    by : put name b (names_in folder es) ≡ (name, b) ∷ names_in folder es → (o : Option Entry) → entry_in folder e ≡ o → put name b (with_entry o (names_in folder es)) ≡ (name, b) ∷ with_entry o (names_in folder es)
    by more None is = more
    by more (Some x) is =
        let there : joined folder x.name ≡ e.0 = entry_path folder e x is in
        let below : byte_order name x.name ≡ Less =
        sym (in_folder folder name x.name) ∙ ap (λ p. byte_order p (joined folder x.name)) at_it ∙ ap (byte_order path) there ∙ all.0 in
        ap (λ r. match_ordering r ((name, b) ∷ (x.name, x.folder) ∷ names_in folder es) ((x.name, b) ∷ names_in folder es)
        ((x.name, x.folder) ∷ put name b (names_in folder es))) below

not_both : (x : Entry) (o : Option Entry) → o ≡ Some x → o ≡ None → ⊥
not_both x o some none = cc

-- what is put at a path in the folder puts its name among those of the entries
put_in : (folder path : List ℕ) (n : Node) (name : List ℕ) (b : Bool) → entry_in folder (path, n) ≡ Some (record { name = name; folder = b })
    → (es : List (List ℕ × Node)) → IsMap es → names_in folder (put path n es) ≡ put name b (names_in folder es)
unfolding IsStrictlySortedBy
put_in folder path n name b found [] sorted = ap (λ o. with_entry o []) found
put_in folder path n name b found (e ∷ es) sorted =
    by sorted.0 (put_in folder path n name b found es sorted.1) (entry_in folder e) refl (byte_order path e.0) refl
  where
    at_it : joined folder name ≡ path
    at_it = entry_path folder (path, n) (record { name = name; folder = b }) found

    same_order : (x : Entry) → entry_in folder e ≡ Some x → byte_order name x.name ≡ byte_order path e.0
    same_order x is =
        sym (in_folder folder name x.name) ∙ ap (λ p. byte_order p (joined folder x.name)) at_it ∙ ap (byte_order path) (entry_path folder e x is)

    at_same : path ≡ e.0 → entry_in folder (e.0, n) ≡ Some (record { name = name; folder = b })
    at_same same = ap (λ p. entry_in folder (p, n)) (sym same) ∙ found

    by : AllByRecursion (λ y. byte_order e.0 y ≡ Less) (keys_of es) → names_in folder (put path n es) ≡ put name b (names_in folder es) → (o : Option Entry) → entry_in folder e ≡ o → (r : Ordering) → byte_order path e.0 ≡ r
        → names_in folder (match_ordering r ((path, n) ∷ e ∷ es) ((e.0, n) ∷ es) (e ∷ put path n es)) ≡ put name b (with_entry o (names_in folder es))
    by above more None is Less below =
        ap (λ o. with_entry o (with_entry (entry_in folder e) (names_in folder es))) found
        ∙ ap (λ o. (name, b) ∷ with_entry o (names_in folder es)) is
        ∙ sym (put_first folder path name b at_it es (above_too path e.0 (keys_of es) below above))
    by above more None is Equal same =
        let none : entry_in folder (e.0, n) ≡ None = absent_with folder e.0 e.1 n is in
        absurd (not_both (record { name = name; folder = b }) (entry_in folder (e.0, n)) (at_same (exact_bytes path e.0 same)) none)
    by above more None is Greater behind =
        ap (λ o. with_entry o (names_in folder (put path n es))) is ∙ more
    by above more (Some x) is Less below =
        ap (λ o. with_entry o (with_entry (entry_in folder e) (names_in folder es))) found
        ∙ ap (λ o. (name, b) ∷ with_entry o (names_in folder es)) is
        ∙ ap (λ r. match_ordering r ((name, b) ∷ (x.name, x.folder) ∷ names_in folder es) ((x.name, b) ∷ names_in folder es)
        ((x.name, x.folder) ∷ put name b (names_in folder es))) (sym (same_order x is ∙ below))
    by above more (Some x) is Equal same =
        ap (λ o. with_entry o (names_in folder es)) (at_same (exact_bytes path e.0 same))
        ∙ ap (λ t. (t, b) ∷ names_in folder es) (exact_bytes name x.name (same_order x is ∙ same))
        ∙ ap (λ r. match_ordering r ((name, b) ∷ (x.name, x.folder) ∷ names_in folder es) ((x.name, b) ∷ names_in folder es)
        ((x.name, x.folder) ∷ put name b (names_in folder es))) (sym (same_order x is ∙ same))
    by above more (Some x) is Greater behind =
        ap (λ o. with_entry o (names_in folder (put path n es))) is
        ∙ ap (λ l. (x.name, x.folder) ∷ l) (more)
        ∙ ap (λ r. match_ordering r ((name, b) ∷ (x.name, x.folder) ∷ names_in folder es) ((x.name, b) ∷ names_in folder es)
        ((x.name, x.folder) ∷ put name b (names_in folder es))) (sym (same_order x is ∙ behind))

-- what is put at another path leaves the names
put_out : (folder path : List ℕ) (n : Node) → entry_in folder (path, n) ≡ None → (es : List (List ℕ × Node)) → names_in folder (put path n es) ≡ names_in folder es
put_out folder path n none [] = ap (λ o. with_entry o []) none
put_out folder path n none (e ∷ es) = by (put_out folder path n none es) (byte_order path e.0) refl
  where
    by : names_in folder (put path n es) ≡ names_in folder es → (r : Ordering) → byte_order path e.0 ≡ r
        → names_in folder (match_ordering r ((path, n) ∷ e ∷ es) ((e.0, n) ∷ es) (e ∷ put path n es)) ≡ with_entry (entry_in folder e) (names_in folder es)
    by more Less is = ap (λ o. with_entry o (with_entry (entry_in folder e) (names_in folder es))) none
    by more Equal is =
        let same : path ≡ e.0 = exact_bytes path e.0 is in
        let here : entry_in folder (e.0, n) ≡ None = ap (λ p. entry_in folder (p, n)) (sym same) ∙ none in
        ap (λ o. with_entry o (names_in folder es)) (here ∙ sym (absent_with folder e.0 n e.1 here))
    by more Greater is = ap (with_entry (entry_in folder e)) more

-- ---- the names of a folder are those of its rows
-- the row stands in the folder by its name
abbrev pub IsEntryIn : List ℕ → Change → Type 0
IsEntryIn folder row =
    entry_in folder (path_of (find_of row), node_of row) ≡ Some (record { name = name_of (find_of row); folder = folder_test (Some (node_of row)) })

-- the row doesn't stand in the folder
abbrev pub IsNoEntryIn : List ℕ → Change → Type 0
IsNoEntryIn folder row = entry_in folder (path_of (find_of row), node_of row) ≡ None

pub listed_names : (folder : List ℕ) (asked : Change → Bool) (base : List (List ℕ × Bool)) → names_in folder folders ≡ base
    → ((row : Change) → asked row ≡ true → is_shown (find_of row) ≡ true → IsEntryIn folder row)
    → ((row : Change) → asked row ≡ false → is_shown (find_of row) ≡ true → IsNoEntryIn folder row)
    → (rows : List Change) → names_in folder (paths_of rows) ≡ with_names (filter asked rows) base
listed_names folder asked base is_base inside outside [] = is_base
listed_names folder asked base is_base inside outside (row ∷ rows) =
    by (listed_names folder asked base is_base inside outside rows) (asked row) refl (is_shown (find_of row)) refl
  where
    with_it : (s : Bool) → is_shown (find_of row) ≡ s → (names : List (List ℕ × Bool))
        → with_name row names ≡ cond s (put (name_of (find_of row)) (folder_test (Some (node_of row))) names) names
    with_it s is names = ap (λ s. cond s (put (name_of (find_of row)) (folder_test (Some (node_of row))) names) names) is

    by : names_in folder (paths_of rows) ≡ with_names (filter asked rows) base → (a : Bool) → asked row ≡ a → (s : Bool) → is_shown (find_of row) ≡ s
        → names_in folder (cond s (put (path_of (find_of row)) (node_of row) (paths_of rows)) (paths_of rows))
        ≡ with_names (cond a (row ∷ filter asked rows) (filter asked rows)) base
    by more true is true shown =
        put_in folder (path_of (find_of row)) (node_of row) (name_of (find_of row)) (folder_test (Some (node_of row))) (inside row is shown) (paths_of rows) (IsMap-paths rows)
        ∙ ap (put (name_of (find_of row)) (folder_test (Some (node_of row)))) more
        ∙ sym (with_it true shown (with_names (filter asked rows) base))
    by more true is false shown = more ∙ sym (with_it false shown (with_names (filter asked rows) base))
    by more false is true shown =
        put_out folder (path_of (find_of row)) (node_of row) (outside row is shown) (paths_of rows) ∙ more
    by more false is false shown = more

pub listed_entries : (folder : List ℕ) (asked : Change → Bool) (base : List (List ℕ × Bool)) → names_in folder folders ≡ base
    → ((row : Change) → asked row ≡ true → is_shown (find_of row) ≡ true → IsEntryIn folder row)
    → ((row : Change) → asked row ≡ false → is_shown (find_of row) ≡ true → IsNoEntryIn folder row)
    → (rows : List Change) → filter_map (entry_in folder) (paths_of rows) ≡ map named_entry (with_names (filter asked rows) base)
listed_entries folder asked base is_base inside outside rows =
    entries_of folder (paths_of rows) ∙ ap (map named_entry) (listed_names folder asked base is_base inside outside rows)
