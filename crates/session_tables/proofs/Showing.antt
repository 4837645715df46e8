-- What a look shows of the world of the tables, in the rows of the tables.
use Rattle.std.proofs.Common.{◌≡◌, ◌≢◌, ℕ, ◌+◌, ◌-◌, ◌<◌, Bool, true, false, ◌&&◌, cond, List, [], ◌∷◌, ◌++◌, drop, length, map, codes, Option, None, Some, is_some, option_map, refl, sym, ap, ◌∙◌, pos, append_assoc, length-append, arith}
use Rattle.std.specs.Prelude.{decimal, get_or}
use Rattle.std.specs.List.{filter, filter_map}
use Rattle.std.specs.Str.{bytes_eq}
use Rattle.std.proofs.lemmas.Bool.{and_parts}
use Rattle.std.proofs.lemmas.Bool.Decides.{nat_tests}
use Rattle.std.proofs.lemmas.List.{append_cancel_left, get_or-append-add}
use Rattle.std.proofs.lemmas.List.Prefix.{front_rest}
use Rattle.std.proofs.lemmas.Slice.Eq.{bytes_eq-Decides}
use Rattle.line_forms.specs.Cuts.{Lacks}
use Rattle.line_forms.proofs.Cutting.{lacks_by}
use Rattle.bf_world.specs.declared.answer.Answer.TheVariants as answer
use Rattle.bf_world.specs.declared.answer.Entry.{Entry}
use Rattle.bf_world.specs.declared.key.Key.TheVariants as key
use Rattle.bf_world.specs.declared.parts.Node.{Node}
use Rattle.bf_world.specs.declared.parts.Node.TheVariants.{Folder, File}
use Rattle.bf_world.specs.Maps.{at}
use Rattle.bf_world.specs.Paths.{is_part, is_slash, joined, last_name, root, slash_behind}
use Rattle.bf_world.specs.Places.{node_at, is_folder, folder_test}
use Rattle.bf_world.specs.Shown.{entries_in, entry_in, shown}
use Rattle.desk_keep.specs.declared.change.Change.{Change}
use Rattle.desk_keep.specs.declared.change.Change.TheVariants as change
use Rattle.desk_keep.specs.declared.find.Find.{Find}
use Rattle.desk_keep.specs.declared.find.Find.TheVariants as find
use Rattle.desk_keep.specs.declared.table.Table.TheVariants as table
use Rattle.desk_keep.specs.Keys.{Key, asked_key, key_of}
use Rattle.desk_keep.specs.Tables.{is_of, is_result_of, row_at, without_text}
use Rattle.desk_keep.proofs.Putting.{found_key}
use Rattle.session_tables.specs.declared.spot.Spot.TheVariants as spot
use Rattle.session_tables.specs.Inside.{IsSpot, named_entry, root_names, with_name, with_names}
use Rattle.session_tables.specs.Paths.{find_of, folder_of, is_shown, is_shown_id, is_shown_name, name_of, node_of, path_of}
use Rattle.session_tables.specs.Worlds.{folders, paths_of, tables_world}
use Rattle.session_tables.proofs.Finding.{at-elsewhere, at-found, second, untied}
use Rattle.session_tables.proofs.Listing.{IsEntryIn, IsNoEntryIn, listed_entries, names_in, with_entry}
use Rattle.session_tables.proofs.Parts.{name_of_cut, part-Decides}
use Rattle.session_tables.proofs.Naming.{id-lacks, id-part, name-lacks, name-part, site-name}
use Rattle.session_tables.proofs.Spots.{behind_one, cut_of, no_row_in_root, without_slash}

-- ---- what is at a path
pub at_root : (rows : List Change) → Some Folder ≡ node_at (tables_world rows) root
unfolding node_at
at_root rows = refl

at_folder : (name : List ℕ) → Lacks 47 name → (rows : List Change) → at (47 ∷ name) (paths_of rows) ≡ at (47 ∷ name) folders
at_folder name lacks rows = at-elsewhere (47 ∷ name) (no_row_in_root name lacks) rows

pub at_actions : (rows : List Change) → Some Folder ≡ node_at (tables_world rows) (codes "/actions")
unfolding node_at tables_world
at_actions rows = sym (at_folder (codes "actions") (lacks_by 47 (codes "actions") refl) rows)

pub at_computers : (rows : List Change) → Some Folder ≡ node_at (tables_world rows) (codes "/computers")
unfolding node_at tables_world
at_computers rows = sym (at_folder (codes "computers") (lacks_by 47 (codes "computers") refl) rows)

pub at_sites : (rows : List Change) → Some Folder ≡ node_at (tables_world rows) (codes "/sites")
unfolding node_at tables_world
at_sites rows = sym (at_folder (codes "sites") (lacks_by 47 (codes "sites") refl) rows)

not_root : (f : Find) → is_shown f ≡ true → bytes_eq (path_of f) root ≡ false
unfolding path_of
not_root (find.Site name) is = refl
not_root (find.Action id) is = refl
not_root (find.File digest) is = absurd (cc)
not_root (find.Computer name) is = refl
not_root (find.Report computer seq) is = absurd (cc)
not_root (find.Result computer action) is = refl

pub at_row : (f : Find) → is_shown f ≡ true → (rows : List Change) → option_map node_of (row_at (asked_key f) rows) ≡ node_at (tables_world rows) (path_of f)
unfolding node_at tables_world
at_row f is rows = sym (ap (λ b. cond b (Some Folder) (at (path_of f) (paths_of rows))) (not_root f is) ∙ at-found f is rows)

differs : (a b : List ℕ) → a ≢ b → bytes_eq a b ≡ false
differs a b other = by (bytes_eq a b) refl
  where
    by : (t : Bool) → bytes_eq a b ≡ t → bytes_eq a b ≡ false
    by true is = absurd (other ((bytes_eq-Decides a b).0 is))
    by false is = is

none_in_folders : (path : List ℕ) → path ≢ codes "/actions" → path ≢ codes "/computers" → path ≢ codes "/sites" → at path folders ≡ None
none_in_folders path actions computers sites =
    let rest : at path ((codes "/computers", Folder) ∷ (codes "/sites", Folder) ∷ []) ≡ None =
    ap (λ b. cond b (Some Folder) (at path ((codes "/sites", Folder) ∷ []))) (untied path (codes "/computers") computers)
    ∙ ap (λ b. cond b (Some Folder) None) (untied path (codes "/sites") sites) in
    ap (λ b. cond b (Some Folder) (at path ((codes "/computers", Folder) ∷ (codes "/sites", Folder) ∷ []))) (untied path (codes "/actions") actions) ∙ rest

pub at_nothing : (path : List ℕ) → IsSpot path spot.Nowhere → (rows : List Change) → None ≡ node_at (tables_world rows) path
unfolding node_at tables_world
at_nothing path (not_root, not_actions, not_computers, not_sites, other) rows =
    sym (ap (λ b. cond b (Some Folder) (at path (paths_of rows))) (differs path root not_root)
    ∙ at-elsewhere path other rows ∙ none_in_folders path not_actions not_computers not_sites)

-- ---- names in paths
name-lacks_slash : (f : Find) → is_shown f ≡ true → Lacks 47 (name_of f)
name-lacks_slash (find.Site n) is = name-lacks n (site-name n is)
name-lacks_slash (find.Action id) is = id-lacks id is
name-lacks_slash (find.File digest) is = absurd (cc)
name-lacks_slash (find.Computer n) is = name-lacks n is
name-lacks_slash (find.Report computer seq) is = absurd (cc)
name-lacks_slash (find.Result c x) is = id-lacks x (and_parts (is_shown_name c) (is_shown_id x) is).1

pub name-is_part : (f : Find) → is_shown f ≡ true → is_part (name_of f) ≡ true
name-is_part (find.Site n) is = (part-Decides n).1 (name-part n (site-name n is))
name-is_part (find.Action id) is = (part-Decides (decimal id)).1 (id-part id is)
name-is_part (find.File digest) is = absurd (cc)
name-is_part (find.Computer n) is = (part-Decides n).1 (name-part n is)
name-is_part (find.Report computer seq) is = absurd (cc)
name-is_part (find.Result c x) is = (part-Decides (decimal x)).1 (id-part x (and_parts (is_shown_name c) (is_shown_id x) is).1)

behind_cut : (first rest : List ℕ) → drop (length first + 1) (first ++ 47 ∷ rest) ≡ rest
behind_cut first rest =
    let len : length (first ++ 47 ∷ []) ≡ length first + 1 = length-append first (47 ∷ []) in
    ap (λ k. drop k (first ++ 47 ∷ rest)) (sym len) ∙ front_rest (first ++ 47 ∷ rest) (first ++ 47 ∷ []) rest (sym (append_assoc first (47 ∷ []) rest))

last-is : (f : Find) → is_shown f ≡ true → last_name (path_of f) ≡ name_of f
unfolding path_of
last-is f is =
    sym (name_of_cut (folder_of f ++ 47 ∷ name_of f) (folder_of f) (name_of f) (name-lacks_slash f is, refl)) ∙ behind_cut (folder_of f) (name_of f)

-- ---- entries
entry_test : (folder path : List ℕ) (n : Node) (name : List ℕ) → Option Entry
entry_test folder path n name =
    cond (is_part name && bytes_eq (joined folder name) path) (Some (record { name = name; folder = folder_test (Some n) })) None

tested : (folder : List ℕ) (f : Find) (n : Node) → is_shown f ≡ true → entry_in folder (path_of f, n) ≡ entry_test folder (path_of f) n (name_of f)
unfolding entry_in entry_test
tested folder f n is = ap (entry_test folder (path_of f) n) (last-is f is)

entry_at : (folder : List ℕ) (f : Find) (n : Node) → is_shown f ≡ true → joined folder (name_of f) ≡ path_of f
    → entry_in folder (path_of f, n) ≡ Some (record { name = name_of f; folder = folder_test (Some n) })
unfolding entry_test
entry_at folder f n is there =
    let found : Option Entry = Some (record { name = name_of f; folder = folder_test (Some n) }) in
    tested folder f n is
    ∙ ap (λ b. cond (b && bytes_eq (joined folder (name_of f)) (path_of f)) found None) (name-is_part f is)
    ∙ ap (λ b. cond b found None) ((bytes_eq-Decides (joined folder (name_of f)) (path_of f)).1 there)

entry_away : (folder : List ℕ) (f : Find) (n : Node) → is_shown f ≡ true → joined folder (name_of f) ≢ path_of f → entry_in folder (path_of f, n) ≡ None
unfolding entry_test
entry_away folder f n is elsewhere =
    let found : Option Entry = Some (record { name = name_of f; folder = folder_test (Some n) }) in
    tested folder f n is
    ∙ ap (λ b. cond (b && bytes_eq (joined folder (name_of f)) (path_of f)) found None) (name-is_part f is)
    ∙ ap (λ b. cond b found None) (differs (joined folder (name_of f)) (path_of f) elsewhere)

-- ---- the actions
in_actions : (row : Change) → is_of table.Actions row ≡ true → is_shown (find_of row) ≡ true → IsEntryIn (codes "/actions") row
unfolding path_of slash_behind
in_actions (change.Site name version text) asked is = absurd (cc)
in_actions (change.Action id text digest) asked is = entry_at (codes "/actions") (find.Action id) (File text (pos 0)) is refl
in_actions (change.File digest bytes) asked is = absurd (cc)
in_actions (change.Computer name) asked is = absurd (cc)
in_actions (change.Report computer seq digest) asked is = absurd (cc)
in_actions (change.Result result) asked is = absurd (cc)

out_of_actions : (row : Change) → is_of table.Actions row ≡ false → is_shown (find_of row) ≡ true → IsNoEntryIn (codes "/actions") row
unfolding path_of slash_behind
out_of_actions (change.Site name version text) asked is =
    entry_away (codes "/actions") (find.Site name) (File text (pos 0)) is (λ e. absurd (let d : 97 ≡ 115 = ap second e in omega (arith, d)))
out_of_actions (change.Action id text digest) asked is = absurd (cc)
out_of_actions (change.File digest bytes) asked is = absurd (cc)
out_of_actions (change.Computer name) asked is =
    entry_away (codes "/actions") (find.Computer name) Folder is (λ e. absurd (let d : 97 ≡ 99 = ap second e in omega (arith, d)))
out_of_actions (change.Report computer seq digest) asked is = absurd (cc)
out_of_actions (change.Result result) asked is =
    entry_away (codes "/actions") (find_of (change.Result result)) (node_of (change.Result result)) is
    (λ e. absurd (let d : 97 ≡ 99 = ap second e in omega (arith, d)))

-- ---- the sites
in_sites : (row : Change) → is_of table.Sites row ≡ true → is_shown (find_of row) ≡ true → IsEntryIn (codes "/sites") row
unfolding path_of slash_behind
in_sites (change.Site name version text) asked is = entry_at (codes "/sites") (find.Site name) (File text (pos 0)) is refl
in_sites (change.Action id text digest) asked is = absurd (cc)
in_sites (change.File digest bytes) asked is = absurd (cc)
in_sites (change.Computer name) asked is = absurd (cc)
in_sites (change.Report computer seq digest) asked is = absurd (cc)
in_sites (change.Result result) asked is = absurd (cc)

out_of_sites : (row : Change) → is_of table.Sites row ≡ false → is_shown (find_of row) ≡ true → IsNoEntryIn (codes "/sites") row
unfolding path_of slash_behind
out_of_sites (change.Site name version text) asked is = absurd (cc)
out_of_sites (change.Action id text digest) asked is =
    entry_away (codes "/sites") (find.Action id) (File text (pos 0)) is (λ e. absurd (let d : 115 ≡ 97 = ap second e in omega (arith, d)))
out_of_sites (change.File digest bytes) asked is = absurd (cc)
out_of_sites (change.Computer name) asked is =
    entry_away (codes "/sites") (find.Computer name) Folder is (λ e. absurd (let d : 115 ≡ 99 = ap second e in omega (arith, d)))
out_of_sites (change.Report computer seq digest) asked is = absurd (cc)
out_of_sites (change.Result result) asked is =
    entry_away (codes "/sites") (find_of (change.Result result)) (node_of (change.Result result)) is
    (λ e. absurd (let d : 115 ≡ 99 = ap second e in omega (arith, d)))

-- ---- the computers
in_computers : (row : Change) → is_of table.Computers row ≡ true → is_shown (find_of row) ≡ true → IsEntryIn (codes "/computers") row
unfolding path_of slash_behind
in_computers (change.Site name version text) asked is = absurd (cc)
in_computers (change.Action id text digest) asked is = absurd (cc)
in_computers (change.File digest bytes) asked is = absurd (cc)
in_computers (change.Computer name) asked is = entry_at (codes "/computers") (find.Computer name) Folder is refl
in_computers (change.Report computer seq digest) asked is = absurd (cc)
in_computers (change.Result result) asked is = absurd (cc)

out_of_computers : (row : Change) → is_of table.Computers row ≡ false → is_shown (find_of row) ≡ true → IsNoEntryIn (codes "/computers") row
unfolding path_of slash_behind
out_of_computers (change.Site name version text) asked is =
    entry_away (codes "/computers") (find.Site name) (File text (pos 0)) is (λ e. absurd (let d : 99 ≡ 115 = ap second e in omega (arith, d)))
out_of_computers (change.Action id text digest) asked is =
    entry_away (codes "/computers") (find.Action id) (File text (pos 0)) is (λ e. absurd (let d : 99 ≡ 97 = ap second e in omega (arith, d)))
out_of_computers (change.File digest bytes) asked is = absurd (cc)
out_of_computers (change.Computer name) asked is = absurd (cc)
out_of_computers (change.Report computer seq digest) asked is = absurd (cc)
out_of_computers (change.Result result) asked is =
    let x = result.row.action in
    let lacks = name-lacks_slash (find_of (change.Result result)) is in
    entry_away (codes "/computers") (find_of (change.Result result)) (node_of (change.Result result)) is
    (λ e. without_slash result.computer (decimal x) (decimal x) lacks (append_cancel_left (codes "/computers/") (decimal x) (result.computer ++ 47 ∷ decimal x) e))

-- ---- the root
none_in_root : (row : Change) → false ≡ true → is_shown (find_of row) ≡ true → IsEntryIn root row
none_in_root row asked is = absurd (cc)

out_of_root : (row : Change) → false ≡ false → is_shown (find_of row) ≡ true → IsNoEntryIn root row
unfolding slash_behind
out_of_root row asked is =
    entry_away root (find_of row) (node_of row) is (no_row_in_root (name_of (find_of row)) (name-lacks_slash (find_of row) is) (find_of row) is)

-- ---- the results of a computer
not_slash : (byte : ℕ) → byte ≢ 47 → is_slash byte ≡ false
not_slash byte other = by (is_slash byte) refl
  where
    by : (b : Bool) → is_slash byte ≡ b → b ≡ false
    by true is = absurd (grind (arith, nat_tests, other, is))
    by false is = refl

no_slash_behind : (computer : List ℕ) → is_shown_name computer ≡ true → slash_behind (codes "/computers/" ++ computer) ≡ root
unfolding slash_behind
no_slash_behind computer is =
    let some : 0 < length computer = (name-part computer is).0 in
    let front : List ℕ = codes "/computers/" in
    let len : length (front ++ computer) ≡ 11 + length computer = length-append front computer in
    let place : length (front ++ computer) - 1 ≡ 11 + (length computer - 1) = omega (arith, len, some) in
    let last : get_or (front ++ computer) (length (front ++ computer) - 1) 0 ≡ get_or computer (length computer - 1) 0 =
    ap (λ k. get_or (front ++ computer) k 0) place ∙ get_or-append-add front computer (length computer - 1) 0 in
    let other : get_or computer (length computer - 1) 0 ≢ 47 = name-lacks computer is (length computer - 1) 0 (omega (arith, some)) in
    ap (λ b. cond (is_slash b) [] root) last ∙ ap (λ b. cond b [] root) (not_slash (get_or computer (length computer - 1) 0) other)

joined_there : (computer name : List ℕ) → is_shown_name computer ≡ true → joined (codes "/computers/" ++ computer) name ≡ (codes "/computers/" ++ computer) ++ 47 ∷ name
joined_there computer name is =
    let folder : List ℕ = codes "/computers/" ++ computer in
    let slash : slash_behind folder ≡ 47 ∷ [] = no_slash_behind computer is in
    ap (λ (s : List ℕ). (folder ++ s) ++ name) slash ∙ append_assoc folder (47 ∷ []) name

in_computer : (computer : List ℕ) → is_shown_name computer ≡ true → (row : Change) → is_result_of computer row ≡ true → is_shown (find_of row) ≡ true
    → IsEntryIn (codes "/computers/" ++ computer) row
unfolding path_of
in_computer computer shown (change.Site name version text) asked is = absurd (cc)
in_computer computer shown (change.Action id text digest) asked is = absurd (cc)
in_computer computer shown (change.File digest bytes) asked is = absurd (cc)
in_computer computer shown (change.Computer name) asked is = absurd (cc)
in_computer computer shown (change.Report other seq digest) asked is = absurd (cc)
in_computer computer shown (change.Result result) asked is =
    let same : result.computer ≡ computer = (bytes_eq-Decides result.computer computer).0 asked in
    entry_at (codes "/computers/" ++ computer) (find_of (change.Result result)) (node_of (change.Result result)) is
    (joined_there computer (decimal result.row.action) shown ∙ ap (λ c. (codes "/computers/" ++ c) ++ 47 ∷ decimal result.row.action) (sym same))

out_of_computer : (computer : List ℕ) → is_shown_name computer ≡ true → (row : Change) → is_result_of computer row ≡ false → is_shown (find_of row) ≡ true
    → IsNoEntryIn (codes "/computers/" ++ computer) row
unfolding path_of
out_of_computer computer shown (change.Site name version text) asked is =
    entry_away (codes "/computers/" ++ computer) (find.Site name) (File text (pos 0)) is
    (λ e. absurd (let d : 99 ≡ 115 = ap second (sym (joined_there computer name shown) ∙ e) in omega (arith, d)))
out_of_computer computer shown (change.Action id text digest) asked is =
    entry_away (codes "/computers/" ++ computer) (find.Action id) (File text (pos 0)) is
    (λ e. absurd (let d : 99 ≡ 97 = ap second (sym (joined_there computer (decimal id) shown) ∙ e) in omega (arith, d)))
out_of_computer computer shown (change.File digest bytes) asked is = absurd (cc)
out_of_computer computer shown (change.Computer name) asked is =
    entry_away (codes "/computers/" ++ computer) (find.Computer name) Folder is
    (λ e. without_slash computer name name (name-lacks name is)
    (sym (append_cancel_left (codes "/computers/") (computer ++ 47 ∷ name) name (sym (joined_there computer name shown) ∙ e))))
out_of_computer computer shown (change.Report other seq digest) asked is = absurd (cc)
out_of_computer computer shown (change.Result result) asked is =
    let x = decimal result.row.action in
    let named = and_parts (is_shown_name result.computer) (is_shown_id result.row.action) is in
    entry_away (codes "/computers/" ++ computer) (find_of (change.Result result)) (node_of (change.Result result)) is
    (λ e.
    let paths : computer ++ 47 ∷ x ≡ result.computer ++ 47 ∷ x =
    append_cancel_left (codes "/computers/") (computer ++ 47 ∷ x) (result.computer ++ 47 ∷ x) (sym (joined_there computer x shown) ∙ e) in
    let same : computer ≡ result.computer = (cut_of computer x result.computer x (name-lacks computer shown) (name-lacks result.computer named.0) paths).0 in
    let both : false ≡ true = sym asked ∙ (bytes_eq-Decides result.computer computer).1 (sym same) in
    absurd (cc))

-- ---- lists
list_entries : (path : List ℕ) (rows : List Change) (names : List (List ℕ × Bool)) → Some Folder ≡ node_at (tables_world rows) path
    → filter_map (entry_in path) (paths_of rows) ≡ map named_entry names → answer.Entries (map named_entry names) ≡ shown (tables_world rows) (key.List path)
unfolding is_folder entries_in tables_world
list_entries path rows names there listed =
    ap answer.Entries (sym listed) ∙ ap (λ o. cond (folder_test o) (answer.Entries (filter_map (entry_in path) (paths_of rows))) answer.Nothing) there

list_nothing : (path : List ℕ) (rows : List Change) (o : Option Node) → folder_test o ≡ false → o ≡ node_at (tables_world rows) path
    → answer.Nothing ≡ shown (tables_world rows) (key.List path)
unfolding is_folder
list_nothing path rows o test there =
    sym (ap (λ b. cond b (answer.Entries (entries_in (tables_world rows) path)) answer.Nothing) (ap folder_test (sym there) ∙ test))

no_rows : (names : List (List ℕ × Bool)) (rows : List Change) → with_names (filter (λ _. false) rows) names ≡ names
no_rows names [] = refl
no_rows names (row ∷ rows) = no_rows names rows

root_folders : names_in root folders ≡ root_names
unfolding entry_in slash_behind is_part last_name
root_folders = refl

pub list_root : (rows : List Change) → answer.Entries (map named_entry root_names) ≡ shown (tables_world rows) (key.List root)
list_root rows =
    ap (λ names. answer.Entries (map named_entry names)) (sym (no_rows root_names rows))
    ∙ list_entries root rows (with_names (filter (λ _. false) rows) root_names) (at_root rows)
    (listed_entries root (λ _. false) root_names root_folders none_in_root out_of_root rows)

-- none of the three folders stands in another one than the root
last-in_root : (name : List ℕ) → Lacks 47 name → last_name (47 ∷ name) ≡ name
last-in_root name lacks = sym (name_of_cut (47 ∷ name) [] name (lacks, refl)) ∙ behind_cut [] name

and_false : (b : Bool) → (b && false) ≡ false
and_false true = refl
and_false false = refl

folder_away : (folder name : List ℕ) → Lacks 47 name → slash_behind (47 ∷ folder) ≡ root → entry_in (47 ∷ folder) (47 ∷ name, Folder) ≡ None
unfolding entry_in entry_test
folder_away folder name lacks slash =
    let found : Option Entry = Some (record { name = name; folder = true }) in
    let behind : slash_behind (47 ∷ folder) ≡ 47 ∷ [] = slash in
    let elsewhere : joined (47 ∷ folder) name ≢ 47 ∷ name = λ e.
    without_slash folder name name lacks (sym (behind_one 47 (folder ++ 47 ∷ name) name
    (sym (append_assoc (47 ∷ folder) (47 ∷ []) name) ∙ ap (λ (s : List ℕ). ((47 ∷ folder) ++ s) ++ name) (sym behind) ∙ e))) in
    ap (entry_test (47 ∷ folder) (47 ∷ name) Folder) (last-in_root name lacks)
    ∙ ap (λ b. cond (is_part name && b) found None) (differs (joined (47 ∷ folder) name) (47 ∷ name) elsewhere)
    ∙ ap (λ b. cond b found None) (and_false (is_part name))

no_folders_in : (folder : List ℕ) → slash_behind (47 ∷ folder) ≡ root → names_in (47 ∷ folder) folders ≡ []
no_folders_in folder slash =
    let away : (name : List ℕ) → Lacks 47 name → entry_in (47 ∷ folder) (47 ∷ name, Folder) ≡ None = λ name lacks. folder_away folder name lacks slash in
    ap (λ o. with_entry o (with_entry (entry_in (47 ∷ folder) (codes "/computers", Folder)) (with_entry (entry_in (47 ∷ folder) (codes "/sites", Folder)) [])))
    (away (codes "actions") (lacks_by 47 (codes "actions") refl))
    ∙ ap (λ o. with_entry o (with_entry (entry_in (47 ∷ folder) (codes "/sites", Folder)) [])) (away (codes "computers") (lacks_by 47 (codes "computers") refl))
    ∙ ap (λ o. with_entry o []) (away (codes "sites") (lacks_by 47 (codes "sites") refl))

slash_of_actions : slash_behind (codes "/actions") ≡ root
unfolding slash_behind
slash_of_actions = refl

slash_of_computers : slash_behind (codes "/computers") ≡ root
unfolding slash_behind
slash_of_computers = refl

slash_of_sites : slash_behind (codes "/sites") ≡ root
unfolding slash_behind
slash_of_sites = refl

pub list_actions : (rows : List Change) → answer.Entries (map named_entry (with_names (filter (is_of table.Actions) rows) [])) ≡ shown (tables_world rows) (key.List (codes "/actions"))
list_actions rows =
    list_entries (codes "/actions") rows (with_names (filter (is_of table.Actions) rows) []) (at_actions rows)
    (listed_entries (codes "/actions") (is_of table.Actions) [] (no_folders_in (codes "actions") slash_of_actions) in_actions out_of_actions rows)

pub list_computers : (rows : List Change) → answer.Entries (map named_entry (with_names (filter (is_of table.Computers) rows) [])) ≡ shown (tables_world rows) (key.List (codes "/computers"))
list_computers rows =
    list_entries (codes "/computers") rows (with_names (filter (is_of table.Computers) rows) []) (at_computers rows)
    (listed_entries (codes "/computers") (is_of table.Computers) [] (no_folders_in (codes "computers") slash_of_computers) in_computers out_of_computers rows)

-- a site has the same name without its text
without_texts : (rows : List Change) → with_names (map without_text rows) [] ≡ with_names rows []
without_texts [] = refl
without_texts (change.Site name version text ∷ rows) = ap (with_name (change.Site name version text)) (without_texts rows)
without_texts (change.Action id text digest ∷ rows) = ap (with_name (change.Action id text digest)) (without_texts rows)
without_texts (change.File digest bytes ∷ rows) = without_texts rows
without_texts (change.Computer name ∷ rows) = ap (with_name (change.Computer name)) (without_texts rows)
without_texts (change.Report computer seq digest ∷ rows) = without_texts rows
without_texts (change.Result result ∷ rows) = ap (with_name (change.Result result)) (without_texts rows)

pub list_sites : (rows : List Change)
    → answer.Entries (map named_entry (with_names (map without_text (filter (is_of table.Sites) rows)) [])) ≡ shown (tables_world rows) (key.List (codes "/sites"))
list_sites rows =
    ap (λ names. answer.Entries (map named_entry names)) (without_texts (filter (is_of table.Sites) rows))
    ∙ list_entries (codes "/sites") rows (with_names (filter (is_of table.Sites) rows) []) (at_sites rows)
    (listed_entries (codes "/sites") (is_of table.Sites) [] (no_folders_in (codes "sites") slash_of_sites) in_sites out_of_sites rows)

-- ---- the entries of what a row is shown as
computer_row : (name : List ℕ) (row : Change) → key_of row ≡ asked_key (find.Computer name) → node_of row ≡ Folder
computer_row name (change.Site n version text) is = absurd (let d : 0 ≡ 3 = ap (λ (k : Key). k.table) is in omega (arith, d))
computer_row name (change.Action id text digest) is = absurd (let d : 1 ≡ 3 = ap (λ (k : Key). k.table) is in omega (arith, d))
computer_row name (change.File digest bytes) is = refl
computer_row name (change.Computer n) is = refl
computer_row name (change.Report c seq digest) is = refl
computer_row name (change.Result result) is = absurd (let d : 5 ≡ 3 = ap (λ (k : Key). k.table) is in omega (arith, d))

pub list_computer : (name : List ℕ) → is_shown_name name ≡ true → (rows : List Change) (row : Change) → row_at (asked_key (find.Computer name)) rows ≡ Some row
    → answer.Entries (map named_entry (with_names (filter (is_result_of name) rows) [])) ≡ shown (tables_world rows) (key.List (path_of (find.Computer name)))
unfolding path_of
list_computer name shown rows row found =
    let folder : List ℕ = codes "/computers/" ++ name in
    let node : node_of row ≡ Folder = computer_row name row (found_key (asked_key (find.Computer name)) rows row found) in
    let there : Some Folder ≡ node_at (tables_world rows) folder =
    ap Some (sym node) ∙ ap (option_map node_of) (sym found) ∙ at_row (find.Computer name) shown rows in
    list_entries folder rows (with_names (filter (is_result_of name) rows) []) there
    (listed_entries folder (is_result_of name) [] (no_folders_in (codes "computers/" ++ name) (no_slash_behind name shown))
    (in_computer name shown) (out_of_computer name shown) rows)

pub list_computer_row : (name : List ℕ) → is_shown_name name ≡ true → (rows : List Change) → is_some (row_at (asked_key (find.Computer name)) rows) ≡ true
    → answer.Entries (map named_entry (with_names (filter (is_result_of name) rows) [])) ≡ shown (tables_world rows) (key.List (path_of (find.Computer name)))
list_computer_row name shown_name rows there = by (row_at (asked_key (find.Computer name)) rows) refl there
  where
    by : (o : Option Change) → row_at (asked_key (find.Computer name)) rows ≡ o → is_some o ≡ true
        → answer.Entries (map named_entry (with_names (filter (is_result_of name) rows) [])) ≡ shown (tables_world rows) (key.List (path_of (find.Computer name)))
    by None found is = absurd (cc)
    by (Some row) found is = list_computer name shown_name rows row found

pub list_absent : (f : Find) → is_shown f ≡ true → (rows : List Change) → row_at (asked_key f) rows ≡ None
    → answer.Nothing ≡ shown (tables_world rows) (key.List (path_of f))
list_absent f is rows absent = list_nothing (path_of f) rows None refl (ap (option_map node_of) (sym absent) ∙ at_row f is rows)

pub list_nowhere : (path : List ℕ) → IsSpot path spot.Nowhere → (rows : List Change) → answer.Nothing ≡ shown (tables_world rows) (key.List path)
list_nowhere path nowhere rows = list_nothing path rows None refl (at_nothing path nowhere rows)

-- a row that is shown and is no computer is a file
file_row : (row : Change) → (key_of row).table ≢ 2 → (key_of row).table ≢ 3 → (key_of row).table ≢ 4 → folder_test (Some (node_of row)) ≡ false
file_row (change.Site n version text) file computer report = refl
file_row (change.Action id text digest) file computer report = refl
file_row (change.File digest bytes) file computer report = absurd (file refl)
file_row (change.Computer n) file computer report = absurd (computer refl)
file_row (change.Report c seq digest) file computer report = absurd (report refl)
file_row (change.Result result) file computer report = refl

-- a key is that of a computer
abbrev pub is_computer : Find → Bool
is_computer (find.Computer name) = true
is_computer _ = false

found_file : (f : Find) → is_shown f ≡ true → is_computer f ≡ false → (row : Change) → key_of row ≡ asked_key f → folder_test (Some (node_of row)) ≡ false
found_file (find.Site n) is other row e =
    let t : (key_of row).table ≡ 0 = ap (λ (k : Key). k.table) e in
    file_row row (λ h. absurd (omega (arith, t, h))) (λ h. absurd (omega (arith, t, h))) (λ h. absurd (omega (arith, t, h)))
found_file (find.Action id) is other row e =
    let t : (key_of row).table ≡ 1 = ap (λ (k : Key). k.table) e in
    file_row row (λ h. absurd (omega (arith, t, h))) (λ h. absurd (omega (arith, t, h))) (λ h. absurd (omega (arith, t, h)))
found_file (find.File digest) is other row e = absurd (cc)
found_file (find.Computer n) is other row e = absurd (cc)
found_file (find.Report c seq) is other row e = absurd (cc)
found_file (find.Result c x) is other row e =
    let t : (key_of row).table ≡ 5 = ap (λ (k : Key). k.table) e in
    file_row row (λ h. absurd (omega (arith, t, h))) (λ h. absurd (omega (arith, t, h))) (λ h. absurd (omega (arith, t, h)))

not_folder : (f : Find) → is_shown f ≡ true → is_computer f ≡ false → (rows : List Change) (o : Option Change) → row_at (asked_key f) rows ≡ o
    → folder_test (option_map node_of o) ≡ false
not_folder f is other rows None found = refl
not_folder f is other rows (Some row) found = found_file f is other row (found_key (asked_key f) rows row found)

pub no_computer_key : (f : Find) → ((name : List ℕ) → f ≢ find.Computer name) → is_computer f ≡ false
no_computer_key (find.Site n) other = refl
no_computer_key (find.Action id) other = refl
no_computer_key (find.File digest) other = refl
no_computer_key (find.Computer n) other = absurd (other n refl)
no_computer_key (find.Report c seq) other = refl
no_computer_key (find.Result c x) other = refl

pub list_file : (f : Find) → is_shown f ≡ true → is_computer f ≡ false → (rows : List Change) → answer.Nothing ≡ shown (tables_world rows) (key.List (path_of f))
list_file f is other rows =
    list_nothing (path_of f) rows (option_map node_of (row_at (asked_key f) rows)) (not_folder f is other rows (row_at (asked_key f) rows) refl) (at_row f is rows)
