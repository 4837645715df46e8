-- Names that a look shows ascend, where the keys of the maps do.
use Rattle.std.proofs.Common.{◌≡◌, ℕ, true, false, cond, ◌&&◌, List, [], ◌∷◌, ◌++◌, map, Some, None, refl, ap, sym, subst, ◌∙◌, Result, Ok, Err, IfOk}
use Rattle.std.specs.declared.option.Option.{Option}
use Rattle.std.specs.declared.cmp.Ordering.TheVariants.{Less}
use Rattle.std.specs.Ordering.{nat_cmp, ordering_then}
use Rattle.std.specs.List.{filter_map, cons_option, AllByRecursion}
use Rattle.std.specs.List.Sorted.{IsStrictlySortedBy}
use Rattle.std.specs.Map.{keys_of}
use Rattle.std.specs.Option.{IfSome}
use Rattle.std.specs.Str.{bytes_eq}
use Rattle.std.proofs.lemmas.Cmp.{nat_cmp_total}
use Rattle.std.proofs.lemmas.Slice.Eq.{bytes_eq-Decides}
use Rattle.bf_world.specs.declared.answer.Answer.TheVariants as answer
use Rattle.bf_world.specs.declared.answer.Entry.{Entry}
use Rattle.bf_world.specs.declared.key.Key.{Key}
use Rattle.bf_world.specs.declared.key.Key.TheVariants as key
use Rattle.bf_world.specs.declared.parts.Node.{Node}
use Rattle.bf_world.specs.declared.parts.Node.TheVariants.{Folder, File}
use Rattle.bf_world.specs.declared.parts.SettingValue.{SettingValue}
use Rattle.bf_world.specs.Answers.{HasAscendingNames}
use Rattle.bf_world.specs.Maps.{byte_order, IsMap}
use Rattle.bf_world.specs.Paths.{is_part, last_name, slash_behind, joined}
use Rattle.bf_world.specs.Places.{node_at, is_folder, folder_test}
use Rattle.bf_world.specs.Shown.{shown, stat_of, read_of, entry_in, entries_in, package_row, setting_row}
use Rattle.bf_world.specs.Sound.{HasMaps}
use Rattle.bf_world.specs.Worlds.{WorldState}
use Rattle.bf_world.proofs.MapLemmas.{itself}

-- texts with a common front are ordered by what is behind it
behind_front : (p a b : List ℕ) → byte_order (p ++ a) (p ++ b) ≡ byte_order a b
behind_front [] a b = refl
behind_front (x ∷ xs) a b =
    ap (λ r. ordering_then r (byte_order (xs ++ a) (xs ++ b))) (itself (nat_cmp x x) (nat_cmp_total.antisymm x x)) ∙ behind_front xs a b

in_folder : (folder a b : List ℕ) → byte_order (joined folder a) (joined folder b) ≡ byte_order a b
in_folder folder a b = behind_front (folder ++ slash_behind folder) a b

-- an entry of a folder stands at its joined path
entry-joined : (folder : List ℕ) (e : List ℕ × Node) → IfSome (entry_in folder e) (λ entry. joined folder entry.name ≡ e.0)
unfolding entry_in
entry-joined folder e =
    let name = last_name e.0 in
    let found : Option Entry = Some (record { name = name; folder = folder_test (Some e.1) }) in
    let at_it : Option Entry → Type 0 = λ o. IfSome o (λ entry. joined folder entry.name ≡ e.0) in
    elim (is_part name) as (λ b. at_it (cond (b && bytes_eq (joined folder name) e.0) found None)) [
      | true ↦
          elim (bytes_eq (joined folder name) e.0) as (λ b. (b ≡ true → joined folder name ≡ e.0) → at_it (cond b found None)) [
            | true ↦ λ same. same refl
            | false ↦ λ same. tt
          ] (bytes_eq-Decides (joined folder name) e.0).0
      | false ↦ tt
    ]

-- names below those of the entries
below-onto : (folder name path : List ℕ) (o : Option Entry) (entries : List Entry) → byte_order (joined folder name) path ≡ Less → IfSome o (λ entry. joined folder entry.name ≡ path)
    → AllByRecursion (λ y. byte_order name y ≡ Less) (map (λ e. e.name) entries) → AllByRecursion (λ y. byte_order name y ≡ Less) (map (λ e. e.name) (cons_option o entries))
below-onto folder name path None entries below is all = all
below-onto folder name path (Some entry) entries below is all =
    (sym (in_folder folder name entry.name) ∙ ap (byte_order (joined folder name)) is ∙ below, all)

below-entries : (folder name : List ℕ) (es : List (List ℕ × Node)) → AllByRecursion (λ y. byte_order (joined folder name) y ≡ Less) (keys_of es)
    → AllByRecursion (λ y. byte_order name y ≡ Less) (map (λ e. e.name) (filter_map (entry_in folder) es))
below-entries folder name [] all = tt
below-entries folder name (e ∷ es) all =
    below-onto folder name e.0 (entry_in folder e) (filter_map (entry_in folder) es) all.0 (entry-joined folder e) (below-entries folder name es all.1)

sorted-onto : (folder path : List ℕ) (o : Option Entry) (es : List (List ℕ × Node)) → AllByRecursion (λ y. byte_order path y ≡ Less) (keys_of es) → IfSome o (λ entry. joined folder entry.name ≡ path)
    → IsStrictlySortedBy byte_order (map (λ e. e.name) (filter_map (entry_in folder) es)) → IsStrictlySortedBy byte_order (map (λ e. e.name) (cons_option o (filter_map (entry_in folder) es)))
unfolding IsStrictlySortedBy
sorted-onto folder path None es below is sorted = sorted
sorted-onto folder path (Some entry) es below is sorted =
    (below-entries folder entry.name es (subst (λ p. AllByRecursion (λ y. byte_order p y ≡ Less) (keys_of es)) (sym is) below), sorted)

sorted-entries : (folder : List ℕ) (es : List (List ℕ × Node)) → IsMap es → IsStrictlySortedBy byte_order (map (λ e. e.name) (filter_map (entry_in folder) es))
unfolding IsStrictlySortedBy
sorted-entries folder [] sorted = tt
sorted-entries folder (e ∷ es) sorted = sorted-onto folder e.0 (entry_in folder e) es sorted.0 (entry-joined folder e) (sorted-entries folder es sorted.1)

-- rows have the names that are the keys
package-names : (es : List (List ℕ × List ℕ)) → keys_of es ≡ map (λ row. row.name) (map package_row es)
package-names [] = refl
package-names (e ∷ es) = ap (λ l. e.0 ∷ l) (package-names es)

setting-names : (es : List (List ℕ × SettingValue)) → keys_of es ≡ map (λ row. row.name) (map setting_row es)
setting-names [] = refl
setting-names (e ∷ es) = ap (λ l. e.0 ∷ l) (setting-names es)

stat-ascends : (node : Option Node) → HasAscendingNames (stat_of node)
stat-ascends None = tt
stat-ascends (Some Folder) = tt
stat-ascends (Some (File content modified)) = tt

read-ascends : (node : Option Node) → HasAscendingNames (read_of node)
read-ascends None = tt
read-ascends (Some Folder) = tt
read-ascends (Some (File content modified)) = tt

shown-ascends : (w : WorldState) → HasMaps w → (k : Key) → HasAscendingNames (shown w k)
unfolding entries_in
shown-ascends w maps (key.Stat path) = stat-ascends (node_at w path)
shown-ascends w maps (key.List path) =
    elim (is_folder w path) as (λ b. HasAscendingNames (cond b (answer.Entries (entries_in w path)) answer.Nothing)) [
      | true ↦ sorted-entries path w.paths maps.paths
      | false ↦ tt
    ]
shown-ascends w maps (key.Read path) = read-ascends (node_at w path)
shown-ascends w maps key.System = tt
shown-ascends w maps key.ComputerName = tt
shown-ascends w maps key.Processes = maps.processes
shown-ascends w maps key.Packages = subst (λ l. IsStrictlySortedBy byte_order l) (package-names w.packages) maps.packages
shown-ascends w maps key.Settings = subst (λ l. IsStrictlySortedBy byte_order l) (setting-names w.settings) maps.settings

pub answer-ascends : {E : Type 0} (w : WorldState) → HasMaps w → (k : Key) (r : Result _ E) → IfOk r (λ a. a ≡ shown w k) → IfOk r HasAscendingNames
answer-ascends w maps k (Ok a) is = subst HasAscendingNames (sym is) (shown-ascends w maps k)
answer-ascends w maps k (Err e) is = tt
