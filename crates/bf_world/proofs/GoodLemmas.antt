-- What is shown of a sound world is a good answer.
use Rattle.std.proofs.Common.{◌≡◌, ℕ, true, false, cond, ◌&&◌, List, [], ◌∷◌, map, All, Some, None, subst, sym, refl, arith, Result, Ok, Err, IfOk}
use Rattle.std.specs.declared.option.Option.{Option}
use Rattle.std.specs.List.{filter_map, cons_option}
use Rattle.std.specs.Map.{values_of}
use Rattle.std.specs.BTreeMap.{is_at}
use Rattle.std.specs.Option.{IfSome}
use Rattle.std.specs.Str.{bytes_eq}
use Rattle.std.proofs.lemmas.Int.{ints}
use Rattle.std.proofs.lemmas.List.Elements.{All-nil, All-cons, All-head, All-tail}
use Rattle.std.proofs.lemmas.Map.Views.{IfSome-lookup_from_All}
use Rattle.desk_base.specs.Moments.{IsMoment}
use Rattle.line_forms.specs.Paths.{IsPart}
use Rattle.line_forms.specs.Versions.{IsVersion}
use Rattle.bf_world.specs.declared.answer.Answer.TheVariants as answer
use Rattle.bf_world.specs.declared.answer.Entry.{Entry}
use Rattle.bf_world.specs.declared.key.Key.{Key}
use Rattle.bf_world.specs.declared.key.Key.TheVariants as key
use Rattle.bf_world.specs.declared.parts.Node.{Node}
use Rattle.bf_world.specs.declared.parts.Node.TheVariants.{Folder, File}
use Rattle.bf_world.specs.declared.parts.SettingValue.{SettingValue}
use Rattle.bf_world.specs.Answers.{IsGoodAnswer}
use Rattle.bf_world.specs.Maps.{byte_order, at}
use Rattle.bf_world.specs.Paths.{root, is_part, last_name, joined}
use Rattle.bf_world.specs.Places.{node_at, is_folder, folder_test}
use Rattle.bf_world.specs.Shown.{shown, stat_of, read_of, entry_in, entries_in, package_row, setting_row}
use Rattle.bf_world.specs.Sound.{IsSound, IsSoundNode}
use Rattle.bf_world.specs.Worlds.{WorldState}
use Rattle.bf_world.proofs.PathTests.{part-Decides}

node-sound : (w : WorldState) → IsSound w → (path : List ℕ) → IfSome (node_at w path) IsSoundNode
unfolding node_at
node-sound w sound path =
    elim (bytes_eq path root) as (λ b. IfSome (cond b (Some Folder) (at path w.paths)) IsSoundNode) [
      | true ↦ tt
      | false ↦ IfSome-lookup_from_All IsSoundNode (is_at (byte_order path)) w.paths sound.nodes
    ]

good-stat : (node : Option Node) → IfSome node IsSoundNode → IsGoodAnswer (stat_of node)
good-stat None is = tt
good-stat (Some Folder) is = tt
good-stat (Some (File content modified)) is = (omega (arith, ints), is)

good-read : (node : Option Node) → IsGoodAnswer (read_of node)
good-read None = tt
good-read (Some Folder) = tt
good-read (Some (File content modified)) = tt

entry-part : (folder : List ℕ) (e : List ℕ × Node) → IfSome (entry_in folder e) (λ entry. IsPart entry.name)
unfolding entry_in
entry-part folder e =
    let name = last_name e.0 in
    let same = bytes_eq (joined folder name) e.0 in
    let found : Option Entry = Some (record { name = name; folder = folder_test (Some e.1) }) in
    elim (is_part name) as (λ b. (b ≡ true → IsPart name) → IfSome (cond (b && same) found None) (λ entry. IsPart entry.name)) [
      | true ↦ λ part. elim same as (λ b. IfSome (cond b found None) (λ entry. IsPart entry.name)) [ true ↦ part refl | false ↦ tt ]
      | false ↦ λ part. tt
    ] (part-Decides name).0

part-onto : (o : Option Entry) (entries : List Entry) → IfSome o (λ entry. IsPart entry.name) → All (λ entry. IsPart entry.name) entries → All (λ entry. IsPart entry.name) (cons_option o entries)
part-onto None entries is all = all
part-onto (Some entry) entries is all = All-cons (λ entry. IsPart entry.name) entry entries is all

entries-parts : (folder : List ℕ) (es : List (List ℕ × Node)) → All (λ entry. IsPart entry.name) (filter_map (entry_in folder) es)
entries-parts folder [] = All-nil (λ entry. IsPart entry.name)
entries-parts folder (e ∷ es) = part-onto (entry_in folder e) (filter_map (entry_in folder) es) (entry-part folder e) (entries-parts folder es)

packages-good : (es : List (List ℕ × List ℕ)) → All IsVersion (values_of es) → All (λ row. IsVersion row.version) (map package_row es)
packages-good [] all = All-nil (λ row. IsVersion row.version)
packages-good (e ∷ es) all = All-cons (λ row. IsVersion row.version) (package_row e) (map package_row es) (All-head IsVersion e.1 (values_of es) all) (packages-good es (All-tail IsVersion e.1 (values_of es) all))

settings-good : (es : List (List ℕ × SettingValue)) → All (λ s. IsMoment s.date) (values_of es) → All (λ row. IsMoment row.date) (map setting_row es)
settings-good [] all = All-nil (λ row. IsMoment row.date)
settings-good (e ∷ es) all = All-cons (λ row. IsMoment row.date) (setting_row e) (map setting_row es) (All-head (λ s. IsMoment s.date) e.1 (values_of es) all) (settings-good es (All-tail (λ s. IsMoment s.date) e.1 (values_of es) all))

pub good-shown : (w : WorldState) → IsSound w → (k : Key) → IsGoodAnswer (shown w k)
unfolding entries_in
good-shown w sound (key.Stat path) = good-stat (node_at w path) (node-sound w sound path)
good-shown w sound (key.List path) =
    elim (is_folder w path) as (λ b. IsGoodAnswer (cond b (answer.Entries (entries_in w path)) answer.Nothing)) [
      | true ↦ entries-parts path w.paths
      | false ↦ tt
    ]
good-shown w sound (key.Read path) = good-read (node_at w path)
good-shown w sound key.System = sound.version
good-shown w sound key.ComputerName = tt
good-shown w sound key.Processes = tt
good-shown w sound key.Packages = packages-good w.packages sound.packages
good-shown w sound key.Settings = settings-good w.settings sound.settings

pub good-answer : {E : Type 0} (w : WorldState) → IsSound w → (k : Key) (r : Result _ E) → IfOk r (λ a. a ≡ shown w k) → IfOk r IsGoodAnswer
good-answer w sound k (Ok a) is = subst IsGoodAnswer (sym is) (good-shown w sound k)
good-answer w sound k (Err e) is = tt
