-- Paths at which nothing is, and whose folder is there.
use Rattle.std.proofs.Common.{◌≡◌, ℕ, Bool, true, false, List, None, Some, refl, sym, ap, subst, ◌∙◌}
use Rattle.std.specs.Prelude.{IsTrue}
use Rattle.std.specs.declared.option.Option.{Option}
use Rattle.line_forms.specs.Paths.{IsPath}
use Rattle.bf_world.specs.declared.parts.Node.{Node}
use Rattle.bf_world.specs.declared.parts.Node.TheVariants.{Folder, File}
use Rattle.bf_world.specs.Places.{node_at, is_folder, is_file, folder_test, file_test, has_parent}
use Rattle.bf_world.specs.Worlds.{WorldState}
use Rattle.world_text.specs.Rows.{IsNewPath}

nothing : (node : Option Node) → folder_test node ≡ false → file_test node ≡ false → node ≡ None
nothing None a b = refl
nothing (Some Folder) a b = absurd (cc)
nothing (Some (File content modified)) a b = absurd (cc)

is_absent : (w : WorldState) (path : List ℕ) → is_folder w path ≡ false → is_file w path ≡ false → node_at w path ≡ None
unfolding is_folder is_file
is_absent w path a b = nothing (node_at w path) a b

no_folder_at : (w : WorldState) (path : List ℕ) → is_folder w path ≡ true → node_at w path ≡ None → ⊥
unfolding is_folder
no_folder_at w path there absent = let e : true ≡ false = sym there ∙ ap folder_test absent in cc

no_file_at : (w : WorldState) (path : List ℕ) → is_file w path ≡ true → node_at w path ≡ None → ⊥
unfolding is_file
no_file_at w path there absent = let e : true ≡ false = sym there ∙ ap file_test absent in cc

pub folder_there : (w : WorldState) (text path : List ℕ) (there : Bool) → path ≡ text → there ≡ is_folder w path → there ≡ true → IsNewPath w text → ⊥
folder_there w text path there same is truly h =
    let P : List ℕ → Type 0 = λ p. is_folder w p ≡ true in
    no_folder_at w text (subst P same (sym is ∙ truly)) h.absent

pub file_there : (w : WorldState) (text path : List ℕ) (there : Bool) → path ≡ text → there ≡ is_file w path → there ≡ true → IsNewPath w text → ⊥
file_there w text path there same is truly h =
    let P : List ℕ → Type 0 = λ p. is_file w p ≡ true in
    no_file_at w text (subst P same (sym is ∙ truly)) h.absent

is_true : (b : Bool) → b ≡ true → IsTrue b
is_true true e = e
is_true false e = absurd (cc)

pub new_path_is : (w : WorldState) (text path : List ℕ) (folder file parent : Bool) → path ≡ text → IsPath text → folder ≡ is_folder w path → folder ≡ false → file ≡ is_file w path → file ≡ false →
    parent ≡ has_parent w path → parent ≡ true → IsNewPath w text
new_path_is w text path folder file parent same form a no_folder b no_file c truly =
    let P : List ℕ → Type 0 = λ p. node_at w p ≡ None in
    let Q : List ℕ → Type 0 = λ p. IsTrue (has_parent w p) in
    record {
      form = form;
      absent = subst P same (is_absent w path (sym a ∙ no_folder) (sym b ∙ no_file));
      parent = subst Q same (is_true (has_parent w path) (sym c ∙ truly));
    }
