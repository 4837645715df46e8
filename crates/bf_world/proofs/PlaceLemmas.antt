-- What is where in a world, after changes.
use Rattle.std.proofs.Common.{◌≡◌, false, Some, None, ap, refl}
use Rattle.std.specs.declared.option.Option.{Option}
use Rattle.bf_world.specs.declared.parts.Node.{Node}
use Rattle.bf_world.specs.declared.parts.Node.TheVariants.{Folder, File}
use Rattle.bf_world.specs.Maps.{at}
use Rattle.bf_world.specs.Places.{node_at, is_folder, is_file, folder_test, file_test, with_node, without_node}
use Rattle.bf_world.specs.Done.{download}
use Rattle.bf_world.specs.Worlds.{WorldState}
use Rattle.bf_world.proofs.MapLemmas.{without-put}

nothing : (node : Option Node) → folder_test node ≡ false → file_test node ≡ false → node ≡ None
nothing None a b = refl
nothing (Some Folder) a b = absurd (cc)
nothing (Some (File content modified)) a b = absurd (cc)

-- the download folder that was made is taken away again
pub undo : (w : WorldState) → is_folder w download ≡ false → is_file w download ≡ false → without_node download (with_node download Folder w) ≡ w
unfolding is_folder is_file node_at
undo w no_folder no_file =
    ap (λ paths. record w { paths = paths }) (without-put download Folder w.paths (nothing (at download w.paths) no_folder no_file))
