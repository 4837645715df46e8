use Rattle.std.proofs.Common.{◌∙◌, ap, sym}
use Rattle.bf_world.specs.Done.{download}
use Rattle.bf_world.specs.Places.{without_node}
use Rattle.bf_world.proofs.FreeLemmas.{download-path}
use Rattle.bf_world.proofs.PlaceLemmas.{undo}
use Rattle.bf_world.proofs.world.World.place.Goals as goal

pub returns-clause-err : goal.returns-clause-err
returns-clause-err c =
    c.remove_node.ensures ∙ ap (without_node download) (c.in-Err.ensures.err ∙ c.in_ok-set_node.ensures.ok)
    ∙ undo c.args.self.now (sym c.is_folder.ensures ∙ c.if-is_folder.false) c.requires.no_file

pub set_node-requires-clause-path : goal.set_node-requires-clause-path
set_node-requires-clause-path c = download-path c.a_path_is_its_parts.ensures.parts c.a_path_is_its_parts.ensures.rootless
