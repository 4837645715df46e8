use Rattle.std.proofs.Common.{◌∙◌, None, Some, ap, option_map, sym}
use Rattle.bf_world.specs.Places.{node_at}
use Rattle.desk_keep.specs.Keys.{asked_key}
use Rattle.desk_keep.specs.Tables.{row_at}
use Rattle.session_tables.specs.Paths.{node_of, path_of}
use Rattle.session_tables.specs.Worlds.{tables_world}
use Rattle.session_tables.proofs.Learning.{learned_of}
use Rattle.session_tables.proofs.Showing.{at_row}
use Rattle.session_tables.proofs.look.row_node.Goals as goal

pub returns-in_default-clause-learns : goal.returns-in_default-clause-learns
returns-in_default-clause-learns g c =
    learned_of (row_at (asked_key c.args.find.now)) (λ rows. node_at (tables_world rows) (path_of c.args.find.now)) (option_map node_of)
    (g.K.Keeper.told c.args.keeper.now) (g.K.Keeper.told c.row_of.new.keeper) _ None c.in_ok-row.ensures
    (sym (ap (option_map node_of) c.in_default.is)) (at_row c.args.find.now c.requires)

pub returns-clause-learns : goal.returns-clause-learns
returns-clause-learns g c =
    learned_of (row_at (asked_key c.args.find.now)) (λ rows. node_at (tables_world rows) (path_of c.args.find.now)) (option_map node_of)
    (g.K.Keeper.told c.args.keeper.now) (g.K.Keeper.told c.row_of.new.keeper) _ (Some c.in_ok-node_of.field-0) c.in_ok-row.ensures
    (ap Some c.in_ok-node_of.ensures.is ∙ ap (option_map node_of) (sym c.in-Some.is)) (at_row c.args.find.now c.requires)
