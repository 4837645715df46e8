use Rattle.std.proofs.Common.{◌≡◌, ◌∙◌, Some, ap, codes, sym}
use Rattle.bf_world.specs.declared.parts.Node.TheVariants.{Folder}
use Rattle.bf_world.specs.Paths.{root}
use Rattle.bf_world.specs.Places.{node_at}
use Rattle.session_tables.specs.Paths.{path_of}
use Rattle.session_tables.specs.Worlds.{tables_world}
use Rattle.session_tables.proofs.Learning.{known, node_learned}
use Rattle.session_tables.proofs.Showing.{at_actions, at_computers, at_nothing, at_root, at_sites}
use Rattle.session_tables.proofs.look.node_at.Goals as goal

pub returns-in-Root-clause-learns : goal.returns-in-Root-clause-learns
returns-in-Root-clause-learns g c =
    let at : c.args.path.now ≡ root = rw c.in-Root.is at c.in_ok-spot_of.ensures in
    known (λ rows. node_at (tables_world rows) c.args.path.now) (g.K.Keeper.told c.args.keeper.now) (Some Folder)
    (λ rows. at_root rows ∙ ap (node_at (tables_world rows)) (sym at))

pub returns-in-Actions-clause-learns : goal.returns-in-Actions-clause-learns
returns-in-Actions-clause-learns g c =
    let at : c.args.path.now ≡ codes "/actions" = rw c.in-Actions.is at c.in_ok-spot_of.ensures in
    known (λ rows. node_at (tables_world rows) c.args.path.now) (g.K.Keeper.told c.args.keeper.now) (Some Folder)
    (λ rows. at_actions rows ∙ ap (node_at (tables_world rows)) (sym at))

pub returns-in-Computers-clause-learns : goal.returns-in-Computers-clause-learns
returns-in-Computers-clause-learns g c =
    let at : c.args.path.now ≡ codes "/computers" = rw c.in-Computers.is at c.in_ok-spot_of.ensures in
    known (λ rows. node_at (tables_world rows) c.args.path.now) (g.K.Keeper.told c.args.keeper.now) (Some Folder)
    (λ rows. at_computers rows ∙ ap (node_at (tables_world rows)) (sym at))

pub returns-in-Sites-clause-learns : goal.returns-in-Sites-clause-learns
returns-in-Sites-clause-learns g c =
    let at : c.args.path.now ≡ codes "/sites" = rw c.in-Sites.is at c.in_ok-spot_of.ensures in
    known (λ rows. node_at (tables_world rows) c.args.path.now) (g.K.Keeper.told c.args.keeper.now) (Some Folder)
    (λ rows. at_sites rows ∙ ap (node_at (tables_world rows)) (sym at))

pub row_node-requires : goal.row_node-requires
row_node-requires g c = let is = rw c.in-Row.is at c.in_ok-spot_of.ensures in is.0

pub returns-in-Row-clause-learns : goal.returns-in-Row-clause-learns
returns-in-Row-clause-learns g c =
    let is = rw c.in-Row.is at c.in_ok-spot_of.ensures in
    node_learned (g.K.Keeper.told c.args.keeper.now) c.row_node.result (g.K.Keeper.told c.row_node.new.keeper) (path_of c.in-Row.find) c.args.path.now
    (sym is.1) c.row_node.ensures.learns

pub returns-in-Nowhere-clause-learns : goal.returns-in-Nowhere-clause-learns
returns-in-Nowhere-clause-learns g c =
    known (λ rows. node_at (tables_world rows) c.args.path.now) (g.K.Keeper.told c.args.keeper.now) _
    (at_nothing c.args.path.now (rw c.in-Nowhere.is at c.in_ok-spot_of.ensures))
