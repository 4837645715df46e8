use Rattle.std.proofs.Common.{◌≡◌, ◌∙◌, [], ap, codes, filter, map, sym}
use Rattle.bf_world.specs.declared.answer.Answer.TheVariants as answer
use Rattle.bf_world.specs.declared.key.Key.TheVariants as key
use Rattle.bf_world.specs.Paths.{root}
use Rattle.bf_world.specs.Shown.{shown}
use Rattle.desk_keep.specs.declared.table.Table.TheVariants as table
use Rattle.desk_keep.specs.Tables.{is_of, without_text}
use Rattle.session_tables.specs.Inside.{named_entry, with_names}
use Rattle.session_tables.specs.Paths.{path_of}
use Rattle.session_tables.specs.Worlds.{tables_world}
use Rattle.session_tables.proofs.Learning.{known, learned_as, shown_at}
use Rattle.session_tables.proofs.Showing.{list_actions, list_computers, list_nowhere, list_root, list_sites}
use Rattle.session_tables.proofs.look.list.Goals as goal

pub returns-in_ok-root_entries-in-Root-clause-learns : goal.returns-in_ok-root_entries-in-Root-clause-learns
returns-in_ok-root_entries-in-Root-clause-learns g c =
    let at : c.args.path.now ≡ root = rw c.in-Root.is at c.in_ok-spot_of.ensures in
    known (λ rows. shown (tables_world rows) (key.List c.args.path.now)) (g.K.Keeper.told c.args.keeper.now) c.in_ok-root_entries-in-Root.field-0
    (λ rows. c.in_ok-root_entries-in-Root.ensures.entries ∙ list_root rows ∙ ap (λ p. shown (tables_world rows) (key.List p)) (sym at))

pub returns-in-Actions-clause-learns : goal.returns-in-Actions-clause-learns
returns-in-Actions-clause-learns g c =
    let at : c.args.path.now ≡ codes "/actions" = rw c.in-Actions.is at c.in_ok-spot_of.ensures in
    learned_as (λ rows. answer.Entries (map named_entry (with_names (filter (is_of table.Actions) rows) [])))
    (λ rows. shown (tables_world rows) (key.List c.args.path.now)) (g.K.Keeper.told c.args.keeper.now) c.list_table.result
    (g.K.Keeper.told c.list_table.new.keeper) c.list_table.ensures.learns
    (λ rows. list_actions rows ∙ ap (λ p. shown (tables_world rows) (key.List p)) (sym at))

pub returns-in-Computers-clause-learns : goal.returns-in-Computers-clause-learns
returns-in-Computers-clause-learns g c =
    let at : c.args.path.now ≡ codes "/computers" = rw c.in-Computers.is at c.in_ok-spot_of.ensures in
    learned_as (λ rows. answer.Entries (map named_entry (with_names (filter (is_of table.Computers) rows) [])))
    (λ rows. shown (tables_world rows) (key.List c.args.path.now)) (g.K.Keeper.told c.args.keeper.now) c.list_table-in-Computers.result
    (g.K.Keeper.told c.list_table-in-Computers.new.keeper) c.list_table-in-Computers.ensures.learns
    (λ rows. list_computers rows ∙ ap (λ p. shown (tables_world rows) (key.List p)) (sym at))

pub returns-in-Sites-clause-learns : goal.returns-in-Sites-clause-learns
returns-in-Sites-clause-learns g c =
    let at : c.args.path.now ≡ codes "/sites" = rw c.in-Sites.is at c.in_ok-spot_of.ensures in
    learned_as (λ rows. answer.Entries (map named_entry (with_names (map without_text (filter (is_of table.Sites) rows)) [])))
    (λ rows. shown (tables_world rows) (key.List c.args.path.now)) (g.K.Keeper.told c.args.keeper.now) c.list_sites.result
    (g.K.Keeper.told c.list_sites.new.keeper) c.list_sites.ensures.learns
    (λ rows. list_sites rows ∙ ap (λ p. shown (tables_world rows) (key.List p)) (sym at))

pub list_row-requires : goal.list_row-requires
list_row-requires g c = let is = rw c.in-Row.is at c.in_ok-spot_of.ensures in is.0

pub returns-in-Row-clause-learns : goal.returns-in-Row-clause-learns
returns-in-Row-clause-learns g c =
    let is = rw c.in-Row.is at c.in_ok-spot_of.ensures in
    shown_at (g.K.Keeper.told c.args.keeper.now) c.list_row.result (g.K.Keeper.told c.list_row.new.keeper) (key.List (path_of c.in-Row.find))
    (key.List c.args.path.now) (ap key.List (sym is.1)) c.list_row.ensures.learns

pub returns-in-Nowhere-clause-learns : goal.returns-in-Nowhere-clause-learns
returns-in-Nowhere-clause-learns g c =
    known (λ rows. shown (tables_world rows) (key.List c.args.path.now)) (g.K.Keeper.told c.args.keeper.now) answer.Nothing
    (list_nowhere c.args.path.now (rw c.in-Nowhere.is at c.in_ok-spot_of.ensures))
