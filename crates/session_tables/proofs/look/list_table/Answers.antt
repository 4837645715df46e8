use Rattle.std.proofs.Common.{[], List, filter, map, refl}
use Rattle.bf_world.specs.declared.answer.Answer.TheVariants as answer
use Rattle.desk_keep.specs.declared.change.Change.{Change}
use Rattle.desk_keep.specs.Tables.{is_of}
use Rattle.session_tables.specs.Inside.{named_entry, with_names}
use Rattle.session_tables.proofs.Learning.{learned_of}
use Rattle.session_tables.proofs.look.list_table.Goals as goal

pub returns-clause-learns : goal.returns-clause-learns
returns-clause-learns g c =
    learned_of (filter (is_of c.args.table)) (λ rows. answer.Entries (map named_entry (with_names (filter (is_of c.args.table) rows) [])))
    (λ (l : List Change). answer.Entries (map named_entry (with_names l []))) (g.K.Keeper.told c.args.keeper.now) (g.K.Keeper.told c.rows_of.new.keeper)
    c.in_ok-rows.rows c.in_ok-row_entries.field-0 c.in_ok-rows.ensures c.in_ok-row_entries.ensures.entries (λ rows. refl)
