use Rattle.std.proofs.Common.{◌≡◌, true}
use Rattle.desk_keep.specs.declared.table.Table.TheVariants.{Sites}
use Rattle.desk_keep.specs.declared.change.Change.{Change}
use Rattle.desk_keep.specs.Tables.{is_of, without_text}
use Rattle.desk_sql.proofs.Telling.{none_yet, one_more}
use Rattle.desk_sql.proofs.listing.listed_versions.Goals as goal

pub loop-row-init : goal.loop-row-init
loop-row-init c = none_yet (λ (row : Change). (is_of Sites row ≡ true) × (without_text row ≡ row)) c.new-changes.result c.new-changes.ensures

pub loop-row-preserved : goal.loop-row-preserved
loop-row-preserved c =
    one_more (λ (row : Change). (is_of Sites row ≡ true) × (without_text row ≡ row)) c.loop-row.changes c.push_next.new.changes c.in_ok-change.change c.in_ok-push_next.ensures.pushed c.in_ok-push_next.ensures.rows
    (c.in_ok-change.ensures.site, c.in_ok-change.ensures.bare) c.loop-row.invariant
