use Rattle.std.proofs.Common.{◌≡◌, true}
use Rattle.desk_keep.specs.declared.change.Change.{Change}
use Rattle.desk_keep.specs.Tables.{is_of}
use Rattle.desk_sql.proofs.Telling.{none_yet, one_more}
use Rattle.desk_sql.proofs.listing.listed.Goals as goal

pub loop-row-init : goal.loop-row-init
loop-row-init c = none_yet (λ (row : Change). is_of c.args.table row ≡ true) c.new-changes.result c.new-changes.ensures

pub loop-row-preserved : goal.loop-row-preserved
loop-row-preserved c =
    one_more (λ (row : Change). is_of c.args.table row ≡ true) c.loop-row.changes c.push_next.new.changes c.in_ok-change.change c.in_ok-push_next.ensures.pushed c.in_ok-push_next.ensures.rows
    c.in_ok-change.ensures c.loop-row.invariant
