use Rattle.std.proofs.Common.{◌≡◌, true, sym, ap, ◌∙◌}
use Rattle.desk_keep.specs.declared.change.Change.{Change}
use Rattle.desk_keep.specs.Tables.{is_result_of}
use Rattle.desk_sql.proofs.Telling.{none_yet, one_more}
use Rattle.desk_sql.proofs.listing.listed_results.Goals as goal

pub loop-row-init : goal.loop-row-init
loop-row-init c = none_yet (λ (row : Change). is_result_of c.args.computer.now row ≡ true) c.new-changes.result c.new-changes.ensures

pub loop-row-preserved : goal.loop-row-preserved
loop-row-preserved c =
    let told : c.is_result_of.result ≡ true = cc in
    let asked : is_result_of c.args.computer.now c.in_ok-change.change ≡ true =
    ap (λ name. is_result_of name c.in_ok-change.change) (sym c.as_str.ensures) ∙ sym c.is_result_of.ensures ∙ told in
    one_more (λ (row : Change). is_result_of c.args.computer.now row ≡ true) c.loop-row.changes c.push_next.new.changes c.in_ok-change.change c.in_ok-push_next.ensures.pushed c.in_ok-push_next.ensures.rows
    asked c.loop-row.invariant
