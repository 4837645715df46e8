use Rattle.std.proofs.Common.{◌≡◌, ℕ, List, SFits, w64, rules, ◌<◌, ◌≤◌, length, sym, ap, ◌∙◌, arith}
use Rattle.std.proofs.lemmas.Int.{to_z-of_z}
use Rattle.std.proofs.lemmas.List.{drop_all}
use Rattle.bf_world.specs.Maps.{put}
use Rattle.group_sample.specs.Due.{with_rows}
use Rattle.group_sample.proofs.MeasureLemmas.{row_next}
use Rattle.group_sample.proofs.moments.with_rows.Goals as goal

pub loop-row-init : goal.loop-row-init
loop-row-init c = ap (with_rows c.args.rows.now) c.in_ok-after.ensures

pub loop-row-preserved : goal.loop-row-preserved
loop-row-preserved c =
    let within : c.loop-row.row-index < length c.args.rows.now = search (arith, c.loop-row-test.true) in
    let fits : SFits w64 c.row-item.result.moment = search rules in
    let putting : c.put.new.self ≡ put c.as_str.result.now c.row-item.result.moment c.loop-row.after = simp to_z-of_z at c.in_ok-put.ensures.ok in
    row_next c.args.rows.now c.loop-row.row-index c.row-item.result c.loop-row.after c.put.new.self c.args.moments.now within c.row-item.is
    (putting ∙ ap (λ (k : List ℕ). put k c.row-item.result.moment c.loop-row.after) c.as_str.ensures) c.loop-row.invariant

pub returns : goal.returns
returns c =
    let past : length c.args.rows.now ≤ c.loop-row.row-index = search (arith, c.loop-row-test.false) in
    ap (λ l. with_rows l c.loop-row.after) (sym (drop_all c.loop-row.row-index c.args.rows.now past)) ∙ c.loop-row.invariant
