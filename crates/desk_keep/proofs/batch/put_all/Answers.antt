use Rattle.std.proofs.Common.{◌≡◌, ◌<◌, length, get_or, sym, ap, ◌∙◌, subst, arith, All, IfSome}
use Rattle.std.proofs.lemmas.List.Elements.{All-push}
use Rattle.desk_keep.specs.Forms.{Fits}
use Rattle.desk_keep.specs.Inside.{WerePut}
use Rattle.desk_keep.proofs.Undoing.{steps_on}
use Rattle.desk_keep.proofs.batch.put_all.Goals as goal

pub loop-row-preserved : goal.loop-row-preserved
loop-row-preserved c =
    let batch = c.args.batch.now in
    let before = c.loop-row.before.items in
    let row = c.row-item.result in
    let pushed = c.push_reserved.ensures.items in
    let count : length before ≡ c.loop-row.row-index = omega (arith, c.loop-row.before.ok.0, c.loop-row.invariant.count) in
    let inside : length before < length batch = omega (arith, count, c.loop-row-test.true, c.loop-row.auto.row-index-end) in
    let is : row ≡ get_or batch (length before) row = c.row-item.is ∙ ap (λ n. get_or batch n row) (sym count) in
    record {
      count = omega (arith, c.push_reserved.ensures.len, c.loop-row.invariant.count);
      room = omega (arith, c.push_reserved.ensures.capacity, c.loop-row.invariant.room);
      fits = subst (All (λ stood. IfSome stood Fits)) (sym pushed) (All-push (λ stood. IfSome stood Fits) before c.in-Ok.stood c.loop-row.invariant.fits c.in-Ok.ensures.fits);
      put = subst (λ l. WerePut batch l c.args.rows.now c.put_copy.new.rows) (sym pushed)
          (steps_on batch before c.in-Ok.stood row c.args.rows.now c.loop-row.rows c.put_copy.new.rows inside is c.in-Ok.ensures.before c.in-Ok.ensures.ok c.loop-row.invariant.put);
    }
