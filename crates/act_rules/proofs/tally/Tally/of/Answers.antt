use Rattle.std.proofs.Common.{sym, arith, ◌+◌, ◌<◌, ◌^◌, ◌≤◌, length, take, subst, List}
use Rattle.act_rules.specs.declared.row.Row.{Row}
use Rattle.act_rules.specs.Tallies.{Counts, ended_rows}
use Rattle.act_rules.proofs.Counting.{ended_more, ended_less}
use Rattle.act_rules.proofs.tally.Tally.of.Goals as goal

pub loop-row-preserved : goal.loop-row-preserved
loop-row-preserved c =
    let rows : List Row = c.as_slice-row-items.result.now in
    let i = c.loop-row.row-index in
    let h : i < length rows = search (arith, c.loop-row-test.true) in
    let short : length (ended_rows (take i rows)) ≤ i = ended_less rows i h in
    let room : length (ended_rows (take i rows)) + 1 < 2 ^ 32 = omega (arith, short, h, c.loop-row.invariant.few) in
    let P : List Row → Type 0 = λ x. Counts c.count.new.self c.args.retries x in
    record {
      few = c.loop-row.invariant.few;
      items = c.loop-row.invariant.items;
      counts = subst P (sym (ended_more rows i _ h)) (c.count.ensures c.args.retries _ room c.loop-row.invariant.counts);
    }
