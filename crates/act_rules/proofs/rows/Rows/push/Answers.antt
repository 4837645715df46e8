use Rattle.std.proofs.Common.{ap, arith}
use Rattle.act_rules.specs.Rows.{RowsState}
use Rattle.act_rules.proofs.RowLemmas.{rows_snoc}
use Rattle.act_rules.proofs.rows.Rows.push.Goals as goal

pub invariant_of-self-2 : goal.invariant_of-self-2
invariant_of-self-2 c =
    let same = ap (λ (s : RowsState). s.rows) c.self.view_is in
    rw c.in_ok-push.ensures.items (rows_snoc _ c.args.row c.self.invariant (omega arith) (rw same c.requires.ended) (rw same c.requires.number) c.requires.moments)
