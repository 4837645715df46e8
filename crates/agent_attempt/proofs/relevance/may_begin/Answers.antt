use Rattle.std.proofs.Common.{rules}
use Rattle.agent_attempt.proofs.relevance.may_begin.Goals as goal

pub returns : goal.returns
returns c =
    let owed = c.owed.ensures c.args.rows.now c.requires.rows (search rules) (search rules) in
    (λ is. record { few = search rules; open_ = search rules; window = search rules; owed = search rules }, λ may. search rules)
