use Rattle.std.proofs.Common.{inl, inr}
use Rattle.act_rules.proofs.Counting.{adds_new, adds_longer}
use Rattle.act_rules.proofs.tally.Tally.add.Goals as goal
use Rattle.act_rules.proofs.tally.Tally.add.Goals.{then-self-eq0-via-then-self-eq0, then-self-eq0-via-else-self-eq0+then-self}

pub returns-then-self-eq0 : goal.returns-then-self-eq0
returns-then-self-eq0 c = λ row moment e.
    adds_new c.args.self.now _ _ row moment c.args.outcome c.saturating_add-self.ensures c.closes-self.ensures
    (elim c.then-self-eq0.branch [ then-self-eq0-via-then-self-eq0 w ↦ inl w.if-self-eq0.true | then-self-eq0-via-else-self-eq0+then-self w ↦ inr w.if-self.true ])
    e

pub returns : goal.returns
returns c = λ row moment e.
    adds_longer c.args.self.now _ _ row moment c.args.outcome c.saturating_add-self-2.ensures c.closes-self-2.ensures c.if-self-eq0.false c.if-self.false e
