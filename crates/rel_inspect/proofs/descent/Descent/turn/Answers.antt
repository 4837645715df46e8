use Rattle.std.proofs.Common.{◌≤◌, length, refl, ◌∙◌, arith}
use Rattle.std.proofs.lemmas.Grind.{common_steps}
use Rattle.rel_inspect.proofs.Falling.{goes-up}
use Rattle.rel_inspect.proofs.descent.Descent.turn.Goals as goal

pub loop-self-preserved : goal.loop-self-preserved
loop-self-preserved c =
    let done : length c.loop-self.self.top.entries ≤ c.loop-self.self.top.next = grind (arith, common_steps) in
    record {
      turn = c.loop-self.invariant.turn;
      same = λ w.
          c.loop-self.invariant.same w
          ∙ goes-up w c.loop-self.self (record { ahead = c.loop-self.self.ahead; top = c.in-Some.level; above = c.pop.new.self }) c.pop.new.self.items c.in-Some.level c.loop-self.invariant.turn done c.in-Some.ensures.items c.loop-self.invariant.turn refl refl;
    }
