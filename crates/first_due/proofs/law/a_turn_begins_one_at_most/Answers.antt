use Rattle.std.proofs.Common.{inl, inr}
use Rattle.first_due.proofs.law.a_turn_begins_one_at_most.Goals as goal

pub returns : goal.returns
returns c at s s2 d d2 answer id sound turn (inl held) says = held (c.the_least_due_action_begins.ensures at s s2 d d2 answer id sound turn says).search.free
returns c at s s2 d d2 answer id sound turn (inr broken) says = broken (c.the_least_due_action_begins.ensures at s s2 d d2 answer id sound turn says).search.whole
