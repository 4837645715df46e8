use Rattle.std.proofs.Common.{◌≡◌, ◌+◌, ◌++◌, ◌∷◌, [], length, map, ap, ◌∙◌, subst, arith, length-append}
use Rattle.std.specs.Map.{keys_of}
use Rattle.std.specs.List.{IsDistinct}
use Rattle.std.proofs.lemmas.List.{map_push}
use Rattle.relay_core.specs.ReportKeys.{same_key}
use Rattle.relay_core.specs.Indexes.{QueueState, shown_key, all_keys, state_of}
use Rattle.relay_core.specs.Queues.{queue_of, shown_held}
use Rattle.relay_core.proofs.QueueLemmas.{finds_forgotten, distinct_forgotten}
use Rattle.relay_core.proofs.report_queue.ReportQueue.forget_oldest.Goals as goal

pub invariant_of-self : goal.invariant_of-self
invariant_of-self c =
    let queue = c.self.inside.reports.items in
    let oldest = c.in-Some.oldest in
    let left = map shown_held c.pop_back.new.self.items in
    let before : QueueState = record { queue = queue; held = left ++ shown_held oldest ∷ [] } in
    let was : queue_of c.self.inside ≡ before =
    λ i. record { queue = queue; held = (ap (map shown_held) c.in-Some.ensures.items ∙ map_push shown_held c.pop_back.new.self.items oldest) i } in
    let distinct : IsDistinct same_key (keys_of (all_keys before)) = subst (λ (s : QueueState). IsDistinct same_key (keys_of (all_keys s))) was c.self.invariant.distinct in
    let count : length c.self.inside.held.items ≡ length c.pop_back.new.self.items + 1 = ap length c.in-Some.ensures.items ∙ length-append c.pop_back.new.self.items (oldest ∷ []) in
    record {
      good = c.self.invariant.good;
      few = omega arith;
      distinct = distinct_forgotten left (shown_key oldest.key) oldest.digest queue distinct;
      found = finds_forgotten c.self.inside.states left oldest.key oldest.digest queue c.remove.new.self
          (λ key. c.self.invariant.found key ∙ ap (λ (s : QueueState). state_of s (shown_key key)) was) distinct c.remove.ensures.updates.0;
      room = omega (arith, c.in-Some.ensures.capacity);
    }
