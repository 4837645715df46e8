use Rattle.std.proofs.Common.{sym, ap, ◌∙◌, subst}
use Rattle.std.specs.Map.{keys_of}
use Rattle.std.specs.List.{IsDistinct}
use Rattle.relay_core.specs.ReportKeys.{same_key}
use Rattle.relay_core.specs.Indexes.{QueueState, shown_key, FindsState, all_keys, state_of}
use Rattle.relay_core.proofs.QueueLemmas.{finds_state}
use Rattle.relay_core.proofs.report_queue.ReportQueue.state.Goals as goal

pub returns : goal.returns
returns c =
    let key = shown_key c.args.key.now in
    let now : QueueState = c.args.self.now in
    let distinct : IsDistinct same_key (keys_of (all_keys now)) = subst (λ (s : QueueState). IsDistinct same_key (keys_of (all_keys s))) c.self.view_is c.self.invariant.distinct in
    subst (FindsState now key) (sym (c.copied.ensures ∙ c.get.ensures.value ∙ c.self.invariant.found c.args.key.now ∙ ap (λ (s : QueueState). state_of s key) c.self.view_is))
    (finds_state now key distinct)
