use Rattle.std.proofs.Common.{◌≡◌, ◌++◌, ◌∷◌, [], None, map, sym, ap, ◌∙◌, subst, arith}
use Rattle.std.specs.Map.{keys_of}
use Rattle.std.specs.List.{IsDistinct, All}
use Rattle.std.proofs.lemmas.List.Elements.{All-push}
use Rattle.report_text.specs.Reports.{IsReport}
use Rattle.relay_core.specs.ReportKeys.{same_key}
use Rattle.relay_core.specs.Indexes.{QueueState, shown_key, FindsState, all_keys, state_of}
use Rattle.relay_core.specs.Queues.{queue_of, shown_held}
use Rattle.relay_core.proofs.QueueLemmas.{finds_pushed, distinct_pushed}
use Rattle.relay_core.proofs.report_queue.ReportQueue.push.Goals as goal

pub invariant_of-self-2 : goal.invariant_of-self-2
invariant_of-self-2 c =
    let queue = c.self.inside.reports.items in
    let held = map shown_held c.self.inside.held.items in
    let pushed : c.push_reserved.new.self.items ≡ queue ++ c.args.report ∷ [] = c.push_reserved.ensures.items ∙ ap (λ l. l ++ c.args.report ∷ []) c.reserve-2.ensures.items in
    let grown : QueueState = record { queue = queue ++ c.args.report ∷ []; held = held } in
    let after : queue_of (record { reports = c.push_reserved.new.self; held = c.reserve.new.self; states = c.insert.new.self }) ≡ grown =
    λ i. record { queue = pushed i; held = map shown_held (c.reserve.ensures.items i) } in
    let new : FindsState (queue_of c.self.inside) (shown_key c.args.key) None = subst (λ (s : QueueState). FindsState s (shown_key c.args.key) None) (sym c.self.view_is) c.requires.apart in
    record {
      good = subst (All IsReport) (sym pushed) (All-push IsReport queue c.args.report c.self.invariant.good c.requires.good);
      few = rw c.reserve.ensures.items c.self.invariant.few;
      distinct = subst (λ (s : QueueState). IsDistinct same_key (keys_of (all_keys s))) (sym after)
          (distinct_pushed held queue c.args.report c.self.invariant.distinct (subst (λ key. FindsState (queue_of c.self.inside) key None) c.requires.key new));
      found = λ key. finds_pushed c.self.inside.states held queue c.args.key c.args.digest c.args.report c.insert.new.self c.self.invariant.found c.requires.key
          c.requires.digest new c.in_ok-insert.ensures.updates.0 key
          ∙ ap (λ (s : QueueState). state_of s (shown_key key)) (sym after);
      room = omega (arith, c.in_ok-reserve.ensures.ok, c.push_reserved.new.self.ok.0, c.reserve.new.self.ok.0, c.self.inside.held.ok.0, c.self.inside.reports.ok.0, c.reserve-2.new.self.ok.0);
    }
