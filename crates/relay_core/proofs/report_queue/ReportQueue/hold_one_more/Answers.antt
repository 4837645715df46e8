use Rattle.std.proofs.Common.{◌≡◌, ℕ, ◌++◌, ◌∷◌, List, length, map, take, drop, suc, true, Some, None, sym, ap, ◌∙◌, subst, arith}
use Rattle.std.specs.Map.{keys_of}
use Rattle.std.specs.List.{IsDistinct, All, position}
use Rattle.std.specs.Option.{IsSome, is_some}
use Rattle.std.proofs.lemmas.List.{length-map}
use Rattle.std.proofs.lemmas.List.Elements.{All-filter}
use Rattle.std.proofs.lemmas.List.Quantifiers.{position-Some}
use Rattle.std.proofs.lemmas.Iterator.Adapters.{position_from-zero}
use Rattle.report_text.specs.declared.report.Report.{Report}
use Rattle.report_text.specs.Reports.{IsReport}
use Rattle.relay_core.specs.ReportKeys.{key_of, same_key, queued_digest}
use Rattle.relay_core.specs.ReportsUp.{without}
use Rattle.relay_core.specs.Indexes.{QueueState, shown_key, all_keys, state_of}
use Rattle.relay_core.specs.Queues.{queue_of, shown_held}
use Rattle.relay_core.proofs.QueueLemmas.{same_key_is, queued_state, not_placed, split_at, finds_held, distinct_held, without-held}
use Rattle.relay_core.proofs.report_queue.ReportQueue.hold_one_more.Goals as goal

pub unreachable-requires : goal.unreachable-requires
unreachable-requires c =
    let key = shown_key c.args.key in
    let none : queued_digest c.as_slice.result.now key ≡ None =
    not_placed key c.as_slice.result.now 0 (sym (position_from-zero (λ report. same_key key (key_of report)) c.as_slice.result.now) ∙ sym c.in_default.ensures) in
    let some : IsSome (queued_digest c.self.inside.reports.items key) = subst (λ (s : QueueState). IsSome (queued_digest s.queue key)) (sym c.self.view_is) c.requires.queued in
    let absent : is_some {T = List ℕ} None ≡ true = subst IsSome (ap (λ l. queued_digest l key) (sym c.as_slice.ensures.value) ∙ none) some in
    cc

pub write_state-requires : goal.write_state-requires
write_state-requires c =
    subst IsSome (sym (c.self.invariant.found c.args.key))
    (queued_state (queue_of c.self.inside) (shown_key c.args.key) (subst (λ (s : QueueState). IsSome (queued_digest s.queue (shown_key c.args.key))) (sym c.self.view_is) c.requires.queued))

pub invariant_of-self : goal.invariant_of-self
invariant_of-self c =
    let key = shown_key c.args.key in
    let queue = c.self.inside.reports.items in
    let held = map shown_held c.self.inside.held.items in
    let i = c.in-Some.place in
    let report : Report = c.remove.result in
    let placed : position (λ report. same_key key (key_of report)) queue ≡ Some i =
    ap (position (λ report. same_key key (key_of report))) (sym c.as_slice.ensures.value) ∙ sym c.in-Some.ensures in
    let there = position-Some (λ report. same_key key (key_of report)) queue i report placed in
    let is : key ≡ key_of report = same_key_is key (key_of report) (subst (λ x. same_key key (key_of x) ≡ true) (sym c.remove.ensures.value) there.1) in
    let split : queue ≡ take i queue ++ report ∷ drop (suc i) queue = split_at queue i report there.0 c.remove.ensures.value in
    let before : QueueState = record { queue = take i queue ++ report ∷ drop (suc i) queue; held = held } in
    let was : queue_of c.self.inside ≡ before = λ j. record { queue = split j; held = held } in
    let distinct : IsDistinct same_key (keys_of (all_keys before)) = subst (λ (s : QueueState). IsDistinct same_key (keys_of (all_keys s))) was c.self.invariant.distinct in
    let left : QueueState = record { queue = take i queue ++ drop (suc i) queue; held = (key, c.args.digest) ∷ held } in
    let after : queue_of (record { reports = c.remove.new.self; held = c.push_front_reserved.new.self; states = c.write_state.new.states }) ≡ left =
    λ j. record { queue = c.remove.ensures.items j; held = map shown_held (c.push_front_reserved.ensures.items j) } in
    let kept : without key queue ≡ c.remove.new.self.items =
    ap (without key) split ∙ without-held held key (take i queue) report (drop (suc i) queue) distinct is ∙ sym c.remove.ensures.items in
    let counted : length c.args.self.now.held ≡ length c.self.inside.held.items = ap (λ (s : QueueState). length s.held) (sym c.self.view_is) ∙ length-map c.self.inside.held.items shown_held in
    record {
      good = subst (All IsReport) kept (All-filter _ IsReport queue c.self.invariant.good);
      few = rw c.push_front_reserved.ensures.items (omega (arith, counted));
      distinct = subst (λ (s : QueueState). IsDistinct same_key (keys_of (all_keys s))) (sym after)
          (distinct_held held key c.args.digest (take i queue) report (drop (suc i) queue) distinct is);
      found = λ other. finds_held c.self.inside.states held c.args.key c.args.digest (take i queue) report (drop (suc i) queue) c.write_state.new.states
          (λ k. c.self.invariant.found k ∙ ap (λ (s : QueueState). state_of s (shown_key k)) was) distinct is c.write_state.ensures other
          ∙ ap (λ (s : QueueState). state_of s (shown_key other)) (sym after);
      room = omega arith;
    }

pub returns : goal.returns
returns c =
    let key = shown_key c.args.key in
    let queue = c.self.inside.reports.items in
    let held = map shown_held c.self.inside.held.items in
    let i = c.in-Some.place in
    let report : Report = c.remove.result in
    let placed : position (λ report. same_key key (key_of report)) queue ≡ Some i =
    ap (position (λ report. same_key key (key_of report))) (sym c.as_slice.ensures.value) ∙ sym c.in-Some.ensures in
    let there = position-Some (λ report. same_key key (key_of report)) queue i report placed in
    let is : key ≡ key_of report = same_key_is key (key_of report) (subst (λ x. same_key key (key_of x) ≡ true) (sym c.remove.ensures.value) there.1) in
    let split : queue ≡ take i queue ++ report ∷ drop (suc i) queue = split_at queue i report there.0 c.remove.ensures.value in
    let was : queue_of c.self.inside ≡ record { queue = take i queue ++ report ∷ drop (suc i) queue; held = held } = λ j. record { queue = split j; held = held } in
    let distinct = subst (λ (s : QueueState). IsDistinct same_key (keys_of (all_keys s))) was c.self.invariant.distinct in
    let kept : without key queue ≡ c.remove.new.self.items =
    ap (without key) split ∙ without-held held key (take i queue) report (drop (suc i) queue) distinct is ∙ sym c.remove.ensures.items in
    (λ j. record { queue = sym kept j; held = map shown_held (c.push_front_reserved.ensures.items j) })
    ∙ ap (λ (s : QueueState). record { queue = without key s.queue; held = (key, c.args.digest) ∷ s.held }) c.self.view_is
