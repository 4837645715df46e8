use Rattle.std.proofs.Common.{◌≡◌, length, arith, true, sym, ap, ◌∙◌, subst, if◌then◌else◌}
use Rattle.std.specs.Option.{is_some}
use Rattle.relay_core.specs.ReportKeys.{ReportKey, queued_digest}
use Rattle.relay_core.specs.Relays.{RelayState}
use Rattle.relay_core.specs.ReportsUp.{is_queued, without, with_held}
use Rattle.relay_core.specs.Indexes.{QueueState, shown_key}
use Rattle.relay_core.proofs.QueueLemmas.{length-without}
use Rattle.relay_core.proofs.relay.Relay.sent.Goals as goal

pub invariant_of-self : goal.invariant_of-self
invariant_of-self c =
    let queue = c.self.inside.reports.queue in
    let left : length c.hold.new.self.queue ≡ length (without (shown_key c.in-Some.key) queue) = ap (λ (s : QueueState). length s.queue) c.hold.ensures in
    omega (arith, length-without (shown_key c.in-Some.key) queue, c.self.invariant)

pub returns-clause-after : goal.returns-clause-after
returns-clause-after c =
    let key : ReportKey = record { computer = c.args.computer.now; seq = c.args.seq } in
    let is : shown_key c.in-Some.key ≡ key = c.in-Some.ensures.0 ∙ (λ i. record { computer = c.as_str.ensures i; seq = c.args.seq }) in
    let told : RelayState → RelayState = λ s. record s { queue = without key s.queue; held = with_held key c.args.held.now s.held } in
    let made : QueueState → RelayState = λ s. record { limit = c.self.inside.limit; queue = s.queue; held = s.held; sites = c.self.inside.sites } in
    let queued : is_queued c.args.self.now key ≡ true =
    subst (λ (s : RelayState). is_some (queued_digest s.queue key) ≡ true) c.self.view_is
    (subst (λ k. is_some (queued_digest c.self.inside.reports.queue k) ≡ true) is c.in-Some.ensures.1) in
    ap made (c.hold.ensures ∙ ap (λ k. record { queue = without k c.self.inside.reports.queue; held = with_held k c.args.held.now c.self.inside.reports.held }) is)
    ∙ ap told c.self.view_is
    ∙ sym (ap (λ b. if b then told c.args.self.now else c.args.self.now) queued)
