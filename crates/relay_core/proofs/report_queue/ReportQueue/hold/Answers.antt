use Rattle.std.proofs.Common.{◌≡◌, ◌∷◌, ◌-◌, ◌≤◌, length, take, sym, ap, ◌∙◌, arith}
use Rattle.std.proofs.lemmas.List.{take_all, length-map}
use Rattle.relay_core.specs.ReportsUp.{without}
use Rattle.relay_core.specs.Indexes.{QueueState, shown_key}
use Rattle.relay_core.specs.Queues.{shown_held}
use Rattle.relay_core.proofs.report_queue.ReportQueue.hold.Goals as goal
use Rattle.relay_core.proofs.report_queue.ReportQueue.hold.Goals.{then-len-eq-MOST_HELD, else-len-eq-MOST_HELD}

pub returns : goal.returns
returns c =
    let count : length c.args.self.now.held ≡ length c.self.inside.held.items = ap (λ (s : QueueState). length s.held) (sym c.self.view_is) ∙ length-map c.self.inside.held.items shown_held in
    let told : QueueState → QueueState = λ s. record { queue = without (shown_key c.args.key) s.queue; held = (shown_key c.args.key, c.args.digest) ∷ s.held } in
    c.hold_one_more.ensures ∙ ap told (elim c.if-len-eq-MOST_HELD.branch as (λ _. c.if-len-eq-MOST_HELD.self ≡ record c.args.self.now { held = take 9999 c.args.self.now.held }) [
      | then-len-eq-MOST_HELD w ↦
          let full : length c.args.self.now.held - 1 ≡ 9999 = omega (arith, c.self.inside.held.ok.0) in
          w.self-is ∙ w.forget_oldest.ensures ∙ ap (λ n. record c.args.self.now { held = take n c.args.self.now.held }) full
      | else-len-eq-MOST_HELD w ↦
          let few : length c.args.self.now.held ≤ 9999 = omega (arith, c.self.inside.held.ok.0) in
          w.self-is ∙ ap (λ l. record c.args.self.now { held = l }) (sym (take_all 9999 c.args.self.now.held few))
    ])
