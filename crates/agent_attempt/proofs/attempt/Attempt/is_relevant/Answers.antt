use Rattle.std.proofs.Common.{◌≡◌, ◌+◌, length, ap, ◌∙◌, arith}
use Rattle.agent_attempt.specs.Stages.{AttemptState}
use Rattle.agent_attempt.proofs.Firsts.{first_fixlet}
use Rattle.agent_attempt.proofs.attempt.Attempt.is_relevant.Goals as goal

pub returns-in-Some : goal.returns-in-Some
returns-in-Some g c = λ part left e.
    first_fixlet _ part c.in-Some.part.now left c.self.inside.left.items _ _ _ (ap (λ (s : AttemptState). s.left) c.self.view_is ∙ e) c.in-Some.ensures.lookup c.is_relevant.ensures

pub returns-in-None : goal.returns-in-None
returns-in-None g c = λ part left e.
    let count : length c.self.inside.left.items ≡ length left + 1 = ap (λ (s : AttemptState). length s.left) c.self.view_is ∙ ap length e ∙ omega arith in
    let isnt = c.in-None.ensures.variant.1 (omega (arith, c.self.inside.left.ok.0)) in
    absurd (cc)
