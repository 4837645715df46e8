use Rattle.std.proofs.Common.{◌≡◌, ◌<◌, length, refl, ap, ◌∙◌, arith}
use Rattle.agent_attempt.specs.Stages.{AttemptState}
use Rattle.agent_attempt.specs.AttemptSteps.{first_component}
use Rattle.agent_attempt.proofs.Firsts.{first_position, no_position}
use Rattle.agent_attempt.proofs.attempt.Attempt.component.Goals as goal

pub returns-in-Some : goal.returns-in-Some
returns-in-Some c =
    let some : 0 < length c.self.inside.left.items = omega (arith, c.in-Some.ensures.variant.0 refl, c.self.inside.left.ok.0) in
    first_position c.in-Some.part.now c.self.inside.left.items some c.in-Some.ensures.lookup ∙ ap (λ (s : AttemptState). first_component s.left) c.self.view_is

pub returns-in-None : goal.returns-in-None
returns-in-None c = no_position c.args.self.now.left (λ some.
    let count : length c.self.inside.left.items ≡ length c.args.self.now.left = ap (λ (s : AttemptState). length s.left) c.self.view_is in
    let isnt = c.in-None.ensures.variant.1 (omega (arith, c.self.inside.left.ok.0)) in
    absurd (cc))
