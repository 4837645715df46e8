use Rattle.std.proofs.Common.{◌≡◌, length, ap, arith}
use Rattle.agent_attempt.specs.Stages.{AttemptState}
use Rattle.agent_attempt.proofs.Firsts.{script_first, first_has_script}
use Rattle.agent_attempt.proofs.attempt.Attempt.script.Goals as goal

pub script-requires : goal.script-requires
script-requires c =
    first_has_script c.in-Some.part.now c.self.inside.left.items c.args.self.now.left (ap (λ (s : AttemptState). s.left) c.self.view_is) c.in-Some.ensures.lookup c.requires.some c.requires.script

pub returns : goal.returns
returns c = script_first c.in-Some.part.now c.self.inside.left.items c.args.self.now.left c.script.result (ap (λ (s : AttemptState). s.left) c.self.view_is) c.in-Some.ensures.lookup c.script.ensures

pub unreachable-requires : goal.unreachable-requires
unreachable-requires c =
    let count : length c.self.inside.left.items ≡ length c.args.self.now.left = ap (λ (s : AttemptState). length s.left) c.self.view_is in
    let isnt = c.in-None.ensures.variant.1 (omega (arith, c.requires.some, c.self.inside.left.ok.0)) in
    absurd (cc)
