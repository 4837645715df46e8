use Rattle.std.proofs.Common.{refl, subst, arith}
use Rattle.agent_attempt.specs.declared.found.Found.{Found}
use Rattle.agent_attempt.specs.Relevance.{FixletIs}
use Rattle.agent_attempt.specs.Attempts.{coming}
use Rattle.agent_attempt.specs.Stages.{shown_attempt}
use Rattle.agent_attempt.proofs.Asked.{relevant_has_script}
use Rattle.agent_attempt.proofs.Firsts.{has_script_first}
use Rattle.agent_attempt.proofs.Stepping.{first_of, leaves_more}
use Rattle.agent_attempt.proofs.Stages.{come_steps}
use Rattle.agent_attempt.proofs.attempt.Attempt.come.Goals as goal

pub after_coming-requires-clause-script : goal.after_coming-requires-clause-script
after_coming-requires-clause-script g c relevant =
    let s = c.args.self.now in
    let at = c.args.time.now in
    let p = first_of s.left c.requires.some in
    has_script_first p.0 p.1 s.left s.left refl p.2 (relevant_has_script at p.0.fixlet _ _ (subst (λ (f : Found). FixletIs at p.0.fixlet (g.M.Machine.told c.args.machine.now) f (g.M.Machine.told c.is_relevant-found.new.machine)) relevant (c.is_relevant-found.ensures p.0 p.1 p.2)))

pub returns : goal.returns
returns g c =
    let s = c.args.self.now in
    let at = c.args.time.now in
    let p = first_of s.left c.requires.some in
    let result = c.after_coming.result in
    let new = shown_attempt c.after_coming.new.self in
    record {
      steps = come_steps at s p.0 p.1 _ _ c.is_relevant-found.result result new c.requires.stage p.2 (c.is_relevant-found.ensures p.0 p.1 p.2) (c.after_coming.ensures.steps at _ p.0 p.1 p.2);
      waits = c.after_coming.ensures.waits _;
      leaves = leaves_more coming (shown_attempt s) _ _ result new (omega arith) c.after_coming.ensures.leaves;
    }
