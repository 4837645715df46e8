use Rattle.std.proofs.Common.{Some, refl, ap, ◌∙◌, arith}
use Rattle.agent_attempt.specs.declared.found.Found.TheVariants.{Yes, No, Failed, Memory}
use Rattle.agent_attempt.specs.declared.went.Went.TheVariants as went
use Rattle.agent_attempt.specs.declared.attempt.Stage.TheVariants as stage
use Rattle.agent_attempt.specs.Attempts.{judging}
use Rattle.agent_attempt.specs.Stages.{AttemptState, shown_attempt}
use Rattle.agent_attempt.proofs.Stepping.{first_of, fail_from, held_so, leaves_more, leaves_next, leaves_there, waits_coming}
use Rattle.agent_attempt.proofs.Stages.{judge_steps, judge_passes, passed_is}
use Rattle.agent_attempt.proofs.attempt.Attempt.judge.Goals as goal

pub next-requires : goal.next-requires
next-requires g c = ap (λ (x : AttemptState). x.stage) c.self.view_is ∙ c.requires.stage

pub returns-in-Yes : goal.returns-in-Yes
returns-in-Yes g c =
    let s = c.args.self.now in
    let exit = c.args.exit in
    let p = first_of s.left c.requires.some in
    let is = passed_is s _ c.next.new.self p.0 p.1 exit c.self.view_is p.2 c.next.ensures.next in
    record {
      steps = judge_steps c.args.time.now s p.0 p.1 exit _ _ _ Yes c.next.result (shown_attempt c.next.new.self) p.2 (c.in-Yes.ensures p.0 p.1 p.2)
          (judge_passes c.args.time.now s c.next.new.self p.0 p.1 exit _ c.next.result c.next.ensures.none is);
      waits = waits_coming _ c.next.new.self.stage (ap (λ (x : AttemptState). x.stage) is);
      leaves = leaves_next (judging exit) s c.next.new.self p.0 p.1 _ _ c.next.result c.next.ensures.none p.2 is (omega arith);
    }

pub returns-in-No : goal.returns-in-No
returns-in-No g c =
    let s = c.args.self.now in
    let exit = c.args.exit in
    let p = first_of s.left c.requires.some in
    let new = shown_attempt c.fail.new.self in
    record {
      steps = judge_steps c.args.time.now s p.0 p.1 exit _ _ _ No c.fail.result new p.2 (c.in-No.ensures p.0 p.1 p.2)
          (fail_from c.args.time.now (judging exit) (shown_attempt s) p.0 p.1 0 _ exit _ c.fail.result new (c.fail.ensures.steps c.args.time.now _ p.0 p.1 p.2));
      waits = waits_coming _ c.fail.new.self.stage c.fail.ensures.stage;
      leaves = leaves_more (judging exit) (shown_attempt s) _ _ c.fail.result new (omega arith) c.fail.ensures.leaves;
    }

pub returns-in-Failed : goal.returns-in-Failed
returns-in-Failed g c =
    let s = c.args.self.now in
    let exit = c.args.exit in
    let p = first_of s.left c.requires.some in
    let new = shown_attempt c.fail-in-Failed.new.self in
    record {
      steps = judge_steps c.args.time.now s p.0 p.1 exit _ _ _ Failed c.fail-in-Failed.result new p.2 (c.in-Failed.ensures p.0 p.1 p.2)
          (fail_from c.args.time.now (judging exit) (shown_attempt s) p.0 p.1 0 _ exit _ c.fail-in-Failed.result new (c.fail-in-Failed.ensures.steps c.args.time.now _ p.0 p.1 p.2));
      waits = waits_coming _ c.fail-in-Failed.new.self.stage c.fail-in-Failed.ensures.stage;
      leaves = leaves_more (judging exit) (shown_attempt s) _ _ c.fail-in-Failed.result new (omega arith) c.fail-in-Failed.ensures.leaves;
    }

pub returns-in-Memory : goal.returns-in-Memory
returns-in-Memory g c =
    let s = c.args.self.now in
    let exit = c.args.exit in
    let p = first_of s.left c.requires.some in
    record {
      steps = judge_steps c.args.time.now s p.0 p.1 exit _ _ _ Memory (Some went.Memory) _ p.2 (c.in-Memory.ensures p.0 p.1 p.2)
          (refl, refl, (λ i. Some (held_so (judging exit) s _ p.0 p.1 (stage.Judging exit) (judging exit) c.self.view_is p.2 refl i)));
      waits = tt;
      leaves = leaves_there (judging exit) s _ (stage.Judging exit) _ c.self.view_is;
    }
