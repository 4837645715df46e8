use Rattle.std.proofs.Common.{◌∙◌, ap, arith, sym}
use Rattle.std.specs.Prelude.{None}
use Rattle.agent_attempt.specs.Stages.{AttemptState, shown_stage}
use Rattle.agent_attempt.proofs.Stepping.{first_of, leaves_next, same_as}
use Rattle.agent_attempt.proofs.Failing.{failing_next, failing_end, failing_left}
use Rattle.agent_attempt.proofs.attempt.Attempt.fail.Goals as goal

pub next-requires : goal.next-requires
next-requires c =
    let p = first_of c.args.self.now.left c.requires.some in
    ap (λ (x : AttemptState). x.stage) (c.keep_failure.ensures p.0 p.1 p.2) ∙ c.requires.stage

pub returns-then-self-clause-steps : goal.returns-then-self-clause-steps
returns-then-self-clause-steps c = λ at machine part left e.
    failing_next at c.args.self.now c.keep_failure.new.self c.next.new.self part left _ _ _ machine c.next.result (c.keep_failure.ensures part left e) e
    (sym (ap (λ (s : AttemptState). s.action.all_members) c.self.view_is) ∙ c.if-self.true) c.next.ensures.none c.next.ensures.next

pub returns-clause-steps : goal.returns-clause-steps
returns-clause-steps c = λ at machine part left e.
    failing_end at c.args.self.now c.keep_failure.new.self _ part left _ _ _ machine c.ended.result (c.keep_failure.ensures part left e)
    (sym (ap (λ (s : AttemptState). s.action.all_members) c.self.view_is) ∙ c.if-self.false) c.ended.ensures.ended

pub returns-then-self-clause-stage : goal.returns-then-self-clause-stage
returns-then-self-clause-stage c =
    let s = c.args.self.now in
    let p = first_of s.left c.requires.some in
    ap (λ (x : AttemptState). x.stage) (failing_left s c.keep_failure.new.self c.next.new.self p.0 p.1 _ (c.keep_failure.ensures p.0 p.1 p.2) p.2 c.next.ensures.next)

pub returns-then-self-clause-leaves : goal.returns-then-self-clause-leaves
returns-then-self-clause-leaves c =
    let s = c.args.self.now in
    let p = first_of s.left c.requires.some in
    leaves_next (shown_stage s.stage) s c.next.new.self p.0 p.1 _ _ c.next.result c.next.ensures.none p.2
    (failing_left s c.keep_failure.new.self c.next.new.self p.0 p.1 _ (c.keep_failure.ensures p.0 p.1 p.2) p.2 c.next.ensures.next) (omega arith)

pub returns-clause-stage : goal.returns-clause-stage
returns-clause-stage c =
    let p = first_of c.args.self.now.left c.requires.some in
    ap (λ (x : AttemptState). x.stage) (c.ended.ensures.left ∙ ap (λ (x : AttemptState). record x { past = record { failure = None; exit = x.past.exit } }) (c.keep_failure.ensures p.0 p.1 p.2)) ∙ c.requires.stage

pub returns-clause-leaves : goal.returns-clause-leaves
returns-clause-leaves c =
    let s = c.args.self.now in
    let p = first_of s.left c.requires.some in
    record {
      note = c.ended.ensures.note;
      same = same_as (shown_stage s.stage) s c.ended.new.self s.left s.stage _ (c.ended.ensures.left ∙ ap (λ (x : AttemptState). record x { past = record { failure = None; exit = x.past.exit } }) (c.keep_failure.ensures p.0 p.1 p.2));
      falls = tt;
    }
