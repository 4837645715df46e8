use Rattle.std.proofs.Common.{SFits, w64, ap, ◌∙◌, rules}
use Rattle.std.proofs.lemmas.Int.{to_z-of_z}
use Rattle.script_run.specs.RunPlaces.{from, wanted_at}
use Rattle.agent_attempt.specs.Attempts.{running}
use Rattle.agent_attempt.specs.Stages.{AttemptState, shown_attempt}
use Rattle.agent_attempt.proofs.Stepping.{first_of}
use Rattle.agent_attempt.proofs.Runs.{run_advances, run_exit}
use Rattle.agent_attempt.proofs.AfterRun.{run_step, behind_waits, behind_is}
use Rattle.agent_attempt.proofs.attempt.Attempt.run.Goals as goal

pub invariant_of-self : goal.invariant_of-self
invariant_of-self g c =
    let moment : SFits w64 c.moment.result = search rules in
    let offset : SFits w64 c.offset.result = search rules in
    let a = run_advances c.args.time.now _ c.args.run c.advance-ran.new.self _ _ c.advance-ran.result c.requires.run (λ i. record { moment = (to_z-of_z w64 c.moment.result moment ∙ c.moment.ensures.value) i; offset = (to_z-of_z w64 c.offset.result offset ∙ c.offset.ensures.value) i }) c.advance-ran.ensures.goes_on in
    record {
      issued = c.self.invariant.issued;
      began = c.self.invariant.began;
      stands = behind_is c.self.inside.left.items c.stage_behind.result c.advance-ran.result c.exit-exit.result c.advance-ran.new.self c.stage_behind.ensures a.1;
    }

pub after_run-requires-clause-stage : goal.after_run-requires-clause-stage
after_run-requires-clause-stage g c = (c.advance-ran.new.self, c.stage_behind.ensures)

pub returns : goal.returns
returns g c =
    let s = c.args.self.now in
    let p = first_of s.left c.requires.some in
    let before = running (from c.args.run) (wanted_at c.args.run.place) in
    let left = c.advance-ran.new.self in
    let moment : SFits w64 c.moment.result = search rules in
    let offset : SFits w64 c.offset.result = search rules in
    let a = run_advances c.args.time.now _ c.args.run left _ _ c.advance-ran.result c.requires.run (λ i. record { moment = (to_z-of_z w64 c.moment.result moment ∙ c.moment.ensures.value) i; offset = (to_z-of_z w64 c.offset.result offset ∙ c.offset.ensures.value) i }) c.advance-ran.ensures.goes_on in
    run_step c.args.time.now s _ c.stage_behind.result p.0 p.1 (from c.args.run) (from left) (wanted_at c.args.run.place) _ _ c.advance-ran.result c.after_run.result (shown_attempt c.after_run.new.self) c.self.view_is p.2 a.0 c.advance-ran.ensures.again
    (behind_waits _ c.stage_behind.result c.after_run.new.self.stage c.advance-ran.result c.exit-exit.result left c.after_run.ensures.stage c.stage_behind.ensures c.advance-ran.ensures.waits)
    (c.after_run.ensures.steps c.args.time.now before left _ p.0 p.1 (ap (λ (x : AttemptState). x.left) c.self.view_is ∙ p.2) c.stage_behind.ensures c.advance-ran.ensures.wanted (run_exit left c.exit-exit.result a.1 c.exit-exit.ensures))
    c.after_run.ensures.leaves
