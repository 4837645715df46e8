use Rattle.std.proofs.Common.{subst}
use Rattle.script_text.specs.Bytes.{SplitsRun}
use Rattle.script_text.specs.Runs.{passes}
use Rattle.script_text.proofs.Cutting.{utf8_behind_braces}
use Rattle.script_text.proofs.TemplateLemmas.{plain_run, plain_brace, plain_whole, doubled_shorter}
use Rattle.script_text.proofs.piece.read_plain.Goals as goal

pub returns-in_default : goal.returns-in_default
returns-in_default c =
    let cut = subst (λ p. SplitsRun p c.loop-plain.rest.now c.split_run.result.0.now c.split_run.result.1.now) c.plain_run.ensures c.split_run.ensures in
    plain_whole c.args.ending c.args.text.now c.push.new.self c.split_run.result.1.now
    (plain_run c.args.ending c.args.text.now c.loop-plain.plain c.loop-plain.rest.now c.split_run.result.0.now c.split_run.result.1.now c.push.new.self c.loop-plain.invariant.so_far cut c.in_ok-push.ensures.ok)
    cut.stops c.in_default.ensures

pub loop-plain-preserved : goal.loop-plain-preserved
loop-plain-preserved c = record {
  so_far =
      let cut = subst (λ p. SplitsRun p c.loop-plain.rest.now c.split_run.result.0.now c.split_run.result.1.now) c.plain_run.ensures c.split_run.ensures in
      plain_brace c.args.ending c.args.text.now c.push.new.self c.split_run.result.1.now c.in-Some.behind.now c.push-in-loop-plain.new.self
      (plain_run c.args.ending c.args.text.now c.loop-plain.plain c.loop-plain.rest.now c.split_run.result.0.now c.split_run.result.1.now c.push.new.self c.loop-plain.invariant.so_far cut c.in_ok-push.ensures.ok)
      c.in-Some.ensures c.in_ok-push-2.ensures.ok;
  utf8 = utf8_behind_braces c.loop-plain.rest.now c.split_run.result.0.now c.split_run.result.1.now c.in-Some.behind.now c.loop-plain.invariant.utf8 c.split_run.ensures.splits c.in-Some.ensures;
}

pub loop-plain-smaller : goal.loop-plain-smaller
loop-plain-smaller c = doubled_shorter (passes c.plain_run.result) c.loop-plain.rest.now c.split_run.result.0.now c.split_run.result.1.now c.in-Some.behind.now c.split_run.ensures c.in-Some.ensures
