use Rattle.std.proofs.Common.{◌++◌, ap, ◌∙◌}
use Rattle.std.proofs.lemmas.Result.{on_ok_weaker}
use Rattle.fix_site.proofs.Writings.{action_written}
use Rattle.fix_site.proofs.action_writer.add_action.Goals as goal

pub returns : goal.returns
returns c =
    on_ok_weaker c.extend-2.result
    (λ h. action_written c.args.action.now c.args.out.now c.add_head.new.out c.add_target.new.out c.write_rules.new.out c.extend.new.self c.extend-2.new.self
    c.in_ok-add_head.ensures c.in_ok-add_target.ensures c.in_ok-write_rules.ensures (c.in_ok-extend.ensures.ok ∙ ap (λ l. c.write_rules.new.out ++ l) c.state_bytes.ensures) h)
    c.extend-2.ensures.ok
