use Rattle.std.proofs.Common.{◌++◌, ap, ◌∙◌, rules, SFits, w64}
use Rattle.std.proofs.lemmas.Int.{to_z-of_z}
use Rattle.std.proofs.lemmas.Result.{on_ok_weaker}
use Rattle.fix_site.proofs.Writings.{rules_written}
use Rattle.fix_site.proofs.rule_writer.write_rules.Goals as goal

pub returns : goal.returns
returns c =
    let fits : SFits w64 c.args.rules.now.wait = search rules in
    let retries = simp to_z-of_z at c.in_ok-write_retries.ensures in
    on_ok_weaker c.write_reapply.result
    (λ h. rules_written c.args.rules.now c.args.out.now c.write_moment_line.new.out c.write_moment_line-2.new.out c.extend.new.self c.write_hours.new.out c.write_days.new.out c.write_retries.new.out c.write_reapply.new.out
    c.in_ok-write_moment_line.ensures c.in_ok-write_moment_line-2.ensures (c.in_ok-extend.ensures.ok ∙ ap (λ l. c.write_moment_line-2.new.out ++ l) c.client_bytes.ensures)
    c.in_ok-write_hours.ensures c.in_ok-write_days.ensures retries h)
    c.write_reapply.ensures
