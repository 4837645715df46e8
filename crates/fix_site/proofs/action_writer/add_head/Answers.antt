use Rattle.std.proofs.Common.{◌++◌, ap, ◌∙◌, rules, SFits, w64}
use Rattle.std.proofs.lemmas.Int.{to_z-of_z}
use Rattle.std.proofs.lemmas.Result.{on_ok_weaker}
use Rattle.fix_site.proofs.Writings.{head_written}
use Rattle.fix_site.proofs.action_writer.add_head.Goals as goal

pub returns : goal.returns
returns c =
    let fits : SFits w64 c.args.action.now.issued = search rules in
    let issued = simp to_z-of_z at c.in_ok-write_issued.ensures in
    on_ok_weaker c.extend.result
    (λ h. head_written c.args.action.now c.args.out.now c.write_id.new.out c.write_issued.new.out c.write_content.new.out c.extend.new.self
    c.in_ok-write_id.ensures issued c.in_ok-write_content.ensures (h ∙ ap (λ l. c.write_content.new.out ++ l) c.members_bytes.ensures))
    c.extend.ensures.ok
