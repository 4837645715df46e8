use Rattle.std.proofs.Common.{◌++◌, ap, ◌∙◌}
use Rattle.office_text.proofs.MadeLemmas.{made_is}
use Rattle.office_text.proofs.made.make.Goals as goal

pub returns : goal.returns
returns c =
    let action = c.in_ok-extend-2.ensures.ok ∙ ap (λ l. c.extend.new.self ++ l) c.action_text.ensures in
    made_is c.args.number c.in_ok-out.out c.add_site.new.out c.extend.new.self c.extend-2.new.self c.extend-3.new.self c.add_computers.new.out c.extend-4.new.self c.add_turns.new.out c.extend-5.new.self
    c.in_ok-out.ensures c.in_ok-add_site.ensures c.in_ok-extend.ensures.ok action c.in_ok-extend-3.ensures.ok c.in_ok-add_computers.ensures c.in_ok-extend-4.ensures.ok c.in_ok-add_turns.ensures c.in_ok-extend-5.ensures.ok
