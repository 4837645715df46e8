use Rattle.std.proofs.Common.{◌++◌, ap, ◌∙◌}
use Rattle.std.specs.Prelude.{decimal}
use Rattle.std.proofs.lemmas.Result.{on_ok_weaker}
use Rattle.office_text.proofs.MadeLemmas.{turn_written}
use Rattle.office_text.proofs.made.add_turn.Goals as goal

pub returns : goal.returns
returns c =
    let first = c.in_ok-decimal.ensures.ok ∙ ap (λ n. c.extend.new.self ++ decimal n) c.from.ensures in
    let second = c.in_ok-decimal-2.ensures.ok ∙ ap (λ n. c.extend-2.new.self ++ decimal n) c.from-2.ensures in
    on_ok_weaker c.push.result
    (λ h. turn_written c.args.place c.args.out.now c.extend.new.self c.decimal.new.out c.extend-2.new.self c.decimal-2.new.out c.push.new.self c.in_ok-extend.ensures.ok first c.in_ok-extend-2.ensures.ok second h)
    c.push.ensures.ok
