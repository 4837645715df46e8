use Rattle.std.proofs.Common.{◌++◌, ap, ◌∙◌}
use Rattle.std.specs.Prelude.{decimal}
use Rattle.std.proofs.lemmas.Result.{on_ok_weaker}
use Rattle.office_text.proofs.MadeLemmas.{computer_written}
use Rattle.office_text.proofs.made.add_computer.Goals as goal

pub returns : goal.returns
returns c =
    let first = c.in_ok-decimal.ensures.ok ∙ ap (λ n. c.extend.new.self ++ decimal n) c.from.ensures in
    let second = c.in_ok-decimal-2.ensures.ok ∙ ap (λ n. c.extend-2.new.self ++ decimal n) c.from-2.ensures in
    on_ok_weaker c.extend-4.result
    (λ h. computer_written c.args.place c.args.minor c.args.out.now c.extend.new.self c.decimal.new.out c.extend-2.new.self c.decimal-2.new.out c.extend-3.new.self c.decimal-3.new.out c.extend-4.new.self
    c.in_ok-extend.ensures.ok first c.in_ok-extend-2.ensures.ok second c.in_ok-extend-3.ensures.ok c.in_ok-decimal-3.ensures.ok h)
    c.extend-4.ensures.ok
