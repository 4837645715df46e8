use Rattle.std.proofs.Common.{◌≡◌, ◌++◌, OnOk, codes, decimal, subst}
use Rattle.turn_lines.specs.TurnLines.{in_component}
use Rattle.turn_lines.proofs.turn_line.say_in_component.Goals as goal

pub returns : goal.returns
unfolding in_component
returns c =
    subst (λ n. OnOk c.say_counted.result (c.say_counted.new.out ≡ c.args.out.now ++ (codes " in component " ++ decimal n))) c.from.ensures c.say_counted.ensures
