use Rattle.std.proofs.Common.{refl, ◌∙◌}
use Rattle.bf_world.specs.declared.key.Key.TheVariants as key
use Rattle.rel_inspect.specs.declared.descent.Ahead.TheVariants as ahead
use Rattle.rel_inspect.proofs.Falling.{begins}
use Rattle.rel_inspect.proofs.descent.Descent.new.Goals as goal

pub returns : goal.returns
returns c =
    λ w. begins w (record { ahead = ahead.Look (key.List c.in_ok-copy.field-0); top = c.new.result; above = c.new-2.result }) c.in_ok-copy.field-0 c.args.path.now
    refl c.new-2.ensures.items (c.new.ensures.path ∙ c.in_ok-copy-2.ensures) c.in_ok-copy.ensures
