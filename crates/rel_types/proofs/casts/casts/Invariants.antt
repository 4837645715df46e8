use Rattle.std.proofs.Common.{◌≡◌, [], drop}
use Rattle.rel_types.specs.Tables.{shown_casted}
use Rattle.rel_types.specs.Typing.{typed_casts}
use Rattle.rel_value.specs.Views.{shown_kind}
use Rattle.rel_types.proofs.casts.casts.Given as goal

-- what is left to do comes to the same
abbrev pub invariant-loop-cast : goal.invariant-loop-cast
invariant-loop-cast l = typed_casts (shown_casted l.done) (drop l.cast-index l.cast-items) ≡ typed_casts (record { kind = shown_kind l.fn.from; steps = [] }) l.fn.casts
