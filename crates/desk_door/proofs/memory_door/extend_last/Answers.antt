use Rattle.std.proofs.Common.{◌-◌, arith}
use Rattle.std.specs.Vec.{vec_len}
use Rattle.std.proofs.lemmas.Grind.{common_steps}
use Rattle.desk_door.proofs.Extending.{extends, when_ok, when_err}
use Rattle.desk_door.proofs.memory_door.extend_last.Goals as goal

pub returns-in-Some : goal.returns-in-Some
returns-in-Some c =
    extends c.args.texts.now.items (vec_len c.args.texts.now - 1) c.args.piece.now c.in-Some.last.now c.extend.new.self c.is_ok.result
    (grind (arith, common_steps, c.in-Some.ensures.variant))
    c.in-Some.ensures.value
    (when_ok c.extend.result _ _ c.is_ok.ensures.value c.extend.ensures.ok)
    (when_err c.extend.result _ _ c.is_ok.ensures.value c.extend.ensures.err)
