use Rattle.std.proofs.Common.{arith, ap}
use Rattle.std.proofs.lemmas.Grind.{common_steps}
use Rattle.desk_door.specs.Memory.{DoorState}
use Rattle.desk_door.proofs.Doors.{left_after}
use Rattle.desk_door.proofs.memory_door.MemoryDoorDoor.read.Goals as goal

pub returns-clause-gives : goal.returns-clause-gives
returns-clause-gives c =
    let left = ap (λ (d : DoorState). d.left) c.self.view_is in
    rw (← left) (grind (arith, common_steps, left_after))
