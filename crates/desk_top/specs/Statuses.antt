-- Statuses.
use Rattle.std.specs.Prelude.{ℕ}
use Rattle.desk_top.specs.declared.status.Status.{Status}
use Rattle.desk_top.specs.declared.status.Status.TheVariants.{Done, Usage, Refused, Source, Sink, Clock, Pocket, Keeper, Door, Memory, InputTooLong}
use Rattle.rel_session.specs.declared.halt.Halt.{Halt}
use Rattle.rel_session.specs.declared.halt.Halt.TheVariants as halt

-- the number with which the program exits
abbrev pub status_number : Status → ℕ
status_number Done = 0
status_number Usage = 1
status_number Refused = 2
status_number Source = 3
status_number Sink = 4
status_number Clock = 5
status_number Pocket = 6
status_number Keeper = 7
status_number Door = 8
status_number Memory = 9
status_number InputTooLong = 10

-- the status of a run that ended early
abbrev pub status_of : Halt → Status
status_of halt.Sink = Sink
status_of halt.Clock = Clock
status_of halt.Memory = Memory
