-- What the lines of a relay's whole steps tell of the counts of faults.
use Rattle.std.proofs.Common.{◌≤◌, ℕ, ◌+◌, refl, arith}
use Rattle.std.specs.Prelude.{if◌then◌else◌}
use Rattle.desk_base.specs.declared.sink.Put.TheVariants as put
use Rattle.bf_machine.specs.Rises.{RoseBy}
use Rattle.bf_machine.proofs.Telling.{RoseBy-later, RoseBy-more, RoseBy-none}
use Rattle.desk_http.specs.declared.talk.Met.{Met}
use Rattle.desk_http.specs.declared.talk.Met.TheVariants as met
use Rattle.desk_serve.specs.declared.step.Stop.TheVariants as stop
use Rattle.desk_serve.specs.ServeCounts.{is_door_fault}
use Rattle.desk_runs.specs.Counting.{CountsSteps, door_faults, no_answer_told, told_of_relay}
use Rattle.desk_runs.specs.RelayRuns.{Begun, RelayRun, Runs, Then}
use Rattle.desk_runs.specs.RelaySteps.{BreaksTalk, RelayScene, Talks, host_of}
use Rattle.desk_runs.proofs.CountingRelays.{door_fault, lines_rise, talk_falls, told_falls}
use Rattle.desk_runs.proofs.CountingRounds.{fewer, unanswered}

-- a conversation ended by a fault of the door
talk_door : (old new : RelayScene) (ended : Met) → Talks old ended new → RoseBy (if is_door_fault ended then 1 else 0) old.door.faults new.door.faults
talk_door old new met.DoorFault talks =
    RoseBy-later 1 old.door.faults talks.begun.faults new.door.faults talks.begins.counts.later (door_fault talks.begun new.door (host_of old) (host_of new) talks.talks)
talk_door old new (met.Answered status) talks = RoseBy-none old.door.faults new.door.faults (talk_falls old new (met.Answered status) talks).door
talk_door old new met.Closed talks = RoseBy-none old.door.faults new.door.faults (talk_falls old new met.Closed talks).door
talk_door old new met.Memory talks = RoseBy-none old.door.faults new.door.faults (talk_falls old new met.Memory talks).door

-- one part of a count after another, where the second says nothing
then_later : (n a b c : ℕ) → RoseBy n a b → b ≤ c → RoseBy n a c
then_later n a b c p q = fewer n (n + 0) a c (omega arith) (RoseBy-more n 0 a b c p (RoseBy-none b c q))

pub steps_counted : (old new : RelayScene) (run : RelayRun) → Runs old run new → CountsSteps old run new
steps_counted old new (Begun lines) tells = record {
  link = lines_rise old new put.Done lines tells;
  door = RoseBy-none old.door.faults new.door.faults (told_falls old new put.Done lines tells).door;
}
steps_counted old new (Then run ended lines) (mid, runs, (between, talk, round)) =
    let before = steps_counted old mid run runs in
    let talked = talk_falls mid between ended talk.talks in
    let rounded = told_falls between new put.Done lines round in
    record {
      link = RoseBy-more (told_of_relay no_answer_told run) (unanswered lines) old.link.faults mid.link.faults new.link.faults before.link
          (RoseBy-later (unanswered lines) mid.link.faults between.link.faults new.link.faults talked.link
          (lines_rise between new put.Done lines round));
      door = RoseBy-more (door_faults run) (if is_door_fault ended then 1 else 0) old.door.faults mid.door.faults new.door.faults before.door
          (then_later (if is_door_fault ended then 1 else 0) mid.door.faults between.door.faults new.door.faults (talk_door mid between ended talk.talks) rounded.door);
    }

-- and the door had no next one
pub broken_counted : (old mid new : RelayScene) (run : RelayRun) → Runs old run mid → BreaksTalk mid stop.Door new → RoseBy (door_faults run + 1) old.door.faults new.door.faults
broken_counted old mid new run runs none =
    RoseBy-more (door_faults run) 1 old.door.faults mid.door.faults new.door.faults (steps_counted old mid run runs).door (none.begins.counts.rose refl)
