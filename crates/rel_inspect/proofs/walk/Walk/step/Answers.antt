use Rattle.std.proofs.Common.{[], pos}
use Rattle.bf_world.specs.Worlds.{WorldState, bare}
use Rattle.rel_sources.specs.Steps.{IsStep}
use Rattle.rel_inspect.specs.Left.{state_left, left}
use Rattle.rel_inspect.proofs.Walking.{moves-step, with-room, cause-then, event-then, cause-as, sound-as}
use Rattle.rel_inspect.proofs.walk.Walk.step.Goals as goal

abbrev some_world : WorldState
some_world = bare [] [] [] (pos 0) (pos 0)

pub into_step-requires : goal.into_step-requires
into_step-requires g c =
    moves-step (state_left c.next_event.new.self.state some_world c.args.scene.now) (state_left c.go.new.self some_world c.args.scene.now) c.go.result (c.go.ensures.moves some_world)

pub returns-in-Looked-clause-cause : goal.returns-in-Looked-clause-cause
returns-in-Looked-clause-cause g c =
    cause-then (g.M.Machine.told c.args.machine.now).faults (g.M.Machine.told c.next_event.new.machine).faults
    (state_left c.next_event.new.self.state some_world c.args.scene.now) (state_left c.go.new.self some_world c.args.scene.now) c.go.result c.into_step.result
    c.in-Looked.ensures.cause (c.go.ensures.moves some_world) c.into_step.ensures

pub returns-in_default : goal.returns-in_default
returns-in_default g c =
    let is : IsStep c.next_event.result = with-room c.next_event.result c.next_event.ensures.room c.in_default.not-Looked in
    record {
      goes = λ w told. event-then _ _ (left c.args.self.now w c.args.scene.now) (left c.next_event.new.self w c.args.scene.now) c.next_event.result c.into_step-in_default.result (c.next_event.ensures.goes w told) is c.into_step-in_default.ensures;
      cause = cause-as _ _ c.next_event.result c.into_step-in_default.result c.next_event.ensures.cause is c.into_step-in_default.ensures;
      looks = c.next_event.ensures.looks;
      walk = c.next_event.ensures.walk;
      sound = sound-as c.next_event.result c.into_step-in_default.result c.next_event.ensures.sound is c.into_step-in_default.ensures;
    }
