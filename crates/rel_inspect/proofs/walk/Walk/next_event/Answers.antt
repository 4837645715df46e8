use Rattle.std.proofs.Common.{[], pos, refl, sym, ap, ◌∙◌}
use Rattle.std.specs.Option.{option_copied}
use Rattle.bf_world.specs.Worlds.{WorldState, bare}
use Rattle.rel_inspect.specs.Left.{state_left}
use Rattle.rel_inspect.proofs.Walking.{moves-cause, moves-room, moves-quiet, asked-look, grows-none}
use Rattle.rel_inspect.proofs.walk.Walk.next_event.Goals as goal

abbrev some_world : WorldState
some_world = bare [] [] [] (pos 0) (pos 0)

pub returns-in_default-clause-cause : goal.returns-in_default-clause-cause
returns-in_default-clause-cause g c =
    moves-cause (g.M.Machine.told c.args.machine.now).faults (state_left c.args.self.now.state some_world c.args.scene.now) (state_left c.go.new.self some_world c.args.scene.now) c.go.result (c.go.ensures.moves some_world)

pub returns-in_default-clause-room : goal.returns-in_default-clause-room
returns-in_default-clause-room g c =
    moves-room c.args.room (state_left c.args.self.now.state some_world c.args.scene.now) (state_left c.go.new.self some_world c.args.scene.now) c.go.result (c.go.ensures.moves some_world)

pub returns-then-not-room-clause-goes : goal.returns-then-not-room-clause-goes
returns-then-not-room-clause-goes g c =
    λ w told. (asked-look c.args.self.now.state w c.args.scene.now c.in-Some.key.now (sym c.key.ensures ∙ ap option_copied c.in-Some.is), refl, refl)

pub returns-in-Failed-clause-goes : goal.returns-in-Failed-clause-goes
returns-in-Failed-clause-goes g c =
    λ w told. (asked-look c.args.self.now.state w c.args.scene.now c.in-Some.key.now (sym c.key.ensures ∙ ap option_copied c.in-Some.is), refl, grows-none _ _ c.in-Failed.ensures.looked)

pub returns-in_default-clause-asked : goal.returns-in_default-clause-asked
returns-in_default-clause-asked g c =
    λ same. absurd (moves-quiet (state_left c.args.self.now.state some_world c.args.scene.now) (state_left c.go.new.self some_world c.args.scene.now) c.go.result (c.go.ensures.moves some_world) same)
