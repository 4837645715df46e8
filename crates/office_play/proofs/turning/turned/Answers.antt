use Rattle.std.proofs.Common.{w64, refl, sym, subst, ◌∙◌}
use Rattle.std.proofs.lemmas.Int.{to_z-of_z}
use Rattle.desk_base.specs.Moments.{IsMoment}
use Rattle.script_run.specs.Asking.{When}
use Rattle.agent_core.specs.Agents.{shown_state}
use Rattle.office_play.specs.Turning.{Turner, files_of}
use Rattle.office_play.proofs.Serving.{makes_turns, turns_leave}
use Rattle.office_play.proofs.turning.turned.Goals as goal

pub make_turns-requires-clause-moment : goal.make_turns-requires-clause-moment
make_turns-requires-clause-moment c = subst IsMoment (sym (c.time_in-time.ensures.moment ∙ to_z-of_z w64 c.args.moment c.ranges.moment)) c.requires.moment

pub make_turns-requires-clause-offset : goal.make_turns-requires-clause-offset
make_turns-requires-clause-offset c = c.time_in-time.ensures.in_range

pub make_turns-requires-clause-waits : goal.make_turns-requires-clause-waits
make_turns-requires-clause-waits c = c.requires.waits

pub returns-in-Memory-clause-rows : goal.returns-in-Memory-clause-rows
returns-in-Memory-clause-rows c =
    let time : When = record { moment = c.time_in-time.result.moment; offset = c.time_in-time.result.offset } in
    turns_leave time c.args.keeper.now (files_of c.new-asked.result c.args.keeper.now) (files_of c.make_turns.new.asked c.make_turns.new.keeper) _ _ _ _ c.make_turns.result
    c.requires.accepted refl c.make_turns.ensures.turns

pub returns-clause-rows : goal.returns-clause-rows
returns-clause-rows c =
    let time : When = record { moment = c.time_in-time.result.moment; offset = c.time_in-time.result.offset } in
    turns_leave time c.args.keeper.now (files_of c.new-asked.result c.args.keeper.now) (files_of c.make_turns.new.asked c.make_turns.new.keeper) _ _ _ _ c.make_turns.result
    c.requires.accepted refl c.make_turns.ensures.turns

pub returns-clause-turns : goal.returns-clause-turns
returns-clause-turns c =
    let time : When = record { moment = c.time_in-time.result.moment; offset = c.time_in-time.result.offset } in
    let old : Turner = record { agent = shown_state c.args.agent.now; machine = c.args.machine.now; pocket = c.args.pocket.now } in
    let new : Turner =
    record { agent = shown_state c.make_turns.new.agent; machine = c.make_turns.new.machine; pocket = c.make_turns.new.pocket } in
    makes_turns c.args.moment time c.args.keeper.now (files_of c.new-asked.result c.args.keeper.now) (files_of c.make_turns.new.asked c.make_turns.new.keeper) old c.make_turns.result new
    (c.time_in-time.ensures.moment ∙ to_z-of_z w64 c.args.moment c.ranges.moment) c.time_in-time.ensures.offset c.new-asked.ensures refl c.in_default.not-Memory c.make_turns.ensures.turns
