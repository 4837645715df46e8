use Rattle.std.proofs.Common.{◌≡◌, ◌++◌, Bool, List, None, subst}
use Rattle.agent_core.specs.Agents.{shown_state}
use Rattle.agent_core.specs.Devices.{devices}
use Rattle.turn_lines.specs.TurnsWithFiles.{TurnsWithFiles}
use Rattle.turn_lines.specs.declared.giver.FileAsked.{FileAsked}
use Rattle.desk_rounds.specs.AgentRounds.{point}
use Rattle.desk_rounds.specs.Files.{GivesFromLink, files_at}
use Rattle.desk_rounds.specs.Lines.{lines_text}
use Rattle.desk_rounds.specs.Ways.{IsSwitched, switched_now, way}
use Rattle.desk_rounds.proofs.AgentParts.{turns_made, turns_short}
use Rattle.desk_rounds.proofs.Saying.{some_switched}
use Rattle.desk_rounds.proofs.agent_turns.turn_at.Goals as goal

pub returns-in-Ok-clause-turns : goal.returns-in-Ok-clause-turns
returns-in-Ok-clause-turns g c = λ clock.
    let s = shown_state c.args.agent.now in
    let d = devices (g.M.Machine.told c.args.machine.now) (g.P.Pocket.told c.args.pocket.now) in
    let w = way (g.L.Link.told c.args.link.now) c.args.second.now in
    let s2 = shown_state c.make_turns-turned.new.agent in
    let d2 = devices (g.M.Machine.told c.make_turns-turned.new.machine) (g.P.Pocket.told c.make_turns-turned.new.pocket) in
    let w2 = way (g.L.Link.told c.make_turns-turned.new.link) c.make_turns-turned.new.second in
    let asked = c.make_turns-turned.new.asked in
    let missed = c.make_turns-turned.new.missed in
    turns_made c.args.rounder.now c.args.time.moment (point s w d clock) c.make_turns-turned.result s2 d2 asked w2 missed c.say_turns.result
    c.args.out.now c.say_switched.new.out c.say_turns.new.out
    (subst (λ (a : List FileAsked). TurnsWithFiles GivesFromLink (record { moment = c.args.time.moment; offset = c.args.rounder.now.offset }) s d
    (files_at a w None) c.make_turns-turned.result s2 d2 (files_at asked w2 missed)) c.new-asked.ensures
    (subst (λ o. TurnsWithFiles GivesFromLink (record { moment = c.args.time.moment; offset = o }) s d (files_at c.new-asked.result w None)
    c.make_turns-turned.result s2 d2 (files_at asked w2 missed)) c.requires.same c.make_turns-turned.ensures.turns))
    (subst (λ (b : Bool). c.say_switched.new.out ≡ c.args.out.now ++ lines_text (switched_now b w2.second)) c.is_some-before.ensures c.in-Ok.ensures)
    c.say_turns.ensures

pub returns-clause-turns : goal.returns-clause-turns
returns-clause-turns g c = λ clock.
    let s = shown_state c.args.agent.now in
    let d = devices (g.M.Machine.told c.args.machine.now) (g.P.Pocket.told c.args.pocket.now) in
    let w = way (g.L.Link.told c.args.link.now) c.args.second.now in
    let s2 = shown_state c.make_turns-turned.new.agent in
    let d2 = devices (g.M.Machine.told c.make_turns-turned.new.machine) (g.P.Pocket.told c.make_turns-turned.new.pocket) in
    let w2 = way (g.L.Link.told c.make_turns-turned.new.link) c.make_turns-turned.new.second in
    let asked = c.make_turns-turned.new.asked in
    let missed = c.make_turns-turned.new.missed in
    turns_short c.args.rounder.now c.args.time.moment (point s w d clock) c.make_turns-turned.result s2 d2 asked w2 missed c.short_end.result
    c.args.out.now c.say_switched.new.out
    (subst (λ (a : List FileAsked). TurnsWithFiles GivesFromLink (record { moment = c.args.time.moment; offset = c.args.rounder.now.offset }) s d
    (files_at a w None) c.make_turns-turned.result s2 d2 (files_at asked w2 missed)) c.new-asked.ensures
    (subst (λ o. TurnsWithFiles GivesFromLink (record { moment = c.args.time.moment; offset = o }) s d (files_at c.new-asked.result w None)
    c.make_turns-turned.result s2 d2 (files_at asked w2 missed)) c.requires.same c.make_turns-turned.ensures.turns))
    (some_switched _ w2.second (subst (λ (b : Bool). IsSwitched b w2.second) c.is_some-before.ensures c.in-Err.ensures.0)) c.short_end.ensures
    c.in-Err.ensures.1
