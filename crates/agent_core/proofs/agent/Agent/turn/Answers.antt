use Rattle.std.proofs.Common.{sym, subst}
use Rattle.std.proofs.lemmas.Int.{to_z-of_z}
use Rattle.desk_base.specs.Moments.{IsMoment}
use Rattle.script_run.specs.Asking.{When}
use Rattle.agent_core.specs.Agents.{AgentState, shown_state}
use Rattle.agent_core.specs.Inside.{state_of}
use Rattle.agent_state.specs.States.{IsSound}
use Rattle.agent_core.specs.Devices.{Devices, devices}
use Rattle.agent_core.specs.Turns.{Turn}
use Rattle.agent_core.proofs.Agreeing.{turn_agrees}
use Rattle.agent_core.proofs.Backing.{turn_backed}
use Rattle.agent_core.proofs.Begun.{ChangedHistories}
use Rattle.agent_core.proofs.Causes.{turn_came}
use Rattle.agent_core.proofs.KeptLawful.{Laws, turn_lawful}
use Rattle.agent_core.proofs.agent.Agent.turn.Goals as goal
use Rattle.agent_core.proofs.agent.Agent.turn.Given.{Over}

-- what the devices tell before and after
abbrev before : (g : Over) → goal.After-drop-time-inside g → Devices
before g c =
    let machine = c.args.machine.now in
    let pocket = c.args.pocket.now in
    devices (g.M.Machine.told machine) (g.P.Pocket.told pocket)

abbrev after : (g : Over) → goal.After-drop-time-inside g → Devices
after g c =
    let machine = c.turn.new.machine in
    let pocket = c.turn.new.pocket in
    devices (g.M.Machine.told machine) (g.P.Pocket.told pocket)

-- the turn, from a sound state to one
turns : (g : Over) (c : goal.After-drop-time-inside g) → Turn c.new-time.result (shown_state c.args.self.now) (before g c) c.turn.result (state_of c.turn.new.self) (after g c)
turns g c = subst (λ (a : AgentState). Turn c.new-time.result (shown_state a) (before g c) c.turn.result (state_of c.turn.new.self) (after g c)) c.self.view_is c.turn.ensures.turns

sound : (g : Over) (c : goal.After-drop-time-inside g) → IsSound (shown_state c.args.self.now)
sound g c = subst (λ (a : AgentState). IsSound (shown_state a)) c.self.view_is c.self.invariant.sound

time : (g : Over) (c : goal.After-drop-time-inside g) → IsMoment c.new-time.result.moment
time g c =
    let is = simp (to_z-of_z, c.ranges.moment, c.ranges.offset) at c.new-time.ensures in
    subst (λ (t : When). IsMoment t.moment) (sym is) c.requires.moment

histories : (g : Over) → goal.After-drop-time-inside g → ChangedHistories
histories g c = let law = c.changed_histories_can_be_saved.ensures in record { begun = law.begun; ended = law.ended; cleared = law.cleared }

laws : (g : Over) → goal.After-drop-time-inside g → Laws
laws g c =
    let rows = c.lawful_rows_stay_lawful.ensures in
    record {
      histories = histories g c;
      rows = record { none = rows.none; begun = rows.begun; changed = rows.changed };
      one = c.one_saved.ensures;
      lines = c.lines_are_read_again.ensures.lines;
    }

pub returns-clause-agrees : goal.returns-clause-agrees
returns-clause-agrees g c = λ agrees.
    turn_agrees (histories g c) c.new-time.result (time g c) (shown_state c.args.self.now) (state_of c.turn.new.self) (before g c) (after g c) c.turn.result (turns g c) (sound g c) c.turn.ensures.sound.sound.sound agrees

pub returns-clause-lawful : goal.returns-clause-lawful
returns-clause-lawful g c = λ table rules lawful.
    turn_lawful (laws g c) table c.new-time.result (time g c) (shown_state c.args.self.now) (state_of c.turn.new.self) (before g c) (after g c) c.turn.result (turns g c) (sound g c) c.turn.ensures.sound.sound.sound rules lawful

pub returns-clause-backed : goal.returns-clause-backed
returns-clause-backed g c = λ agrees moved.
    turn_backed (histories g c) c.new-time.result (time g c) (shown_state c.args.self.now) (state_of c.turn.new.self) (before g c) (after g c) c.turn.result (turns g c) (sound g c) c.turn.ensures.sound.sound.sound agrees moved

pub returns-clause-started : goal.returns-clause-started
returns-clause-started g c = (turn_came c.new-time.result (shown_state c.args.self.now) (state_of c.turn.new.self) (before g c) (after g c) c.turn.result (turns g c)).started

pub returns-clause-cause : goal.returns-clause-cause
returns-clause-cause g c = (turn_came c.new-time.result (shown_state c.args.self.now) (state_of c.turn.new.self) (before g c) (after g c) c.turn.result (turns g c)).cause
