use Rattle.std.proofs.Common.{refl, subst, Ok, Err, None, Some}
use Rattle.bf_machine.specs.Views.{MachineView}
use Rattle.agent_text.specs.Pockets.{PocketView}
use Rattle.agent_attempt.specs.ActionContents.{actions_of}
use Rattle.agent_attempt.specs.Stages.{shown_attempt}
use Rattle.agent_core.specs.declared.kept_state.KeptState.{KeptState}
use Rattle.agent_core.specs.Devices.{devices}
use Rattle.agent_core.specs.Inside.{state_of}
use Rattle.agent_core.specs.Steps.{FindsDue}
use Rattle.agent_core.proofs.GatheredIds.{gathered_ids}
use Rattle.agent_core.proofs.MarkedTurns.{begins_on, finds_marked, idles_on, marking_stops, marking_stops_sound, sound_back, taken_back, tries_on}
use Rattle.agent_core.proofs.Searching.{found_begins}
use Rattle.agent_core.proofs.kept_state.KeptState.try_actions.Goals as goal

pub returns-in-Err-clause-tries : goal.returns-in-Err-clause-tries
returns-in-Err-clause-tries g c =
    marking_stops c.args.time.now c.args.self.now c.mark.new.self (g.P.Pocket.told c.args.pocket.now) c.in-Err.stop (g.M.Machine.told c.args.machine.now) (g.M.Machine.told c.mark.new.machine) c.in-Err.ensures.0 c.in-Err.ensures.1

pub returns-in-Err-clause-sound : goal.returns-in-Err-clause-sound
returns-in-Err-clause-sound g c = marking_stops_sound (g.M.Machine.told c.mark.new.machine).started c.args.self.now c.mark.new.self c.requires.free c.requires.sound c.in-Err.ensures.1

pub begin-requires-clause-begins : goal.begin-requires-clause-begins
begin-requires-clause-begins g c =
    let a : KeptState = c.args.self.now in
    let b : KeptState = c.mark.new.self in
    let at = c.args.time.now in
    let old : MachineView = g.M.Machine.told c.args.machine.now in
    let between : MachineView = g.M.Machine.told c.mark.new.machine in
    let later : MachineView = g.M.Machine.told c.find_due.new.machine in
    let attempt = c.in-Ok-Some.attempt in
    let finds : FindsDue at (state_of b) b.histories (actions_of b.sites) between (Ok (Some attempt)) later =
    subst (λ o. FindsDue at (state_of b) b.histories (actions_of b.sites) between (Ok o) later) c.in-Ok-Some.field-0-is c.in-Ok-Some.ensures in
    found_begins at (state_of a) (actions_of a.sites) b.histories between later attempt (gathered_ids a.sites c.requires.sound.sound.sites) (finds_marked at a b c.in-Ok.marked old between c.in-Ok.ensures (Ok (Some attempt)) later finds)

pub returns-in-Ok-Some-clause-tries : goal.returns-in-Ok-Some-clause-tries
returns-in-Ok-Some-clause-tries g c =
    let a : KeptState = c.args.self.now in
    let b : KeptState = c.mark.new.self in
    let at = c.args.time.now in
    let old : MachineView = g.M.Machine.told c.args.machine.now in
    let between : MachineView = g.M.Machine.told c.mark.new.machine in
    let later : MachineView = g.M.Machine.told c.find_due.new.machine in
    let now : MachineView = g.M.Machine.told c.begin.new.machine in
    let pocket : PocketView = g.P.Pocket.told c.args.pocket.now in
    let new : PocketView = g.P.Pocket.told c.begin.new.pocket in
    let attempt = c.in-Ok-Some.attempt in
    let finds : FindsDue at (state_of b) b.histories (actions_of b.sites) between (Ok (Some attempt)) later =
    subst (λ o. FindsDue at (state_of b) b.histories (actions_of b.sites) between (Ok o) later) c.in-Ok-Some.field-0-is c.in-Ok-Some.ensures in
    tries_on at a b c.in-Ok.marked old between c.in-Ok.ensures pocket c.begin.result (state_of c.begin.new.self) (devices now new) (Ok (Some attempt)) later finds
    (begins_on at a b c.in-Ok.marked old between c.in-Ok.ensures pocket c.begin.result (state_of c.begin.new.self) (devices now new) (shown_attempt attempt) (devices later pocket) c.begin.ensures.begins)

pub returns-in-Ok-None-clause-tries : goal.returns-in-Ok-None-clause-tries
returns-in-Ok-None-clause-tries g c =
    let a : KeptState = c.args.self.now in
    let b : KeptState = c.mark.new.self in
    let at = c.args.time.now in
    let old : MachineView = g.M.Machine.told c.args.machine.now in
    let between : MachineView = g.M.Machine.told c.mark.new.machine in
    let later : MachineView = g.M.Machine.told c.find_due.new.machine in
    let pocket : PocketView = g.P.Pocket.told c.args.pocket.now in
    let new : PocketView = g.P.Pocket.told c.idle.new.pocket in
    let finds : FindsDue at (state_of b) b.histories (actions_of b.sites) between (Ok None) later =
    subst (λ o. FindsDue at (state_of b) b.histories (actions_of b.sites) between (Ok o) later) c.in-Ok-None.field-0-is c.in-Ok-None.ensures in
    tries_on at a b c.in-Ok.marked old between c.in-Ok.ensures pocket c.idle.result (state_of c.idle.new.self) (devices later new) (Ok None) later finds
    (idles_on at a b c.in-Ok.marked old between c.in-Ok.ensures pocket c.idle.result (state_of c.idle.new.self) (devices later new) (devices later pocket) (c.idle.ensures.finishes later))

pub returns-in-Err-find_due-clause-tries : goal.returns-in-Err-find_due-clause-tries
returns-in-Err-find_due-clause-tries g c =
    let a : KeptState = c.args.self.now in
    let b : KeptState = c.mark.new.self in
    let at = c.args.time.now in
    let old : MachineView = g.M.Machine.told c.args.machine.now in
    let between : MachineView = g.M.Machine.told c.mark.new.machine in
    let later : MachineView = g.M.Machine.told c.find_due.new.machine in
    let pocket : PocketView = g.P.Pocket.told c.args.pocket.now in
    let stop = c.in-Err-find_due.stop in
    tries_on at a b c.in-Ok.marked old between c.in-Ok.ensures pocket stop (state_of c.unmark.new.self) (devices later pocket) (Err stop) later c.in-Err-find_due.ensures
    (refl, taken_back at a b c.in-Ok.marked old between c.in-Ok.ensures c.unmark.new.self c.unmark.ensures, refl)

pub returns-in-Err-find_due-clause-sound : goal.returns-in-Err-find_due-clause-sound
returns-in-Err-find_due-clause-sound g c = sound_back (g.M.Machine.told c.find_due.new.machine).started c.mark.new.self c.unmark.new.self c.in-Ok.marked.before.items c.in-Ok.ensures.marks c.unmark.ensures
