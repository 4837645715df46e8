use Rattle.std.proofs.Common.{◌≡◌, List, ℕ, ℤ, length, to_z, of_z, w64, sym, subst}
use Rattle.std.proofs.lemmas.Int.{to_z-of_z}
use Rattle.std.proofs.lemmas.Result.{on_ok_weaker}
use Rattle.desk_base.specs.Moments.{IsMoment}
use Rattle.bf_machine.specs.Sure.{SureState}
use Rattle.agent_core.specs.Agents.{shown_state}
use Rattle.agent_core.specs.Stops.{HeldWaitsBelow}
use Rattle.agent_state.specs.States.{State}
use Rattle.office_rules.specs.Offices.{PlayedComputer}
use Rattle.office_play.specs.Links.{HasMail}
use Rattle.office_play.specs.States.{ComputerState, shown_entry}
use Rattle.office_play.specs.Turning.{Turner, TurnsOver}
use Rattle.office_play.proofs.Turns.{gathers_mail, turned_entry, turns_mail}
use Rattle.office_play.proofs.computer.PlayedComputer.turn.Goals as goal

pub turned-requires : goal.turned-requires
turned-requires c =
    let i = c.self.inside in
    let seen : List ℕ × ComputerState = (i.name, record { relay = i.relay; agent = i.agent; saved = i.pocket; world = i.machine.world; again = i.again; analyst = i.analyst }) in
    let is : seen ≡ c.args.self.now = c.self.view_is in
    let waits : HeldWaitsBelow (length i.machine.world.started) (shown_state i.agent).held =
    subst (λ (e : List ℕ × ComputerState). HeldWaitsBelow (length e.1.world.started) (shown_state e.1.agent).held) (sym is) c.requires.sound.waits in
    record {
      moment = subst IsMoment (sym (to_z-of_z w64 c.args.moment c.ranges.moment)) c.requires.moment;
      waits = subst (λ (m : SureState). HeldWaitsBelow (length m.world.started) (shown_state c.gather_each.new.agent).held) (sym c.begin_anew.ensures)
          (subst (HeldWaitsBelow (length i.machine.world.started)) (sym c.in_ok-gather_each.ensures.held) waits);
      accepted = c.requires.accepted;
    }

pub say_again-requires : goal.say_again-requires
say_again-requires c = record {
  moment = subst IsMoment (sym (to_z-of_z w64 c.args.moment c.ranges.moment)) c.requires.moment;
  dates = c.acted.ensures.moments;
}

pub returns-clause-turns : goal.returns-clause-turns
returns-clause-turns c =
    let i = c.self.inside in
    let then : Turner = record { agent = shown_state c.turned.new.agent; machine = c.turned.new.machine; pocket = c.turned.new.pocket } in
    let seen : List ℕ × ComputerState = (i.name, record { relay = i.relay; agent = i.agent; saved = i.pocket; world = i.machine.world; again = i.again; analyst = i.analyst }) in
    let new : PlayedComputer =
    record { relay = i.relay; agent = then.agent; saved = then.pocket; world = then.machine.world; again = c.say_again.new.world; analyst = i.analyst } in
    on_ok_weaker c.say_turn.result
    (λ said. subst (λ (m : ℤ). TurnsOver m c.args.keeper.now c.args.sites.now (shown_entry c.args.self.now) c.args.out.now (i.name, new) c.say_turn.new.out)
    (to_z-of_z w64 c.args.moment c.ranges.moment)
    (turned_entry (to_z w64 (of_z w64 c.args.moment)) c.args.keeper.now c.args.sites.now seen c.args.self.now (shown_state c.gather_each.new.agent) c.in_ok-turned.turned then
    c.begin_anew.new.self c.acted.result.now new c.args.out.now c.say_again.new.out c.say_turn.new.out c.self.view_is c.begin_anew.ensures c.acted.ensures.acted
    c.in_ok-gather_each.ensures.gathers c.in_ok-turned.ensures.turns
    (λ k. record { relay = i.relay; agent = then.agent; saved = then.pocket; world = then.machine.world; again = c.in_ok-say_again.ensures.world k; analyst = i.analyst })
    c.in_ok-say_again.ensures.lines said))
    c.say_turn.ensures

pub returns-clause-sound : goal.returns-clause-sound
returns-clause-sound c =
    on_ok_weaker c.say_turn.result (λ said. record { sound = c.agents_are_sound.ensures; waits = c.in_ok-turned.ensures.waits }) c.say_turn.ensures

pub returns-clause-mail : goal.returns-clause-mail
returns-clause-mail c =
    let i = c.self.inside in
    let accepted = c.requires.accepted in
    let gathered : State = shown_state c.gather_each.new.agent in
    let old : Turner = record { agent = gathered; machine = c.begin_anew.new.self; pocket = i.pocket } in
    let then : Turner = record { agent = shown_state c.turned.new.agent; machine = c.turned.new.machine; pocket = c.turned.new.pocket } in
    let has : HasMail i.name (shown_state i.agent) i.pocket =
    subst (λ (e : List ℕ × ComputerState). HasMail e.0 (shown_state e.1.agent) e.1.saved) (sym c.self.view_is) c.requires.mail in
    on_ok_weaker c.say_turn.result
    (λ said. turns_mail c.turns_are_steps.ensures.turn i.name (to_z w64 (of_z w64 c.args.moment)) accepted.0 old c.in_ok-turned.turned then (c.in_ok-turned.ensures.turns accepted.0 accepted.1)
    c.agents_are_sound.ensures (gathers_mail i.name i.pocket c.args.sites.now (shown_state i.agent) gathered c.in_ok-gather_each.ensures.gathers has))
    c.say_turn.ensures
