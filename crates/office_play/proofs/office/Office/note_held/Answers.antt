use Rattle.std.proofs.Common.{◌≡◌, List, ℕ, ap, ◌∙◌}
use Rattle.std.specs.Prelude.{get_or}
use Rattle.std.proofs.lemmas.Result.{on_ok_weaker}
use Rattle.relay_core.specs.Relays.{RelayState}
use Rattle.relay_core.specs.ReportKeys.{ReportKey}
use Rattle.relay_core.specs.ReportsUp.{after_sent}
use Rattle.office_play.specs.States.{OfficeState, kept_of}
use Rattle.office_play.proofs.Arrivals.{notes}
use Rattle.office_play.proofs.Names.{keeps_relay_set}
use Rattle.office_play.proofs.Seen.{relay_changed}
use Rattle.office_play.proofs.office.Office.note_held.Goals as goal

pub returns-clause-plays : goal.returns-clause-plays
returns-clause-plays c =
    let old : OfficeState = c.args.self.now in
    let place = c.relay_place-place.result in
    let key : ReportKey = record { computer = c.args.computer.now; seq = c.args.seq } in
    let entry : List ℕ × RelayState = c.index_mut.result.now in
    let is : entry ≡ get_or old.relays place entry =
    c.index_mut.ensures.value ∙ ap (λ (o : OfficeState). get_or o.relays place entry) c.self.view_is in
    let item : (c.behind-self.inside.name, c.sent.new.self) ≡ (entry.0, after_sent entry.1 key c.args.held.now) =
    ap (λ (r : RelayState). (c.behind-self.inside.name, r)) c.sent.ensures.after
    ∙ ap (λ (e : List ℕ × RelayState). (e.0, after_sent e.1 key c.args.held.now)) c.behind-self.view_is in
    on_ok_weaker c.say_delivered.result
    (λ said digest reply held. notes c.a_relay_delivers_as_its_carrier.ensures.sent (kept_of old) _ c.args.relay.now key digest c.args.held.now reply place entry c.args.number
    c.args.out.now _ c.relay_place-place.ensures is c.requires.good held
    (relay_changed _ old place entry _ (after_sent entry.1 key c.args.held.now) c.self.view_is item) said)
    c.say_delivered.ensures

pub returns-clause-names : goal.returns-clause-names
returns-clause-names c =
    let old : OfficeState = c.args.self.now in
    let place = c.relay_place-place.result in
    let key : ReportKey = record { computer = c.args.computer.now; seq = c.args.seq } in
    let entry : List ℕ × RelayState = c.index_mut.result.now in
    let is : entry ≡ get_or old.relays place entry =
    c.index_mut.ensures.value ∙ ap (λ (o : OfficeState). get_or o.relays place entry) c.self.view_is in
    let item : (c.behind-self.inside.name, c.sent.new.self) ≡ (entry.0, after_sent entry.1 key c.args.held.now) =
    ap (λ (r : RelayState). (c.behind-self.inside.name, r)) c.sent.ensures.after
    ∙ ap (λ (e : List ℕ × RelayState). (e.0, after_sent e.1 key c.args.held.now)) c.behind-self.view_is in
    on_ok_weaker c.say_delivered.result
    (λ said. keeps_relay_set c.args.relay.now (kept_of old) _ place entry (after_sent entry.1 key c.args.held.now) c.relay_place-place.ensures is
    (relay_changed _ old place entry _ (after_sent entry.1 key c.args.held.now) c.self.view_is item))
    c.say_delivered.ensures
