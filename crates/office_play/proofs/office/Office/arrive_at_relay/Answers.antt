use Rattle.std.proofs.Common.{◌≡◌, ◌+◌, List, ℕ, ◌++◌, length, ap, refl, ◌∙◌}
use Rattle.std.specs.Prelude.{get_or, slice_set}
use Rattle.relay_core.specs.Relays.{RelayState}
use Rattle.relay_core.specs.ReportsUp.{after_up, up_verdict}
use Rattle.office_rules.specs.OfficeLines.{answer_words, delivered_line}
use Rattle.office_play.specs.declared.message.Message.TheVariants as kept
use Rattle.office_play.specs.Kept.{KeptOffice}
use Rattle.office_play.specs.Links.{IsGoodRelay}
use Rattle.office_play.specs.States.{OfficeState, kept_of}
use Rattle.office_play.proofs.Arrivals.{arrives_at_relay}
use Rattle.office_play.proofs.Dispatched.{new_message}
use Rattle.office_play.proofs.Names.{keeps_relay}
use Rattle.office_play.proofs.Places.{named_holds}
use Rattle.office_play.proofs.Seen.{relay_changed}
use Rattle.office_play.proofs.office.Office.arrive_at_relay.Goals as goal

pub up-requires : goal.up-requires
up-requires c = c.requires.message.1.good

pub returns-clause-plays : goal.returns-clause-plays
returns-clause-plays c =
    let old : OfficeState = c.args.self.now in
    let name = c.args.relay.now in
    let report = c.args.report in
    let place = c.relay_place-place.result in
    let verdict = c.in-Told.verdict in
    let entry : List ℕ × RelayState = c.index_mut.result.now in
    let is : entry ≡ get_or old.relays place entry =
    c.index_mut.ensures.value ∙ ap (λ (o : OfficeState). get_or o.relays place entry) c.self.view_is in
    let w : RelayState = after_up entry.1 report in
    let item : (c.behind-self.inside.name, c.up.new.self) ≡ (entry.0, w) =
    ap (λ (r : RelayState). (c.behind-self.inside.name, r)) c.in-Told.ensures.1
    ∙ ap (λ (e : List ℕ × RelayState). (e.0, after_up e.1 report)) c.behind-self.view_is in
    let verdict_is : verdict ≡ up_verdict entry.1 report =
    c.in-Told.ensures.0 ∙ ap (λ (e : List ℕ × RelayState). up_verdict e.1 report) c.behind-self.view_is in
    let good = named_holds (λ (e : List ℕ × RelayState). IsGoodRelay (kept_of old).computers e.1) name old.relays place entry c.relay_place-place.ensures is c.requires.good.relays in
    let moved : KeptOffice = record (kept_of old) { relays = slice_set old.relays place (entry.0, w) } in
    arrives_at_relay c.a_relay_delivers_as_its_carrier.ensures.verdict c.a_relay_delivers_as_its_carrier.ensures.up (kept_of old) _ name report place entry verdict
    c.args.number c.args.out.now c.say_answered.new.out c.relay_place-place.ensures is c.requires.good good c.requires.message.1 verdict_is
    (new_message _ moved c.self.inside.messages.items c.push.new.self.items (kept.VerdictToComputer report.computer report.seq verdict)
    (relay_changed _ old place entry _ w c.self.view_is item) refl c.in_ok-push.ensures.items)
    (c.in_ok-say_answered.ensures
    ∙ (λ i. c.args.out.now ++ delivered_line c.args.number (answer_words (c.verdict_word.ensures i) (length (c.self.view_is i).messages + 1))))

pub returns-clause-names : goal.returns-clause-names
returns-clause-names c =
    let old : OfficeState = c.args.self.now in
    let report = c.args.report in
    let place = c.relay_place-place.result in
    let entry : List ℕ × RelayState = c.index_mut.result.now in
    let is : entry ≡ get_or old.relays place entry =
    c.index_mut.ensures.value ∙ ap (λ (o : OfficeState). get_or o.relays place entry) c.self.view_is in
    let w : RelayState = after_up entry.1 report in
    let item : (c.behind-self.inside.name, c.up.new.self) ≡ (entry.0, w) =
    ap (λ (r : RelayState). (c.behind-self.inside.name, r)) c.in-Told.ensures.1
    ∙ ap (λ (e : List ℕ × RelayState). (e.0, after_up e.1 report)) c.behind-self.view_is in
    let changed = relay_changed _ old place entry _ w c.self.view_is item in
    keeps_relay c.args.relay.now (kept_of old) _ place entry w c.relay_place-place.ensures is (ap (λ (o : KeptOffice). o.computers) changed)
    (ap (λ (o : KeptOffice). o.relays) changed)
