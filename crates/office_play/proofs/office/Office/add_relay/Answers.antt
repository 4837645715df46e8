use Rattle.std.proofs.Common.{◌≡◌, [], ◌∷◌, ◌++◌, length, arith, ap, ◌∙◌}
use Rattle.bf_world.specs.Maps.{put}
use Rattle.relay_core.specs.Relays.{RelayState, desk_queue, empty_relay}
use Rattle.office_play.specs.States.{OfficeState, kept_of}
use Rattle.office_play.proofs.NewNames.{adds_relay, names_relay, relay_named}
use Rattle.office_play.proofs.office.Office.add_relay.Goals as goal

pub returns-clause-plays : goal.returns-clause-plays
returns-clause-plays c =
    let i = c.self.inside in
    let name = c.args.name in
    let pushed : c.push.new.self.items ≡ i.relays.items ++ (name, empty_relay desk_queue) ∷ [] =
    c.in_ok-push.ensures.items ∙ ap (λ (r : RelayState). i.relays.items ++ (name, r) ∷ []) c.of_the_desk.ensures in
    let places : c.put.new.self ≡ put name c.len-place.result i.relay_places =
    c.in_ok-put.ensures.ok ∙ ap (λ n. put n c.len-place.result i.relay_places) c.as_str.ensures in
    let at : c.len-place.result ≡ length i.relays.items = omega (arith, c.len-place.ensures, i.relays.ok.0) in
    names_relay (kept_of c.args.self.now) _ name c.args.out.now c.requires.good c.requires.free
    (relay_named _ c.args.self.now name c.push.new.self.items c.put.new.self c.len-place.result c.self.view_is pushed places at)

pub returns-clause-names : goal.returns-clause-names
returns-clause-names c =
    let i = c.self.inside in
    let name = c.args.name in
    let pushed : c.push.new.self.items ≡ i.relays.items ++ (name, empty_relay desk_queue) ∷ [] =
    c.in_ok-push.ensures.items ∙ ap (λ (r : RelayState). i.relays.items ++ (name, r) ∷ []) c.of_the_desk.ensures in
    adds_relay (kept_of c.args.self.now) _ name (empty_relay desk_queue)
    (pushed ∙ ap (λ (o : OfficeState). o.relays ++ (name, empty_relay desk_queue) ∷ []) c.self.view_is)
    (ap (λ (o : OfficeState). (kept_of o).computers) c.self.view_is)
