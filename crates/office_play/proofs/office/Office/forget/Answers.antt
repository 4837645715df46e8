use Rattle.std.proofs.Common.{◌≡◌, List, ℕ, [], ◌∷◌, ◌++◌, codes, ap, ◌∙◌}
use Rattle.std.specs.Prelude.{get_or}
use Rattle.std.proofs.lemmas.Result.{on_ok_weaker}
use Rattle.relay_core.specs.Relays.{RelayState, desk_queue, empty_relay}
use Rattle.office_rules.specs.OfficeLines.{words_line}
use Rattle.office_play.specs.States.{OfficeState, kept_of}
use Rattle.office_play.proofs.ComputerWords.{forgets}
use Rattle.office_play.proofs.Names.{keeps_relay_set}
use Rattle.office_play.proofs.Seen.{relay_changed}
use Rattle.office_play.proofs.office.Office.forget.Goals as goal

pub returns-clause-plays : goal.returns-clause-plays
returns-clause-plays c =
    let old : OfficeState = c.args.self.now in
    let place = c.relay_place-place.result in
    let entry : List ℕ × RelayState = c.index_mut.result.now in
    let is : entry ≡ get_or old.relays place entry =
    c.index_mut.ensures.value ∙ ap (λ (o : OfficeState). get_or o.relays place entry) c.self.view_is in
    let item : (c.behind-self.inside.name, c.of_the_desk.result) ≡ (entry.0, empty_relay desk_queue) =
    λ i. (ap (λ (e : List ℕ × RelayState). e.0) c.behind-self.view_is i, c.of_the_desk.ensures i) in
    on_ok_weaker c.say_words.result
    (λ said. forgets (kept_of old) _ c.args.name.now place entry c.args.out.now _ c.relay_place-place.ensures is c.requires.good
    (said ∙ ap (λ n. c.args.out.now ++ words_line (codes "forget" ∷ n ∷ [])) c.as_str.ensures)
    (relay_changed _ old place entry _ (empty_relay desk_queue) c.self.view_is item))
    c.say_words.ensures

pub returns-clause-names : goal.returns-clause-names
returns-clause-names c =
    let old : OfficeState = c.args.self.now in
    let place = c.relay_place-place.result in
    let entry : List ℕ × RelayState = c.index_mut.result.now in
    let is : entry ≡ get_or old.relays place entry =
    c.index_mut.ensures.value ∙ ap (λ (o : OfficeState). get_or o.relays place entry) c.self.view_is in
    let item : (c.behind-self.inside.name, c.of_the_desk.result) ≡ (entry.0, empty_relay desk_queue) =
    λ i. (ap (λ (e : List ℕ × RelayState). e.0) c.behind-self.view_is i, c.of_the_desk.ensures i) in
    on_ok_weaker c.say_words.result
    (λ said. keeps_relay_set c.args.name.now (kept_of old) _ place entry (empty_relay desk_queue) c.relay_place-place.ensures is
    (relay_changed _ old place entry _ (empty_relay desk_queue) c.self.view_is item))
    c.say_words.ensures
