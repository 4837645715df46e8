use Rattle.std.proofs.Common.{◌≡◌, List, ℕ, [], ◌∷◌, ◌++◌, length, codes, inl, inr, arith, refl, sym, ap, subst, ◌∙◌}
use Rattle.std.specs.Prelude.{get_or}
use Rattle.std.proofs.lemmas.Result.{on_ok_weaker}
use Rattle.relay_core.specs.Relays.{RelayState}
use Rattle.server_text.specs.declared.reply.Reply.{Reply}
use Rattle.server_text.specs.declared.reply.Reply.TheVariants as told
use Rattle.server_text.specs.declared.request.Request.TheVariants as request
use Rattle.server_text.specs.declared.site_versions.SiteVersion.{SiteVersion}
use Rattle.office_rules.specs.OfficeLines.{nothing_line}
use Rattle.office_play.specs.Gathering.{TakesEachOver}
use Rattle.office_play.specs.Kept.{HasAccepted, KeptOffice}
use Rattle.office_play.specs.Links.{IsGoodRelay}
use Rattle.office_play.specs.Played.{AnswersOver}
use Rattle.office_play.specs.States.{OfficeState, kept_of}
use Rattle.office_play.proofs.GatherWord.{gathered_seen, gathers, rows_stay, sites_told}
use Rattle.office_play.proofs.Names.{keeps_relay}
use Rattle.office_play.proofs.Places.{named_holds}
use Rattle.office_play.proofs.office.Office.gather.Goals as goal

pub unreachable-requires : goal.unreachable-requires
unreachable-requires c =
    let old : OfficeState = c.args.self.now in
    let answers : AnswersOver old.rows request.AskSites c.in_ok-sites.field-0 c.answer.new.keeper =
    subst (λ (o : OfficeState). AnswersOver o.rows request.AskSites c.in_ok-sites.field-0 c.answer.new.keeper) c.self.view_is c.in_ok-sites.ensures.answers in
    let some = sites_told old.rows c.answer.new.keeper c.in_ok-sites.field-0 answers c.requires.accepted in
    absurd (c.in_default.not-Sites some.0 some.1)

pub take_each-requires : goal.take_each-requires
take_each-requires c =
    let old : OfficeState = c.args.self.now in
    let place = c.relay_place-place.result in
    let entry : List ℕ × RelayState = c.index_mut-relay.result.now in
    let is : entry ≡ get_or old.relays place entry =
    c.index_mut-relay.ensures.value ∙ ap (λ (o : OfficeState). get_or o.relays place entry) c.self.view_is in
    let answers : AnswersOver old.rows request.AskSites (told.Sites c.in-Sites.sites) c.answer.new.keeper =
    subst (λ (r : Reply). AnswersOver old.rows request.AskSites r c.answer.new.keeper) c.in-Sites.is
    (subst (λ (o : OfficeState). AnswersOver o.rows request.AskSites c.in_ok-sites.field-0 c.answer.new.keeper) c.self.view_is c.in_ok-sites.ensures.answers) in
    let good = named_holds (λ (e : List ℕ × RelayState). IsGoodRelay (kept_of old).computers e.1) c.args.name.now old.relays place entry c.relay_place-place.ensures is
    c.requires.good.relays in
    record {
      accepted = subst HasAccepted (sym (rows_stay old.rows c.answer.new.keeper (told.Sites c.in-Sites.sites) answers c.requires.accepted)) c.requires.accepted;
      kept = good.sites;
    }

pub returns-then-as_slice-before-clause-plays : goal.returns-then-as_slice-before-clause-plays
returns-then-as_slice-before-clause-plays c =
    let old : OfficeState = c.args.self.now in
    let place = c.relay_place-place.result in
    let entry : List ℕ × RelayState = c.index_mut-relay.result.now in
    let is : entry ≡ get_or old.relays place entry =
    c.index_mut-relay.ensures.value ∙ ap (λ (o : OfficeState). get_or o.relays place entry) c.self.view_is in
    let answers : AnswersOver old.rows request.AskSites (told.Sites c.in-Sites.sites) c.answer.new.keeper =
    subst (λ (r : Reply). AnswersOver old.rows request.AskSites r c.answer.new.keeper) c.in-Sites.is
    (subst (λ (o : OfficeState). AnswersOver o.rows request.AskSites c.in_ok-sites.field-0 c.answer.new.keeper) c.self.view_is c.in_ok-sites.ensures.answers) in
    let took = c.in_ok-take_each.ensures in
    let takes = subst (λ (l : List SiteVersion). TakesEachOver entry.0 c.answer.new.keeper l entry.1 c.args.out.now c.take_each.new.relay.1 c.take_each.new.out) c.as_slice.ensures took.takes in
    let item = took.rest ∙ ap (λ (r : RelayState). (entry.0, r)) (sym (ap (λ (e : List ℕ × RelayState). e.1) took.rest)) in
    let new = gathered_seen _ old place entry c.take_each.new.relay c.take_each.new.relay.1 c.answer.new.keeper c.take_each.new.keeper c.self.view_is item took.rows in
    let first = ap length c.as_slice-before.ensures in
    let second = ap length c.as_slice-2.ensures in
    let tested = c.if-as_slice-before.true in
    gathers (kept_of old) _ c.args.name.now place entry c.take_each.new.relay.1 c.in-Sites.sites c.answer.new.keeper c.args.out.now c.take_each.new.out _
    c.relay_place-place.ensures is c.requires.good c.requires.accepted took.kept (ap (λ (r : List ℕ × RelayState). r.1) took.rest) answers takes
    (inl (omega (arith, first, second, tested), refl)) new

pub returns-then-as_slice-before-clause-names : goal.returns-then-as_slice-before-clause-names
returns-then-as_slice-before-clause-names c =
    let old : OfficeState = c.args.self.now in
    let place = c.relay_place-place.result in
    let entry : List ℕ × RelayState = c.index_mut-relay.result.now in
    let is : entry ≡ get_or old.relays place entry =
    c.index_mut-relay.ensures.value ∙ ap (λ (o : OfficeState). get_or o.relays place entry) c.self.view_is in
    let took = c.in_ok-take_each.ensures in
    let item = took.rest ∙ ap (λ (r : RelayState). (entry.0, r)) (sym (ap (λ (e : List ℕ × RelayState). e.1) took.rest)) in
    let new = gathered_seen _ old place entry c.take_each.new.relay c.take_each.new.relay.1 c.answer.new.keeper c.take_each.new.keeper c.self.view_is item took.rows in
    keeps_relay c.args.name.now (kept_of old) _ place entry c.take_each.new.relay.1 c.relay_place-place.ensures is
    (ap (λ (o : KeptOffice). o.computers) new) (ap (λ (o : KeptOffice). o.relays) new)

pub returns-clause-plays : goal.returns-clause-plays
returns-clause-plays c =
    let old : OfficeState = c.args.self.now in
    let place = c.relay_place-place.result in
    let entry : List ℕ × RelayState = c.index_mut-relay.result.now in
    let is : entry ≡ get_or old.relays place entry =
    c.index_mut-relay.ensures.value ∙ ap (λ (o : OfficeState). get_or o.relays place entry) c.self.view_is in
    let answers : AnswersOver old.rows request.AskSites (told.Sites c.in-Sites.sites) c.answer.new.keeper =
    subst (λ (r : Reply). AnswersOver old.rows request.AskSites r c.answer.new.keeper) c.in-Sites.is
    (subst (λ (o : OfficeState). AnswersOver o.rows request.AskSites c.in_ok-sites.field-0 c.answer.new.keeper) c.self.view_is c.in_ok-sites.ensures.answers) in
    let took = c.in_ok-take_each.ensures in
    let takes = subst (λ (l : List SiteVersion). TakesEachOver entry.0 c.answer.new.keeper l entry.1 c.args.out.now c.take_each.new.relay.1 c.take_each.new.out) c.as_slice.ensures took.takes in
    let item = took.rest ∙ ap (λ (r : RelayState). (entry.0, r)) (sym (ap (λ (e : List ℕ × RelayState). e.1) took.rest)) in
    let new = gathered_seen _ old place entry c.take_each.new.relay c.take_each.new.relay.1 c.answer.new.keeper c.take_each.new.keeper c.self.view_is item took.rows in
    let first = ap length c.as_slice-before.ensures in
    let second = ap length c.as_slice-2.ensures in
    let tested = c.if-as_slice-before.false in
    on_ok_weaker c.say_about.result
    (λ said. gathers (kept_of old) _ c.args.name.now place entry c.take_each.new.relay.1 c.in-Sites.sites c.answer.new.keeper c.args.out.now c.take_each.new.out _
    c.relay_place-place.ensures is c.requires.good c.requires.accepted took.kept (ap (λ (r : List ℕ × RelayState). r.1) took.rest) answers takes
    (inr (omega (arith, first, second, tested), said ∙ ap (λ n. c.take_each.new.out ++ nothing_line (codes "gather" ∷ n ∷ [])) c.as_str.ensures)) new)
    c.say_about.ensures

pub returns-clause-names : goal.returns-clause-names
returns-clause-names c =
    let old : OfficeState = c.args.self.now in
    let place = c.relay_place-place.result in
    let entry : List ℕ × RelayState = c.index_mut-relay.result.now in
    let is : entry ≡ get_or old.relays place entry =
    c.index_mut-relay.ensures.value ∙ ap (λ (o : OfficeState). get_or o.relays place entry) c.self.view_is in
    let took = c.in_ok-take_each.ensures in
    let item = took.rest ∙ ap (λ (r : RelayState). (entry.0, r)) (sym (ap (λ (e : List ℕ × RelayState). e.1) took.rest)) in
    let new = gathered_seen _ old place entry c.take_each.new.relay c.take_each.new.relay.1 c.answer.new.keeper c.take_each.new.keeper c.self.view_is item took.rows in
    on_ok_weaker c.say_about.result
    (λ said. keeps_relay c.args.name.now (kept_of old) _ place entry c.take_each.new.relay.1 c.relay_place-place.ensures is
    (ap (λ (o : KeptOffice). o.computers) new) (ap (λ (o : KeptOffice). o.relays) new))
    c.say_about.ensures
