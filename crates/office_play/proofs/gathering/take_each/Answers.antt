use Rattle.std.proofs.Common.{◌≡◌, List, ℕ, ◌<◌, ◌≤◌, length, refl, sym, ap, subst, ◌∙◌, arith}
use Rattle.desk_keep.specs.declared.change.Change.{Change}
use Rattle.relay_core.specs.Relays.{RelayState}
use Rattle.office_play.specs.Gathering.{TakesEachOver, TakesOver}
use Rattle.office_play.specs.Kept.{HasAccepted}
use Rattle.std.proofs.lemmas.List.{drop_all}
use Rattle.office_play.proofs.Gathers.{takes_next, takes_none}
use Rattle.office_play.proofs.gathering.take_each.Goals as goal

pub loop-site-init : goal.loop-site-init
loop-site-init c = record { rest = refl; kept = c.requires.kept; rows = refl; takes = λ new then h. h }

pub take_newer-requires : goal.take_newer-requires
take_newer-requires c = record {
  accepted = subst HasAccepted (sym c.loop-site.invariant.rows) c.requires.accepted;
  kept = c.loop-site.invariant.kept;
}

pub loop-site-preserved : goal.loop-site-preserved
loop-site-preserved c =
    let so = c.loop-site.invariant in
    let name = c.args.relay.now.0 in
    let rows : List Change = c.args.keeper.now in
    let old : RelayState = c.loop-site.relay.1 in
    let new : RelayState = c.take_newer.new.relay.1 in
    let site = c.site-item.result in
    let own : c.loop-site.relay.0 ≡ name = ap (λ (r : List ℕ × RelayState). r.0) so.rest in
    let within : c.loop-site.site-index < length c.args.sites.now = search (arith, c.loop-site-test.true) in
    let took : TakesOver name rows site.name old c.loop-site.out new c.take_newer.new.out =
    subst (λ n. TakesOver n rows site.name old c.loop-site.out new c.take_newer.new.out) own
    (subst (λ (r : List Change). TakesOver c.loop-site.relay.0 r site.name old c.loop-site.out new c.take_newer.new.out) so.rows c.in_ok-take_newer.ensures.takes) in
    record {
      rest = c.in_ok-take_newer.ensures.rest ∙ ap (λ (r : List ℕ × RelayState). (r.0, record r.1 { sites = new.sites })) so.rest;
      kept = c.in_ok-take_newer.ensures.kept;
      rows = c.in_ok-take_newer.ensures.rows ∙ so.rows;
      takes = takes_next name rows c.args.sites.now c.args.relay.now.1 new old c.args.out.now c.loop-site.out c.take_newer.new.out c.loop-site.site-index site within
          c.site-item.is so.takes took;
    }

pub returns-clause-takes : goal.returns-clause-takes
returns-clause-takes c =
    let so = c.loop-site.invariant in
    let name = c.args.relay.now.0 in
    let rows : List Change = c.args.keeper.now in
    let past : length c.args.sites.now ≤ c.loop-site.site-index = search (arith, c.loop-site-test.false) in
    so.takes c.loop-site.relay.1 c.loop-site.out
    (subst (λ l. TakesEachOver name rows l c.loop-site.relay.1 c.loop-site.out c.loop-site.relay.1 c.loop-site.out) (sym (drop_all c.loop-site.site-index c.args.sites.now past))
    (takes_none name rows c.loop-site.relay.1 c.loop-site.out))
