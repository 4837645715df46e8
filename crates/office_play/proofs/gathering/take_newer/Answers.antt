use Rattle.std.proofs.Common.{◌≡◌, ◌<◌, List, ℕ, ◌++◌, refl, sym, ap, subst, ◌∙◌}
use Rattle.std.proofs.lemmas.Result.{on_ok_weaker}
use Rattle.report_text.specs.declared.answer.Gathered.TheVariants as gathered
use Rattle.fix_site.specs.declared.site.Site.{Site}
use Rattle.relay_core.specs.KeptSites.{AreKept, KeepsSite}
use Rattle.relay_core.specs.Relays.{RelayState}
use Rattle.agent_attempt.specs.ActionContents.{site_at}
use Rattle.agent_state.specs.Changes.{kept_version}
use Rattle.server_text.specs.declared.reply.Reply.{Reply}
use Rattle.server_text.specs.declared.reply.Reply.TheVariants as told
use Rattle.server_text.specs.Entries.{SiteText}
use Rattle.server_core.specs.DeskLimits.{desk_limits}
use Rattle.server_core.specs.Replies.{reply}
use Rattle.office_rules.specs.OfficeLines.{gathered_line}
use Rattle.office_rules.specs.RelayWords.{TakesText}
use Rattle.office_play.proofs.Gathers.{newer_than_kept, reads_one}
use Rattle.office_play.proofs.gathering.take_newer.Goals as goal

pub answered_site-requires : goal.answered_site-requires
answered_site-requires c =
    let has = c.requires.accepted in
    let replied : reply has.0 desk_limits (SiteText c.args.site.now.name c.kept_version-kept.result) ≡ told.Site c.in-Site.text =
    sym (c.in_ok-text.ensures.reply has.0 has.1) ∙ c.in-Site.is in
    let there = c.an_answered_site_is_read.ensures.site has.0 desk_limits c.args.site.now.name c.kept_version-kept.result c.in-Site.text has.1.are_accepted replied in
    (there.0, there.1)

pub keep-requires-clause-newer : goal.keep-requires-clause-newer
keep-requires-clause-newer c =
    let has = c.requires.accepted in
    let name = c.args.site.now.name in
    let site : Site = c.in_ok-site.site in
    let sites = c.relay.inside.relay.sites in
    let replied : reply has.0 desk_limits (SiteText name c.kept_version-kept.result) ≡ told.Site c.in-Site.text =
    sym (c.in_ok-text.ensures.reply has.0 has.1) ∙ c.in-Site.is in
    let there = c.an_answered_site_is_read.ensures.site has.0 desk_limits name c.kept_version-kept.result c.in-Site.text has.1.are_accepted replied in
    let same : there.0 ≡ site = reads_one c.one_reading.ensures c.in-Site.text there.0 site there.1 c.in_ok-site.ensures.1 in
    let named : site.name ≡ name = ap (λ (s : Site). s.name) (sym same) ∙ there.2 in
    let greater : kept_version (site_at name sites) < site.version =
    subst (λ n. n < site.version) c.kept_version-kept.ensures (subst (λ (s : Site). c.kept_version-kept.result < s.version) same there.3) in
    let are : AreKept sites = subst (λ (r : List ℕ × RelayState). AreKept r.1.sites) (sym c.relay.view_is) c.requires.kept in
    newer_than_kept sites name site are named greater

pub returns-clause-takes : goal.returns-clause-takes
returns-clause-takes c =
    let name = c.args.site.now.name in
    let relay = c.args.relay.now in
    let site : Site = c.in_ok-site.site in
    let out : List ℕ = c.args.out.now in
    let new : RelayState = c.keep.new.relay in
    let told_version : c.kept_version-kept.result ≡ kept_version (site_at name relay.1.sites) =
    c.kept_version-kept.ensures ∙ ap (λ (r : List ℕ × RelayState). kept_version (site_at name r.1.sites)) c.relay.view_is in
    let keeps : KeepsSite relay.1 site gathered.New new =
    subst (λ (r : List ℕ × RelayState). KeepsSite r.1 site gathered.New new) c.relay.view_is c.in_ok-keep.ensures.ok in
    let line : List ℕ = gathered_line relay.0 site.name site.version in
    on_ok_weaker c.say_about.result
    (λ said accepted are.
    let replied : reply accepted desk_limits (SiteText name (kept_version (site_at name relay.1.sites))) ≡ told.Site c.in-Site.text =
    sym (ap (λ n. reply accepted desk_limits (SiteText name n)) told_version) ∙ sym (c.in_ok-text.ensures.reply accepted are) ∙ c.in-Site.is in (
      line,
      subst (λ (r : Reply). TakesText relay.0 r relay.1 line new) (sym replied) (site, c.in_ok-site.ensures.1, keeps, refl),
      said ∙ (λ i. out ++ gathered_line ((c.as_str.ensures ∙ ap (λ (r : List ℕ × RelayState). r.0) c.relay.view_is) i) (c.as_str-2.ensures i) site.version),
    ))
    c.say_about.ensures

pub returns-clause-kept : goal.returns-clause-kept
returns-clause-kept c = on_ok_weaker c.say_about.result (λ said. c.in_ok-keep.ensures.kept) c.say_about.ensures
