use Rattle.std.proofs.Common.{◌≡◌, ◌++◌, ◌∷◌, [], List, IsTrue, ap, ◌∙◌, subst, sym}
use Rattle.server_text.specs.declared.site_versions.SiteVersion.{SiteVersion}
use Rattle.desk_rounds.specs.Listing.{IsBehindLast, listed_line, listed_site}
use Rattle.desk_rounds.specs.Replies.{AreListed}
use Rattle.desk_rounds.proofs.Listing.{listed_one, listed_push, pushed_behind, pushed_listed}
use Rattle.desk_rounds.proofs.listed.take_version.Goals as goal

pub returns-in_default : goal.returns-in_default
returns-in_default c = λ site is are. c.in_default.ensures site (pushed_listed c.args.sites.now site are) is

pub returns-then-not-comes_behind : goal.returns-then-not-comes_behind
returns-then-not-comes_behind c = λ site is are.
    let named = listed_site c.in-Some.site in
    let same : named ≡ site = listed_one named site c.in-Some.ensures.0 (pushed_listed c.args.sites.now site are) (sym c.in-Some.ensures.1 ∙ is) in
    let name : site.name ≡ named.name = ap (λ (s : SiteVersion). s.name) (sym same) in
    let behind : IsBehindLast c.args.sites.now named.name =
    subst (IsBehindLast c.args.sites.now) name (pushed_behind c.args.sites.now site are) in
    let comes : IsTrue c.comes_behind.result =
    c.comes_behind.ensures.1 (subst (λ (l : List SiteVersion). IsBehindLast l named.name) (sym c.as_slice.ensures) behind) in
    cc (comes, c.if-not-comes_behind.true)

pub returns : goal.returns
returns c =
    let named = listed_site c.in-Some.site in
    let site : SiteVersion = record { name = c.in_ok-name.name; version = c.in-Some.site.version } in
    let is : site ≡ named = λ i. record { name = c.in_ok-name.ensures i; version = c.in-Some.site.version } in
    let pushed : c.push.new.self ≡ c.args.sites.now ++ site ∷ [] = c.in_ok-push.ensures.ok in
    let comes : IsTrue c.comes_behind.result = cc in
    let behind : IsBehindLast c.args.sites.now named.name =
    subst (λ (l : List SiteVersion). IsBehindLast l named.name) c.as_slice.ensures (c.comes_behind.ensures.0 comes) in (
      site,
      c.in-Some.ensures.1 ∙ ap listed_line (sym is),
      pushed,
      subst AreListed (sym pushed)
          (subst (λ (s : SiteVersion). AreListed (c.args.sites.now ++ s ∷ [])) (sym is)
          (listed_push c.args.sites.now named c.requires c.in-Some.ensures.0 behind)),
    )
