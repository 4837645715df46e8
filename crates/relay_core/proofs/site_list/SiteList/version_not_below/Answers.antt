use Rattle.std.proofs.Common.{◌≡◌, ap, arith}
use Rattle.fix_site.specs.declared.site.Site.{Site}
use Rattle.relay_core.proofs.SiteLemmas.{one_kept}
use Rattle.relay_core.proofs.site_list.SiteList.version_not_below.Goals as goal

pub returns-in_default : goal.returns-in_default
returns-in_default c kept is =
    let same : kept.version ≡ c.in-Some.kept.now.version =
    ap (λ (s : Site). s.version) (one_kept c.args.self.now c.args.name.now c.in-Some.kept.now kept c.get.ensures.kept c.in-Some.ensures.found.0 is) in
    omega (arith, c.if-version-kept.false)

pub returns-in_default-2 : goal.returns-in_default-2
returns-in_default-2 c kept is = absurd ((rw c.in_default.is at c.get.ensures.found) kept is)
