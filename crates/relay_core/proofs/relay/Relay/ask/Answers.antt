use Rattle.std.proofs.Common.{◌≡◌, sym, ap, ◌∙◌, subst, arith}
use Rattle.std.specs.List.{Contains}
use Rattle.fix_site.specs.declared.site.Site.{Site}
use Rattle.relay_core.specs.Relays.{RelayState}
use Rattle.relay_core.specs.KeptSites.{IsKept}
use Rattle.relay_core.proofs.SiteLemmas.{one_kept}
use Rattle.relay_core.proofs.relay.Relay.ask.Goals as goal
use Rattle.relay_core.proofs.relay.Relay.ask.Goals.{in_default-via-in-Some+else-version-site, in_default-via-in_default}

pub returns-in_default : goal.returns-in_default
returns-in_default c kept is =
    let sites = c.self.inside.sites in
    let other : IsKept sites c.as_str.result.now kept = (subst (λ (s : RelayState). Contains s.sites kept) (sym c.self.view_is) is.0, is.1 ∙ sym c.as_str.ensures) in
    elim c.in_default.branch [
      | in_default-via-in-Some+else-version-site w ↦
          let same : kept.version ≡ w.in-Some.site.now.version = ap (λ (s : Site). s.version) (one_kept sites c.as_str.result.now w.in-Some.site.now kept c.get.ensures.kept w.in-Some.ensures.found.0 other) in
          omega (arith, w.if-version-site.false)
      | in_default-via-in_default w ↦ absurd (w.in_default.ensures.found kept other)
    ]
