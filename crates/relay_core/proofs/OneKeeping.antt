-- What comes of a site that a relay is to keep is one thing. Other crates may cite these lemmas.
use Rattle.std.proofs.Common.{◌≡◌, ◌≢◌, ℕ, ◌<◌, ◌≤◌, refl, sym, ap, ◌∙◌, subst, arith}
use Rattle.report_text.specs.declared.answer.Gathered.{Gathered}
use Rattle.report_text.specs.declared.answer.Gathered.TheVariants as gathered
use Rattle.fix_site.specs.declared.site.Site.{Site}
use Rattle.fix_site.specs.Sites.{IsSite}
use Rattle.relay_core.specs.Relays.{RelayState}
use Rattle.relay_core.specs.KeptSites.{AreKept, IsKept, KeepsSite, with_site}
use Rattle.relay_core.proofs.SiteLemmas.{kept_with, one_kept}

-- a site isn't kept where a kept one of its name has no lower version
not_both : (version kept : ℕ) → kept < version → version ≤ kept → ⊥
not_both version kept low high = omega (arith, low, high)

-- a kept version that is answered isn't lower, so that it is not below
not_new : (old : RelayState) (site : Site) (version : ℕ) → ((kept : Site) → IsKept old.sites site.name kept → kept.version < site.version)
    → ((kept : Site) × IsKept old.sites site.name kept × (version ≡ kept.version) × (site.version ≤ version)) → ⊥
not_new old site version below (kept, here, is, high) =
    not_both site.version kept.version (below kept here) (subst (λ (n : ℕ). site.version ≤ n) is high)

pub keeps_once : (old new other : RelayState) (site : Site) (answer otherwise : Gathered) → AreKept old.sites → KeepsSite old site answer new
    → KeepsSite old site otherwise other → answer ≢ gathered.Memory → otherwise ≢ gathered.Memory → (answer ≡ otherwise) × (new ≡ other)
keeps_once old new other site gathered.New gathered.New are p q ample ample' = (refl, p.1 ∙ sym q.1)
keeps_once old new other site gathered.New (gathered.Older version) are p q ample ample' = absurd (not_new old site version p.0 q.0)
keeps_once old new other site gathered.New gathered.Memory are p q ample ample' = absurd (ample' refl)
keeps_once old new other site (gathered.Older version) gathered.New are p q ample ample' = absurd (not_new old site version q.0 p.0)
keeps_once old new other site (gathered.Older version) (gathered.Older version') are (found, same) (found', same') ample ample' =
    let kept : found'.0 ≡ found.0 = one_kept old.sites site.name found.0 found'.0 are found.1 found'.1 in
    (ap gathered.Older (found.2 ∙ sym (ap (λ (s : Site). s.version) kept) ∙ sym found'.2), same ∙ sym same')
keeps_once old new other site (gathered.Older version) gathered.Memory are p q ample ample' = absurd (ample' refl)
keeps_once old new other site gathered.Memory otherwise are p q ample ample' = absurd (ample refl)

pub stays_kept : (old new : RelayState) (site : Site) (answer : Gathered) → AreKept old.sites → IsSite site → KeepsSite old site answer new
    → AreKept new.sites
stays_kept old new site gathered.New are good p =
    subst (λ (r : RelayState). AreKept r.sites) (sym p.1) (kept_with old.sites site are good)
stays_kept old new site (gathered.Older version) are good p = subst (λ (r : RelayState). AreKept r.sites) (sym p.1) are
stays_kept old new site gathered.Memory are good p = subst (λ (r : RelayState). AreKept r.sites) (sym p) are
