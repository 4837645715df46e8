use Rattle.std.proofs.Common.{rules}
use Rattle.std.specs.Ordering.{nat_cmp}
use Rattle.std.specs.Cmp.Lexicographic.{slice_cmp}
use Rattle.std.proofs.lemmas.Fn.{always_returns_same}
use Rattle.fix_site.specs.declared.site.Site.{Site}
use Rattle.relay_core.proofs.SiteLemmas.{searched}
use Rattle.relay_core.proofs.site_list.SiteList.place.Goals as goal

pub returns : goal.returns
returns c =
    let facts = c.binary_search_by.ensures in
    let by_name = facts.position (λ (site : Site). slice_cmp nat_cmp site.name c.args.name.now) (always_returns_same _ _ _ (λ a r g called. (search rules, search rules))) in
    rw (← c.self.view_is, ← c.as_slice.ensures.value) (searched _ _ _ (rw c.as_slice.ensures.value c.self.invariant) facts.bound by_name)
