use Rattle.std.proofs.Common.{◌≡◌, Some, None, sym, ap, subst, ◌∙◌}
use Rattle.std.specs.List.{position}
use Rattle.std.specs.Str.{bytes_eq}
use Rattle.fix_site.specs.declared.site.Site.{Site}
use Rattle.agent_state.specs.Changes.{with_site}
use Rattle.agent_state.specs.States.{AreGathered}
use Rattle.agent_state.proofs.SiteActions.{gathered_with}
use Rattle.agent_state.proofs.SiteLists.{no_place, placed_site, pushed_site}
use Rattle.agent_state.proofs.site_list.SiteList.keep.Goals as goal

pub invariant_of-self : goal.invariant_of-self
invariant_of-self c =
    let site : Site = c.args.site in
    let items = c.self.inside.sites.items in
    let placed : position (λ (x : Site). bytes_eq x.name site.name) items ≡ Some c.in-Some.place =
    (λ j. position (λ (x : Site). bytes_eq x.name (sym c.name.ensures j)) (sym c.as_slice.ensures.value j)) ∙ sym c.in-Some.ensures in
    subst AreGathered (sym (placed_site site c.in-Some.place items placed)) (gathered_with site items c.requires c.self.invariant)

pub invariant_of-self-in-None : goal.invariant_of-self-in-None
invariant_of-self-in-None c =
    let site : Site = c.args.site in
    let items = c.self.inside.sites.items in
    let none : position (λ (x : Site). bytes_eq x.name site.name) items ≡ None =
    (λ j. position (λ (x : Site). bytes_eq x.name (sym c.name.ensures j)) (sym c.as_slice.ensures.value j)) ∙ sym c.in-None.ensures in
    subst AreGathered (sym (c.in_ok-push-in-None.ensures.items ∙ pushed_site site items (no_place site items none))) (gathered_with site items c.requires c.self.invariant)

pub returns-in-Some-clause-ok : goal.returns-in-Some-clause-ok
returns-in-Some-clause-ok c =
    let site : Site = c.args.site in
    let items = c.self.inside.sites.items in
    let placed : position (λ (x : Site). bytes_eq x.name site.name) items ≡ Some c.in-Some.place =
    (λ j. position (λ (x : Site). bytes_eq x.name (sym c.name.ensures j)) (sym c.as_slice.ensures.value j)) ∙ sym c.in-Some.ensures in
    placed_site site c.in-Some.place items placed ∙ ap (with_site site) c.self.view_is

pub returns-in_ok-push-in-None-clause-ok : goal.returns-in_ok-push-in-None-clause-ok
returns-in_ok-push-in-None-clause-ok c =
    let site : Site = c.args.site in
    let items = c.self.inside.sites.items in
    let none : position (λ (x : Site). bytes_eq x.name site.name) items ≡ None =
    (λ j. position (λ (x : Site). bytes_eq x.name (sym c.name.ensures j)) (sym c.as_slice.ensures.value j)) ∙ sym c.in-None.ensures in
    c.in_ok-push-in-None.ensures.items ∙ pushed_site site items (no_place site items none) ∙ ap (with_site site) c.self.view_is
