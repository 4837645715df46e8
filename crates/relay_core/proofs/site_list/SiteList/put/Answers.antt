use Rattle.std.proofs.Common.{sym, ap, ◌∙◌, subst}
use Rattle.relay_core.specs.KeptSites.{AreKept, with_site}
use Rattle.relay_core.proofs.SiteLemmas.{kept_with, written, put_in}
use Rattle.relay_core.proofs.site_list.SiteList.put.Goals as goal

pub invariant_of-self : goal.invariant_of-self
invariant_of-self c =
    let sites = c.self.inside.sites.items in
    subst AreKept (sym (written sites _ c.in-Ok.place c.args.site (rw c.self.view_is c.in-Ok.ensures) c.as_str.ensures))
    (kept_with sites c.args.site c.self.invariant c.requires)

pub invariant_of-self-in-Err : goal.invariant_of-self-in-Err
invariant_of-self-in-Err c =
    let sites = c.self.inside.sites.items in
    rw c.in_ok-insert-in-Err.ensures.items (subst AreKept (sym (put_in sites _ c.in-Err.place c.args.site (rw c.self.view_is c.in-Err.ensures) c.as_str.ensures))
    (kept_with sites c.args.site c.self.invariant c.requires))

pub returns-in-Ok-clause-ok : goal.returns-in-Ok-clause-ok
returns-in-Ok-clause-ok c =
    written c.self.inside.sites.items _ c.in-Ok.place c.args.site (rw c.self.view_is c.in-Ok.ensures) c.as_str.ensures ∙ ap (with_site c.args.site) c.self.view_is
