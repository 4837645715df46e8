use Rattle.std.proofs.Common.{◌≡◌, take}
use Rattle.server_text.proofs.site_versions.SiteVersions.copy.Given as goal

abbrev pub invariant-loop-site : goal.invariant-loop-site
invariant-loop-site l = l.copies.items ≡ take l.site-index l.site-items
