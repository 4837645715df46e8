use Rattle.std.proofs.Common.{◌≡◌, take}
use Rattle.std.specs.Prelude.{map}
use Rattle.desk_hosts.specs.RelayCalls.{version_of}
use Rattle.desk_hosts.proofs.site_list.versions_of.Given as goal

-- the versions of the sites so far
abbrev pub invariant-loop-site : goal.invariant-loop-site
invariant-loop-site l = l.versions ≡ map version_of (take l.site-index l.sites)
