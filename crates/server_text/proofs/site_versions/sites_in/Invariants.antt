use Rattle.std.proofs.Common.{◌≡◌, take}
use Rattle.std.specs.Prelude.{filter_map}
use Rattle.server_text.specs.ToldRows.{site_version}
use Rattle.server_text.proofs.site_versions.sites_in.Given as goal

-- the sites of the rows so far
abbrev pub invariant-loop-row : goal.invariant-loop-row
invariant-loop-row l = l.sites ≡ filter_map site_version (take l.row-index l.rows)
