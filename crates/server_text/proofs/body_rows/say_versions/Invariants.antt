use Rattle.std.proofs.Common.{◌≡◌, ◌++◌, take}
use Rattle.std.specs.Prelude.{flat_map}
use Rattle.server_text.specs.Bodies.{version_line}
use Rattle.server_text.proofs.body_rows.say_versions.Given as goal

-- the lines of the sites so far were written
abbrev pub invariant-loop-site : goal.invariant-loop-site
invariant-loop-site l = l.out ≡ l.initial.out ++ flat_map version_line (take l.site-index l.sites)
