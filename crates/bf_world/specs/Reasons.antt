-- The names of the reasons for which a command isn't done, as lines and causes write them.
use Rattle.std.specs.Prelude.{ℕ, List, codes}
use Rattle.bf_world.specs.declared.command.Reason.{Reason}
use Rattle.bf_world.specs.declared.command.Reason.TheVariants as reason

-- a reason's name
abbrev pub reason_name : Reason → List ℕ
reason_name reason.NoSuchFile = codes "NoSuchFile"
reason_name reason.AlreadyThere = codes "AlreadyThere"
reason_name reason.NoSuchFolder = codes "NoSuchFolder"
reason_name reason.NotEmpty = codes "NotEmpty"
reason_name reason.NotStarted = codes "NotStarted"
reason_name reason.BadPath = codes "BadPath"
reason_name reason.NotAFile = codes "NotAFile"
