-- A world while its text is read. A file or program whose further lines may follow isn't in it yet.
use Rattle.std.specs.Prelude.{ℕ, List, ⊤}
use Rattle.bf_world.specs.declared.parts.Node.TheVariants as node
use Rattle.bf_world.specs.declared.parts.Program.{Program}
use Rattle.desk_base.specs.Moments.{IsMoment}
use Rattle.line_forms.specs.Paths.{IsPath}
use Rattle.bf_world.specs.Maps.{put}
use Rattle.bf_world.specs.Sound.{IsSoundProgram}
use Rattle.bf_world.specs.Places.{with_node}
use Rattle.bf_world.specs.Worlds.{WorldState}
use Rattle.world_text.specs.declared.draft.Draft.{Draft}
use Rattle.world_text.specs.declared.draft.Pending.{Pending}
use Rattle.world_text.specs.declared.draft.Pending.TheVariants.{Nothing, File, Program as PendingProgram}

-- the world with the program in it
abbrev pub with_program : List ℕ → Program → WorldState → WorldState
with_program line program w = record w { programs = put line program w.programs }

-- the world with the pending file or program in it
abbrev pub with_pending : Pending → WorldState → WorldState
with_pending Nothing w = w
with_pending (File path content modified) w = with_node path (node.File content modified) w
with_pending (PendingProgram line program) w = with_program line program w

-- the world that was described so far
abbrev pub world_of : Draft → WorldState
world_of d = with_pending d.pending d.world

-- this world, with no file or program pending
abbrev pub just : WorldState → Draft
just w = record { world = w; pending = Nothing }

-- what is pending has its path, its moment in range, and versions of their form
abbrev pub IsSoundPending : Pending → Type 0
IsSoundPending Nothing = ⊤
IsSoundPending (File path content modified) = IsPath path × IsMoment modified
IsSoundPending (PendingProgram line program) = IsSoundProgram program
