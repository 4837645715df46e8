-- The world of the tables, and what a machine tells that shows it.
use Rattle.std.specs.Prelude.{◌≡◌, ℕ, pos, if◌then◌else◌, List, [], ◌∷◌, length, codes, Option, None, Some, option_map, unwrap_or}
use Rattle.std.proofs.Common.{ap}
use Rattle.bf_machine.specs.Views.{MachineView}
use Rattle.bf_world.specs.declared.key.Key.{Key}
use Rattle.bf_world.specs.declared.parts.Node.{Node}
use Rattle.bf_world.specs.declared.parts.Node.TheVariants.{Folder}
use Rattle.bf_world.specs.Maps.{put}
use Rattle.bf_world.specs.Worlds.{WorldState, bare}
use Rattle.desk_keep.specs.declared.change.Change.{Change}
use Rattle.desk_keep.specs.Views.{KeeperView}
use Rattle.session_tables.specs.Paths.{find_of, is_shown, path_of, node_of}

-- the folders in which the rows stand
abbrev pub folders : List (List ℕ × Node)
folders = (codes "/actions", Folder) ∷ (codes "/computers", Folder) ∷ (codes "/sites", Folder) ∷ []

-- with a row at its path, where it is shown
abbrev pub with_row : Change → List (List ℕ × Node) → List (List ℕ × Node)
with_row row paths = if is_shown (find_of row) then put (path_of (find_of row)) (node_of row) paths else paths

-- the folders and the rows at their paths
abbrev pub paths_of : List Change → List (List ℕ × Node)
paths_of [] = folders
paths_of (row ∷ rows) = with_row row (paths_of rows)

-- a machine named `server` with the system `desk` of version 1, and on it the rows of the tables and nothing else
unfoldable pub tables_world : List Change → WorldState
tables_world rows = record (bare (codes "server") (codes "desk") (codes "1") (pos 0) (pos 0)) { paths = paths_of rows }

-- What is told over a keeper, where these keys were looked up: the world of the rows, where the keeper tells them; no command and no poll
-- was ever answered, no program was started, the count of faults is the keeper's, and these references are held.
abbrev pub tables_view : KeeperView → List Key → List ℕ → MachineView
tables_view keeper looked holds = record {
  world = option_map tables_world keeper.rows;
  looked = Some looked;
  acted = Some [];
  polled = Some [];
  started = 0;
  faults = keeper.faults;
  holds = holds;
}

-- No program was ever started in the world of tables.
pub tables_started : (rows : Option (List Change)) (w : WorldState) → option_map tables_world rows ≡ Some w → 0 ≡ length w.started
unfolding tables_world
tables_started None w is = absurd (let same : None ≡ Some w = is in cc)
tables_started (Some rows) w is = ap (λ (o : Option WorldState). length (unwrap_or o (tables_world rows)).started) is
