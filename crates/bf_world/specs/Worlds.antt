-- A described machine.
use Rattle.std.specs.Prelude.{ℕ, ℤ, List, []}
use Rattle.bf_world.specs.declared.parts.Node.{Node}
use Rattle.bf_world.specs.declared.parts.SettingValue.{SettingValue}
use Rattle.bf_world.specs.declared.parts.Program.{Program}
use Rattle.bf_world.specs.declared.parts.Run.{Run}

-- The maps are lists of entries, in byte order of their keys: paths to files and folders but for `/`, names of
-- packages to versions, names of processes, names of settings, and lines of programs. The programs that were
-- started stand in the order in which they were.
pub record WorldState : Type 0 where
  pub name : List ℕ
  pub system : List ℕ
  pub version : List ℕ
  pub offset : ℤ
  pub moment : ℤ
  pub paths : List (List ℕ × Node)
  pub packages : List (List ℕ × List ℕ)
  pub processes : List (List ℕ × Unit {0})
  pub settings : List (List ℕ × SettingValue)
  pub programs : List (List ℕ × Program)
  pub started : List Run

-- a machine with nothing on it
abbrev pub bare : List ℕ → List ℕ → List ℕ → ℤ → ℤ → WorldState
bare name system version offset moment = record {
  name = name;
  system = system;
  version = version;
  offset = offset;
  moment = moment;
  paths = [];
  packages = [];
  processes = [];
  settings = [];
  programs = [];
  started = [];
}
