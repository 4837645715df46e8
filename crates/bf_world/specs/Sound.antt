-- What holds of every described machine that was read from a text, and of what commands and polls make of it.
use Rattle.std.specs.Prelude.{◌^◌, ◌<◌, length, ⊤, All}
use Rattle.std.specs.Map.{keys_of, values_of}
use Rattle.desk_base.specs.Moments.{IsMoment}
use Rattle.line_forms.specs.Paths.{IsPath}
use Rattle.line_forms.specs.Versions.{IsVersion}
use Rattle.line_forms.specs.Numbers.{IsOffset}
use Rattle.bf_world.specs.declared.parts.Node.{Node}
use Rattle.bf_world.specs.declared.parts.Node.TheVariants.{Folder, File}
use Rattle.bf_world.specs.declared.parts.Program.{Program}
use Rattle.bf_world.specs.Maps.{IsMap}
use Rattle.bf_world.specs.Worlds.{WorldState}

-- a file was modified at a moment
abbrev pub IsSoundNode : Node → Type 0
IsSoundNode Folder = ⊤
IsSoundNode (File content modified) = IsMoment modified

-- what a program gives has versions
abbrev pub IsSoundProgram : Program → Type 0
IsSoundProgram program = All (λ row. IsVersion row.version) program.gives

-- the keys of the files and folders are paths, moments and the offset are in their ranges, versions have their form, and programs have numbers of 32 bits
pub record IsSound (w : WorldState) : Type 0 where
  pub version : IsVersion w.version
  pub offset : IsOffset w.offset
  pub moment : IsMoment w.moment
  pub paths : All IsPath (keys_of w.paths)
  pub nodes : All IsSoundNode (values_of w.paths)
  pub packages : All IsVersion (values_of w.packages)
  pub settings : All (λ setting. IsMoment setting.date) (values_of w.settings)
  pub programs : All IsSoundProgram (values_of w.programs)
  pub started : length w.started < 2 ^ 32

-- the maps of a world that a look lists ascend
pub record HasMaps (w : WorldState) : Type 0 where
  pub paths : IsMap w.paths
  pub packages : IsMap w.packages
  pub processes : IsMap w.processes
  pub settings : IsMap w.settings
