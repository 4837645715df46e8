-- The items of the members of a list.
use Rattle.std.specs.Prelude.{ℕ, List, map}
use Rattle.std.specs.declared.option.Option.{Option}
use Rattle.rel_sources.specs.declared.members.Rows.{Rows}
use Rattle.rel_sources.specs.declared.members.Rows.TheVariants.{Processes, Packages, Settings}
use Rattle.rel_sources.specs.Traces.{Item}
use Rattle.rel_sources.specs.Rows.{process_item, package_item, setting_item}

-- those of the wanted name, where one is wanted
abbrev pub row_items : Option (List ℕ) → Rows → List Item
row_items wanted (Processes names) = map (process_item wanted) names
row_items wanted (Packages rows) = map (package_item wanted) rows
row_items wanted (Settings rows) = map (setting_item wanted) rows
