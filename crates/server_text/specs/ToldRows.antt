-- What is told of the rows that are kept.
use Rattle.std.specs.Prelude.{ℕ, List, filter_map, Some, None}
use Rattle.std.specs.declared.option.Option.{Option}
use Rattle.desk_keep.specs.declared.change.Change.{Change}
use Rattle.desk_keep.specs.declared.change.Change.TheVariants as change
use Rattle.desk_keep.specs.declared.result_row.ResultRow.{ResultRow}
use Rattle.server_text.specs.declared.site_versions.SiteVersion.{SiteVersion}

-- the text in the row of an action
abbrev pub text_in : Change → Option (List ℕ)
text_in (change.Action id text digest) = Some text
text_in other = None

-- the texts of the actions, in ascending order of their ids
abbrev pub action_texts : List Change → List (List ℕ)
action_texts rows = filter_map text_in rows

-- the name and the version in the row of a site
abbrev pub site_version : Change → Option SiteVersion
site_version (change.Site name version text) = Some (record { name = name; version = version })
site_version other = None

-- the result in its row
abbrev pub result_row : Change → Option ResultRow
result_row (change.Result result) = Some result
result_row other = None
