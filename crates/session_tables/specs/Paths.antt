-- Where the rows of the tables stand in the world of the tables, and what stands there.
use Rattle.std.specs.Prelude.{◌≢◌, ⊤, ℕ, pos, Bool, false, ◌&&◌, not, nat_lt, nat_le, List, [], ◌∷◌, ◌++◌, length, codes, decimal}
use Rattle.std.specs.Fmt.{signed_decimal}
use Rattle.std.specs.List.{list_all}
use Rattle.std.specs.Str.{bytes_eq}
use Rattle.line_forms.specs.Lines.{lines_text}
use Rattle.line_forms.specs.Names.{is_name_byte}
use Rattle.line_forms.specs.Numbers.{last_id}
use Rattle.report_text.specs.RowLines.{outcome_field, end_field, exit_field}
use Rattle.bf_world.specs.declared.parts.Node.{Node}
use Rattle.bf_world.specs.declared.parts.Node.TheVariants.{Folder, File}
use Rattle.desk_keep.specs.declared.change.Change.{Change}
use Rattle.desk_keep.specs.declared.change.Change.TheVariants as change
use Rattle.desk_keep.specs.declared.find.Find.{Find}
use Rattle.desk_keep.specs.declared.find.Find.TheVariants as find
use Rattle.desk_keep.specs.declared.result_row.ResultRow.{ResultRow}

-- the key of a row, as it is asked for
abbrev pub find_of : Change → Find
find_of (change.Site name version text) = find.Site name
find_of (change.Action id text digest) = find.Action id
find_of (change.File digest bytes) = find.File digest
find_of (change.Computer name) = find.Computer name
find_of (change.Report computer seq digest) = find.Report computer seq
find_of (change.Result result) = find.Result result.computer result.row.action

-- the site that is made of the actions, of which the table has the version alone
abbrev pub actionsite : List ℕ
actionsite = codes "actionsite"

-- a name: 1 to 64 ASCII letters, digits, `-`, `_` and `.`
unfoldable pub is_name : List ℕ → Bool
is_name text = nat_lt 0 (length text) && nat_le (length text) 64 && list_all is_name_byte text

-- a name that is one part of a path
unfoldable pub is_shown_name : List ℕ → Bool
is_shown_name name = is_name name && not (bytes_eq name (codes ".")) && not (bytes_eq name (codes ".."))

-- a name of a site that has a text of its own
unfoldable pub is_shown_site : List ℕ → Bool
is_shown_site name = is_shown_name name && not (bytes_eq name actionsite)

-- an id: from 1 to 2^53
unfoldable pub is_shown_id : ℕ → Bool
is_shown_id id = nat_le 1 id && nat_le id last_id

-- whether the row of a key is shown
abbrev pub is_shown : Find → Bool
is_shown (find.Site name) = is_shown_site name
is_shown (find.Action id) = is_shown_id id
is_shown (find.File digest) = false
is_shown (find.Computer name) = is_shown_name name
is_shown (find.Report computer seq) = false
is_shown (find.Result computer action) = is_shown_name computer && is_shown_id action

-- the folder in which it is shown, and its name there
abbrev pub folder_of : Find → List ℕ
folder_of (find.Site name) = codes "/sites"
folder_of (find.Action id) = codes "/actions"
folder_of (find.Computer name) = codes "/computers"
folder_of (find.Result computer action) = codes "/computers/" ++ computer
folder_of _ = []

abbrev pub name_of : Find → List ℕ
name_of (find.Site name) = name
name_of (find.Action id) = decimal id
name_of (find.Computer name) = name
name_of (find.Result computer action) = decimal action
name_of _ = []

-- the path at which it is shown
unfoldable pub path_of : Find → List ℕ
path_of find = folder_of find ++ (47 ∷ name_of find)

-- the lines of a result: its outcome, the number of the attempt, when it began and ended, the number of the report that told it last,
-- and its exit code
unfoldable pub result_text : ResultRow → List ℕ
result_text result = lines_text (
    outcome_field result.row.end ∷ decimal result.row.number ∷ signed_decimal result.row.begun ∷ end_field result.row.end
    ∷ decimal result.seq ∷ exit_field result.row.note.exit ∷ [])

-- what stands there: a computer is a folder, and every other row that is shown a file, which was modified at the moment 0
abbrev pub node_of : Change → Node
node_of (change.Site name version text) = File text (pos 0)
node_of (change.Action id text digest) = File text (pos 0)
node_of (change.Result result) = File (result_text result) (pos 0)
node_of _ = Folder

-- A row has a path: a site or a computer where its name isn't `.` or `..`, and the site isn't the one of actions; an action; and a result
-- where its computer's name isn't `.` or `..`. A file and a report have none.
abbrev pub HasPath : Change → Type 0
HasPath (change.Site name version text) = (name ≢ codes ".") × (name ≢ codes "..") × (name ≢ actionsite)
HasPath (change.Action id text digest) = ⊤
HasPath (change.Computer name) = (name ≢ codes ".") × (name ≢ codes "..")
HasPath (change.Result result) = (result.computer ≢ codes ".") × (result.computer ≢ codes "..")
HasPath _ = ⊥
