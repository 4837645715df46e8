-- What the private functions do. No public contract cites these definitions.
use Rattle.std.specs.Prelude.{◌≡◌, ◌≢◌, true, if◌then◌else◌, ℕ, Bool, List, [], ◌∷◌, ◌++◌, codes, decimal, Option, Some, MatchOption, IfOk, IsErrOf}
use Rattle.std.specs.declared.result.Result.{Result}
use Rattle.std.specs.Fmt.{signed_decimal}
use Rattle.line_forms.specs.Cuts.{Lacks, IsCut}
use Rattle.line_forms.specs.Lines.{ended_line}
use Rattle.report_text.specs.declared.report_row.ReportRow.{ReportRow}
use Rattle.report_text.specs.RowLines.{outcome_field, end_field}
use Rattle.bf_world.specs.declared.answer.Entry.{Entry}
use Rattle.bf_world.specs.Maps.{put}
use Rattle.bf_world.specs.Paths.{root}
use Rattle.bf_world.specs.Places.{folder_test}
use Rattle.desk_keep.specs.declared.change.Change.{Change}
use Rattle.desk_keep.specs.declared.find.Find.{Find}
use Rattle.desk_keep.specs.Calls.{IfTold, OnlyReads}
use Rattle.desk_keep.specs.Views.{KeeperView}
use Rattle.session_tables.specs.declared.spot.Spot.{Spot}
use Rattle.session_tables.specs.declared.spot.Spot.TheVariants as spot
use Rattle.session_tables.specs.declared.stop.Stop.{Stop}
use Rattle.session_tables.specs.declared.stop.Stop.TheVariants as stop
use Rattle.session_tables.specs.Paths.{find_of, is_shown, name_of, path_of, node_of}
use denote.Ref.{Bor}

-- The answer is what stands behind the `/` with which a path begins, or None where it begins with none.
abbrev pub BehindSlash : List ℕ → Option (Bor (List ℕ)) → Type 0
BehindSlash path answer = MatchOption answer ((rest : List ℕ) → path ≢ 47 ∷ rest) (λ rest. path ≡ 47 ∷ rest.now)

-- The answer is what stands before and behind the first `/` of a text, or None where it has none.
abbrev pub CutsText : List ℕ → Option (Bor (List ℕ) × Bor (List ℕ)) → Type 0
CutsText text answer = MatchOption answer (Lacks 47 text) (λ cut. IsCut 47 text cut.0.now cut.1.now)

-- The path names this.
abbrev pub IsSpot : List ℕ → Spot → Type 0
IsSpot path spot.Root = path ≡ root
IsSpot path spot.Actions = path ≡ codes "/actions"
IsSpot path spot.Computers = path ≡ codes "/computers"
IsSpot path spot.Sites = path ≡ codes "/sites"
IsSpot path (spot.Row find) = (is_shown find ≡ true) × (path ≡ path_of find)
IsSpot path spot.Nowhere =
    (path ≢ root) × (path ≢ codes "/actions") × (path ≢ codes "/computers") × (path ≢ codes "/sites")
    × ((find : Find) → is_shown find ≡ true → path ≢ path_of find)

-- This was learned of the rows that are told; nothing changed but the count of faults, which rose where a call of the keeper failed.
pub record Learns {A : Type 0} (of : List Change → A) (old : KeeperView) (result : Result A Stop) (new : KeeperView) : Type 0 where
  pub is : IfOk result (λ answer. IfTold old.rows (λ rows. answer ≡ of rows))
  pub only : OnlyReads (IsErrOf result stop.Keeper) old new

-- names of entries, each with whether it is a folder, with that of a row where it is shown
abbrev pub with_name : Change → List (List ℕ × Bool) → List (List ℕ × Bool)
with_name row names =
    if is_shown (find_of row) then put (name_of (find_of row)) (folder_test (Some (node_of row))) names else names

-- the names of rows, with others
abbrev pub with_names : List Change → List (List ℕ × Bool) → List (List ℕ × Bool)
with_names [] names = names
with_names (row ∷ rows) names = with_name row (with_names rows names)

-- the names in the root
abbrev pub root_names : List (List ℕ × Bool)
root_names = (codes "actions", true) ∷ (codes "computers", true) ∷ (codes "sites", true) ∷ []

-- the entry of a name
abbrev pub named_entry : List ℕ × Bool → Entry
named_entry e = record { name = e.0; folder = e.1 }

-- the lines of a result in these parts
abbrev pub attempt_text : ReportRow → List ℕ
attempt_text row = ended_line (outcome_field row.end) ++ ended_line (decimal row.number)

abbrev pub moments_text : ReportRow → List ℕ
moments_text row = ended_line (signed_decimal row.begun) ++ ended_line (end_field row.end)
