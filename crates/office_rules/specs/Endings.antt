-- What is printed at the end of an office.
use Rattle.std.specs.Prelude.{ℕ, bytes_eq, List, [], ◌∷◌, ◌++◌, length, map, filter_map, flat_map, count_by, codes, decimal}
use Rattle.bf_world.specs.Maps.{put}
use Rattle.report_text.specs.RowLines.{outcome_field}
use Rattle.relay_core.specs.Relays.{RelayState}
use Rattle.agent_core.specs.ShownReports.{shown_reports}
use Rattle.desk_keep.specs.declared.change.Change.{Change}
use Rattle.desk_keep.specs.declared.result_row.ResultRow.{ResultRow}
use Rattle.desk_keep.specs.declared.table.Table.{Table}
use Rattle.desk_keep.specs.declared.table.Table.TheVariants as table
use Rattle.desk_keep.specs.Tables.{is_of}
use Rattle.server_text.specs.ToldRows.{result_row}
use Rattle.server_core.specs.AcceptedTables.{view}
use Rattle.office_rules.specs.Offices.{Office, PlayedComputer}
use Rattle.office_rules.specs.OfficeLines.{count_line, result_line, words_line}

-- counts under names, in byte order of the names
abbrev pub by_name : List (List ℕ × ℕ) → List (List ℕ × ℕ)
by_name [] = []
by_name (entry ∷ entries) = put entry.0 entry.1 (by_name entries)

-- a line for each name, with its count
abbrev pub count_lines : List ℕ → List (List ℕ × ℕ) → List ℕ
count_lines word counts = flat_map (λ (entry : List ℕ × ℕ). count_line (word ∷ entry.0 ∷ []) entry.1) (by_name counts)

-- how many reports each relay queues, and how many each agent shows
abbrev pub queue_counts : List (List ℕ × RelayState) → List (List ℕ × ℕ)
queue_counts relays = map (λ (entry : List ℕ × RelayState). (entry.0, length entry.1.queue)) relays

abbrev pub outbox_counts : List (List ℕ × PlayedComputer) → List (List ℕ × ℕ)
outbox_counts computers = map (λ (entry : List ℕ × PlayedComputer). (entry.0, length (shown_reports entry.1.agent))) computers

-- how many rows a table has
abbrev pub row_count : Table → List Change → ℕ
row_count asked rows = count_by (is_of asked) rows

-- the results, in byte order of computers and then in ascending order of actions
abbrev pub results_of : List Change → List ResultRow
results_of rows = filter_map result_row rows

-- a word for an outcome, and how many results have it
abbrev pub outcome_words : List ℕ → List ResultRow → List (List ℕ)
outcome_words word results =
    word ∷ decimal (count_by (λ (result : ResultRow). bytes_eq (outcome_field result.row.end) word) results) ∷ []

-- how the results are spread over the outcomes
abbrev pub sum_line : List ResultRow → List ℕ
sum_line results =
    words_line (codes "sum" ∷ outcome_words (codes "fixed") results ++ outcome_words (codes "failed") results
    ++ outcome_words (codes "running") results ++ outcome_words (codes "interrupted") results)

-- what is printed at the end: what the server has, the queues of relays, the outboxes of computers, and the sum
abbrev pub ending_text : Office → List ℕ
ending_text o =
    count_line (codes "computers" ∷ []) (row_count table.Computers (view o.accepted))
    ++ count_line (codes "reports" ∷ []) (row_count table.Reports (view o.accepted))
    ++ flat_map result_line (results_of (view o.accepted)) ++ count_lines (codes "queue") (queue_counts o.relays)
    ++ count_lines (codes "outbox") (outbox_counts o.computers) ++ sum_line (results_of (view o.accepted))
