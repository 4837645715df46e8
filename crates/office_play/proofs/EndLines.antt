-- What is printed at the end.
use Rattle.std.proofs.Common.{◌≡◌, ℕ, ◌+◌, true, false, cond, arith, List, [], ◌∷◌, ◌++◌, length, ◌≤◌, refl, sym, ap, ◌∙◌, true≢false}
use Rattle.std.specs.Prelude.{bytes_eq, codes, decimal, filter, flat_map}
use Rattle.std.proofs.lemmas.List.{append_assoc}
use Rattle.std.proofs.lemmas.List.Sums.{sum_by_push}
use Rattle.std.proofs.lemmas.List.Elements.{filter_map-append}
use Rattle.report_text.specs.RowLines.{outcome_field}
use Rattle.desk_keep.specs.declared.change.Change.{Change}
use Rattle.desk_keep.specs.declared.change.Change.TheVariants as change
use Rattle.desk_keep.specs.declared.result_row.ResultRow.{ResultRow}
use Rattle.desk_keep.specs.declared.table.Table.TheVariants as table
use Rattle.desk_keep.specs.Tables.{is_of}
use Rattle.server_text.specs.Entries.{Entry}
use Rattle.server_text.specs.ToldRows.{result_row}
use Rattle.office_rules.specs.Endings.{count_lines, ending_text, outbox_counts, queue_counts, results_of, row_count, sum_line}
use Rattle.office_rules.specs.OfficeLines.{count_line, result_line, words_line}
use Rattle.office_play.specs.declared.ending.Sum.{Sum}
use Rattle.office_play.specs.Ending.{IsSum, outcome_count}
use Rattle.office_play.specs.Kept.{AreRowsOf, KeptOffice, office_of}

-- ---- lines one after another
-- One more line was written, and the lines of what is left are left.
pub line_more : {X : Type 0} (line : X → List ℕ) (out more whole : List ℕ) (x : X) (left : List X)
    → out ++ flat_map line (x ∷ left) ≡ whole → more ≡ out ++ line x → more ++ flat_map line left ≡ whole
line_more line out more whole x left so is = ap (λ o. o ++ flat_map line left) is ∙ append_assoc out (line x) (flat_map line left) ∙ so

-- ---- results
-- The rows of the table of results are results.
pub is_result : (row : Change) → is_of table.Results row ≡ true → (result : ResultRow) × (row ≡ change.Result result)
is_result (change.Result result) h = (result, refl)
is_result (change.Site name version text) h = absurd (true≢false (sym h))
is_result (change.Action id text digest) h = absurd (true≢false (sym h))
is_result (change.File digest bytes) h = absurd (true≢false (sym h))
is_result (change.Computer name) h = absurd (true≢false (sym h))
is_result (change.Report computer seq digest) h = absurd (true≢false (sym h))

-- They are all results.
pub results_listed : (rows : List Change) → results_of (filter (is_of table.Results) rows) ≡ results_of rows
results_listed [] = refl
results_listed (change.Result result ∷ rows) = ap (λ l. result ∷ l) (results_listed rows)
results_listed (change.Site name version text ∷ rows) = results_listed rows
results_listed (change.Action id text digest ∷ rows) = results_listed rows
results_listed (change.File digest bytes ∷ rows) = results_listed rows
results_listed (change.Computer name ∷ rows) = results_listed rows
results_listed (change.Report computer seq digest ∷ rows) = results_listed rows

-- one result more
pub results_push : (rows : List Change) (result : ResultRow) → results_of (rows ++ change.Result result ∷ []) ≡ results_of rows ++ result ∷ []
results_push rows result = filter_map-append result_row rows (change.Result result ∷ [])

-- There are no more results than rows.
pub few_results : (rows : List Change) → length (results_of rows) ≤ length rows
few_results [] = omega arith
few_results (change.Result result ∷ rows) = let few = few_results rows in omega (arith, few)
few_results (change.Site name version text ∷ rows) = let few = few_results rows in omega (arith, few)
few_results (change.Action id text digest ∷ rows) = let few = few_results rows in omega (arith, few)
few_results (change.File digest bytes ∷ rows) = let few = few_results rows in omega (arith, few)
few_results (change.Computer name ∷ rows) = let few = few_results rows in omega (arith, few)
few_results (change.Report computer seq digest ∷ rows) = let few = few_results rows in omega (arith, few)

-- how many have an outcome, with one result more
pub counts_one : (word : List ℕ) (results : List ResultRow) (kept : ResultRow) → bytes_eq (outcome_field kept.row.end) word ≡ true
    → outcome_count word (results ++ kept ∷ []) ≡ outcome_count word results + 1
counts_one word results kept h =
    sum_by_push (λ (result : ResultRow). cond (bytes_eq (outcome_field result.row.end) word) 1 0) results kept
    ∙ ap (λ b. outcome_count word results + cond b 1 0) h

pub counts_none : (word : List ℕ) (results : List ResultRow) (kept : ResultRow) → bytes_eq (outcome_field kept.row.end) word ≡ false
    → outcome_count word (results ++ kept ∷ []) ≡ outcome_count word results
counts_none word results kept h =
    let step : outcome_count word (results ++ kept ∷ []) ≡ outcome_count word results + 0 =
    sum_by_push (λ (result : ResultRow). cond (bytes_eq (outcome_field result.row.end) word) 1 0) results kept
    ∙ ap (λ b. outcome_count word results + cond b 1 0) h in
    omega (arith, step)

-- The line of a sum is that of the results.
pub sum_said : (sum : Sum) (results : List ResultRow) → IsSum sum results
    → words_line (codes "sum" ∷ codes "fixed" ∷ decimal sum.fixed ∷ codes "failed" ∷ decimal sum.failed
    ∷ codes "running" ∷ decimal sum.running ∷ codes "interrupted" ∷ decimal sum.interrupted ∷ []) ≡ sum_line results
sum_said sum results is = rw (is.fixed, is.failed, is.running, is.interrupted) refl

-- ---- the whole
-- what is printed at the end, over the rows
abbrev pub text_of : KeptOffice → List ℕ
text_of o =
    count_line (codes "computers" ∷ []) (row_count table.Computers o.rows) ++ count_line (codes "reports" ∷ []) (row_count table.Reports o.rows)
    ++ flat_map result_line (results_of o.rows) ++ count_lines (codes "queue") (queue_counts o.relays)
    ++ count_lines (codes "outbox") (outbox_counts o.computers) ++ sum_line (results_of o.rows)

pub ending_is : (o : KeptOffice) (accepted : List Entry) → AreRowsOf accepted o.rows → text_of o ≡ ending_text (office_of accepted o)
ending_is o accepted are = ap (λ (rows : List Change). text_of (record o { rows = rows })) are.rows_are

-- What was written in two pieces was written as one.
pub in_one : (a b c t u : List ℕ) → b ≡ a ++ t → c ≡ b ++ u → c ≡ a ++ (t ++ u)
in_one a b c t u first next = next ∙ ap (λ l. l ++ u) first ∙ append_assoc a t u
