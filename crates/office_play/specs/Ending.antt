-- What is counted at the end.
use Rattle.std.specs.Prelude.{◌≡◌, ℕ, bytes_eq, List, [], ◌∷◌, count_by, codes}
use Rattle.report_text.specs.RowLines.{outcome_field}
use Rattle.desk_keep.specs.declared.result_row.ResultRow.{ResultRow}
use Rattle.office_rules.specs.OfficeLines.{count_line}
use Rattle.office_play.specs.declared.ending.Sum.{Sum}

-- how many results have the outcome of this word
abbrev pub outcome_count : List ℕ → List ResultRow → ℕ
outcome_count word results = count_by (λ (result : ResultRow). bytes_eq (outcome_field result.row.end) word) results

-- how these results are spread
pub record IsSum (sum : Sum) (results : List ResultRow) : Type 0 where
  pub fixed : sum.fixed ≡ outcome_count (codes "fixed") results
  pub failed : sum.failed ≡ outcome_count (codes "failed") results
  pub running : sum.running ≡ outcome_count (codes "running") results
  pub interrupted : sum.interrupted ≡ outcome_count (codes "interrupted") results

-- a line of a word, a name and its count
abbrev pub counted_line : List ℕ → List ℕ × ℕ → List ℕ
counted_line word entry = count_line (word ∷ entry.0 ∷ []) entry.1
