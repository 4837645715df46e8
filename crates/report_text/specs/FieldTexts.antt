-- What the readers of a row's fields answer.
use Rattle.std.specs.Prelude.{◌≡◌, ℕ, ℤ, List, IfSome, MatchOption}
use Rattle.std.specs.declared.option.Option.{Option}
use Rattle.desk_base.specs.Moments.{IsMoment}
use Rattle.act_rules.specs.declared.row.Outcome.{Outcome}
use Rattle.report_text.specs.ReportRows.{IsPlace}
use Rattle.report_text.specs.RowLines.{outcome_field, end_field, component_field, line_field}

-- the end of a row, if it has ended: its moment and its outcome
abbrev pub IsEnd : Option (ℤ × Outcome) → Type 0
IsEnd end = IfSome end (λ end. IsMoment end.0)

-- these two fields are those of this end
abbrev pub SpellsEnd : List ℕ → List ℕ → Option (ℤ × Outcome) → Type 0
SpellsEnd word moment end = (word ≡ outcome_field end) × (moment ≡ end_field end)

-- the answer is the end of which these are the fields, or None where they are those of none
abbrev pub ReadsEnd : List ℕ → List ℕ → Option (Option (ℤ × Outcome)) → Type 0
ReadsEnd word moment answer =
    MatchOption answer ((end : Option (ℤ × Outcome)) → IsEnd end → ¬ SpellsEnd word moment end)
    (λ end. IsEnd end × SpellsEnd word moment end)

-- these two fields are those of this place of a failure, if there is one
abbrev pub SpellsPlace : List ℕ → List ℕ → Option (ℕ × ℕ) → Type 0
SpellsPlace component line place = (component ≡ component_field place) × (line ≡ line_field place)

-- the answer is the place of which these are the fields, or None where they are those of none
abbrev pub ReadsPlace : List ℕ → List ℕ → Option (Option (ℕ × ℕ)) → Type 0
ReadsPlace component line answer =
    MatchOption answer ((place : Option (ℕ × ℕ)) → IfSome place IsPlace → ¬ SpellsPlace component line place)
    (λ place. IfSome place IsPlace × SpellsPlace component line place)
