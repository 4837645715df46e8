-- A run is owed by what a tally counts exactly where the rows owe it.
use Rattle.std.proofs.Common.{ℕ, ◌≡◌, ℤ, ◌+ℤ◌, ◌≤ℤ◌, List, [], ◌∷◌, length, Bool, true, false, cond, refl, sym, ap, ◌∙◌, subst, Option, Some, None, ◌⊎◌, inl, inr, MatchBool}
use Rattle.std.specs.Prelude.{is_some, IsSome, IsSomeAnd}
use Rattle.act_rules.specs.declared.row.Row.{Row}
use Rattle.act_rules.specs.declared.row.Outcome.{Outcome}
use Rattle.act_rules.specs.declared.rule.Rules.{Rules}
use Rattle.act_rules.specs.declared.tally.Tally.{Tally}
use Rattle.act_rules.specs.Rows.{last_row, OnlyLastRuns, HasEnded, IsRows}
use Rattle.act_rules.specs.Series.{series, is_closed}
use Rattle.act_rules.specs.Owed.{OwesAgain, IsOwed}
use Rattle.act_rules.specs.Tallies.{Counts, StandsFor, ended_rows}
use Rattle.act_rules.specs.Steps.{OwesAfter}
use Rattle.line_forms.proofs.Lasts.{last_step}

-- a run is owed by a last row that has ended, by whether it closes its series and how many there are
abbrev pub OwesBy : Rules → Bool → ℕ → Row → ℤ → Type 0
OwesBy rules closed count row moment =
    IsSomeAnd row.end (λ end. MatchBool closed
    (OwesAgain rules.reapply count row.cleared end.0 moment) ((end.0 +ℤ rules.wait) ≤ℤ moment))

by_retry : (rules : Rules) (closed : Bool) (count : ℕ) (row : Row) (e : Option (ℤ × Outcome)) (t : ℤ) →
    IsSomeAnd e (λ end. (closed ≡ false) × ((end.0 +ℤ rules.wait) ≤ℤ t)) →
    IsSomeAnd e (λ end. MatchBool closed (OwesAgain rules.reapply count row.cleared end.0 t) ((end.0 +ℤ rules.wait) ≤ℤ t))
by_retry rules closed count row None t h = absurd h
by_retry rules true count row (Some e) t h = absurd (cc (h.0))
by_retry rules false count row (Some e) t h = h.1

by_series : (rules : Rules) (closed : Bool) (count : ℕ) (row : Row) (e : Option (ℤ × Outcome)) (t : ℤ) →
    IsSomeAnd e (λ end. (closed ≡ true) × OwesAgain rules.reapply count row.cleared end.0 t) →
    IsSomeAnd e (λ end. MatchBool closed (OwesAgain rules.reapply count row.cleared end.0 t) ((end.0 +ℤ rules.wait) ≤ℤ t))
by_series rules closed count row None t h = absurd h
by_series rules true count row (Some e) t h = h.1
by_series rules false count row (Some e) t h = absurd (cc (h.0))

to_either : (rules : Rules) (closed : Bool) (count : ℕ) (row : Row) (e : Option (ℤ × Outcome)) (t : ℤ) →
    IsSomeAnd e (λ end. MatchBool closed (OwesAgain rules.reapply count row.cleared end.0 t) ((end.0 +ℤ rules.wait) ≤ℤ t)) →
    (IsSomeAnd e (λ end. (closed ≡ false) × ((end.0 +ℤ rules.wait) ≤ℤ t))) ⊎ (IsSomeAnd e (λ end. (closed ≡ true) × OwesAgain rules.reapply count row.cleared end.0 t))
to_either rules closed count row None t h = absurd h
to_either rules true count row (Some e) t h = inr (refl, h)
to_either rules false count row (Some e) t h = inl (refl, h)

none_left : (rows : List Row) (row : Row) → Some row ≡ last_row rows → rows ≡ [] → ⊥
none_left [] row e h = cc
none_left (x ∷ rows) row e h = cc

last_none : (rows : List Row) → None ≡ last_row rows → rows ≡ []
last_none [] e = refl
last_none (x ∷ []) e = cc
last_none (x ∷ y ∷ rows) e = absurd (cc (last_none (y ∷ rows) (e ∙ sym (last_step x y rows))))

-- what the last row says
pub owed_by_last : (rules : Rules) (rows : List Row) (row : Row) (t : ℤ) → Some row ≡ last_row rows →
    IsOwed rules rows t → OwesBy rules (is_closed rules.retries rows) (length (series rules.retries rows)) row t
owed_by_last rules rows row t e (inl h) = absurd (none_left rows row e h)
owed_by_last rules rows row t e (inr (inl h)) =
    let P : Option Row → Type 0 = λ o. IsSomeAnd o (λ row. IsSomeAnd row.end (λ end. (is_closed rules.retries rows ≡ false) × ((end.0 +ℤ rules.wait) ≤ℤ t))) in
    by_retry rules _ _ row row.end t (subst P (sym e) h)
owed_by_last rules rows row t e (inr (inr h)) =
    let P : Option Row → Type 0 = λ o. IsSomeAnd o (λ row. IsSomeAnd row.end (λ end. (is_closed rules.retries rows ≡ true) × OwesAgain rules.reapply (length (series rules.retries rows)) row.cleared end.0 t)) in
    by_series rules _ _ row row.end t (subst P (sym e) h)

pub owed_from_last : (rules : Rules) (rows : List Row) (row : Row) (t : ℤ) → Some row ≡ last_row rows →
    OwesBy rules (is_closed rules.retries rows) (length (series rules.retries rows)) row t → IsOwed rules rows t
owed_from_last rules rows row t e h =
    let P : Option Row → Type 0 = λ o. IsSomeAnd o (λ row. IsSomeAnd row.end (λ end. (is_closed rules.retries rows ≡ false) × ((end.0 +ℤ rules.wait) ≤ℤ t))) in
    let Q : Option Row → Type 0 = λ o. IsSomeAnd o (λ row. IsSomeAnd row.end (λ end. (is_closed rules.retries rows ≡ true) × OwesAgain rules.reapply (length (series rules.retries rows)) row.cleared end.0 t)) in
    elim (to_either rules (is_closed rules.retries rows) (length (series rules.retries rows)) row row.end t h) as (λ _. IsOwed rules rows t) [
      | inl k ↦ inr (inl (subst P e k))
      | inr k ↦ inr (inr (subst Q e k))
    ]

-- the first run is owed
pub owed_first : (rules : Rules) (rows : List Row) (t : ℤ) → None ≡ last_row rows → IsOwed rules rows t
owed_first rules rows t e = inl (last_none rows e)

-- rows of which the last has ended have all ended
kept : (row : Row) (e : Option (ℤ × Outcome)) (xs : List Row) → IsSome e → cond (is_some e) (row ∷ xs) xs ≡ row ∷ xs
kept row None xs h = cc
kept row (Some e) xs h = refl

pub all_ended : (rows : List Row) → OnlyLastRuns rows → IsSomeAnd (last_row rows) HasEnded → ended_rows rows ≡ rows
all_ended [] o h = refl
all_ended (x ∷ []) o h = kept x x.end [] h
all_ended (x ∷ y ∷ rows) o h =
    let P : Option Row → Type 0 = λ o. IsSomeAnd o HasEnded in
    kept x x.end (ended_rows (y ∷ rows)) o.0 ∙ ap (λ r. x ∷ r) (all_ended (y ∷ rows) o.1 (subst P (sym (last_step x y rows)) h))

by_ended : (row : Row) (e : Option (ℤ × Outcome)) (P : ℤ × Outcome → Type 0) → IsSomeAnd e P → IsSome e
by_ended row None P h = absurd h
by_ended row (Some e) P h = refl

counts_of : (rules : Rules) (tally : Tally) (rows : List Row) (row : Row) → IsRows rows → StandsFor tally rules.retries rows → Some row ≡ last_row rows → IsSome row.end → Counts tally rules.retries rows
counts_of rules tally rows row is stands e h =
    let P : List Row → Type 0 = λ r. Counts tally rules.retries r in
    let Q : Option Row → Type 0 = λ o. IsSomeAnd o HasEnded in
    subst P (all_ended rows is.ended (subst Q e h)) stands

-- the tally's counts are those of rows of which the last has ended
pub owed_from_counts : (rules : Rules) (tally : Tally) (rows : List Row) (row : Row) (t : ℤ) → IsRows rows → StandsFor tally rules.retries rows → Some row ≡ last_row rows → OwesAfter rules tally row t → IsOwed rules rows t
owed_from_counts rules tally rows row t is stands e h =
    let c : Counts tally rules.retries rows = counts_of rules tally rows row is stands e (by_ended row row.end _ h) in
    let P : Bool → Type 0 = λ b. OwesBy rules b tally.series row t in
    let Q : ℕ → Type 0 = λ n. OwesBy rules (is_closed rules.retries rows) n row t in
    owed_from_last rules rows row t e (subst Q c.number (subst P c.closed h))

pub counts_from_owed : (rules : Rules) (tally : Tally) (rows : List Row) (row : Row) (t : ℤ) → IsRows rows → StandsFor tally rules.retries rows → Some row ≡ last_row rows → IsOwed rules rows t → OwesAfter rules tally row t
counts_from_owed rules tally rows row t is stands e h =
    let k : OwesBy rules (is_closed rules.retries rows) (length (series rules.retries rows)) row t = owed_by_last rules rows row t e h in
    let c : Counts tally rules.retries rows = counts_of rules tally rows row is stands e (by_ended row row.end _ k) in
    let P : Bool → Type 0 = λ b. OwesBy rules b tally.series row t in
    let Q : ℕ → Type 0 = λ n. OwesBy rules (is_closed rules.retries rows) n row t in
    subst P (sym c.closed) (subst Q (sym c.number) k)
