-- The attempt that is held.
use Rattle.std.proofs.Common.{ℕ, ◌≡◌, List, refl, sym, ap, subst, Some, None}
use Rattle.std.specs.declared.option.Option.{Option}
use Rattle.std.specs.Prelude.{IsSomeAnd}
use Rattle.std.specs.Option.{option_map}
use Rattle.act_rules.specs.declared.row.Row.{Row}
use Rattle.act_rules.specs.Rows.{last_row}
use Rattle.fix_site.specs.declared.action.Action.{Action}
use Rattle.agent_text.specs.declared.pocket.SaveResult.{SaveResult}
use Rattle.agent_text.specs.declared.pocket.SaveResult.TheVariants as save
use Rattle.agent_text.specs.Histories.{PlainHistory, rows_at}
use Rattle.agent_attempt.specs.Attempts.{PlainAttempt}
use Rattle.agent_attempt.specs.Going.{SameAttempt}
use Rattle.agent_attempt.specs.Stages.{AttemptState, shown_attempt}
use Rattle.agent_state.specs.States.{HeldRuns, State}
use Rattle.agent_core.specs.Steps.{after_save}
use Rattle.agent_core.specs.Stops.{HeldWaitsBelow}

pub none_shown : (o : Option AttemptState) → option_map shown_attempt o ≡ None → o ≡ None
none_shown None e = refl
none_shown (Some attempt) e = absurd (cc)

-- the row of an attempt that has gone on is the same
pub runs_on : (old new : PlainAttempt) (hs : List PlainHistory) → SameAttempt old new → HeldRuns (Some old) hs → HeldRuns (Some new) hs
runs_on old new hs same runs =
    subst (λ id. IsSomeAnd (last_row (rows_at id hs)) (λ row. (row.end ≡ None) × (row.number ≡ new.row))) (sym (ap (λ (a : Action). a.id) same.action))
    (subst (λ n. IsSomeAnd (last_row (rows_at old.action.id hs)) (λ row. (row.end ≡ None) × (row.number ≡ n))) (sym same.row) runs)

first_runs : (n : ℕ) (o : Option Row) → IsSomeAnd o (λ row. (row.end ≡ None) × (row.number ≡ n)) → IsSomeAnd o (λ row. row.end ≡ None)
first_runs n None runs = absurd runs
first_runs n (Some row) runs = runs.0

pub held_runs : (attempt : PlainAttempt) (hs : List PlainHistory) → HeldRuns (Some attempt) hs → IsSomeAnd (last_row (rows_at attempt.action.id hs)) (λ row. row.end ≡ None)
held_runs attempt hs runs = first_runs attempt.row (last_row (rows_at attempt.action.id hs)) runs

pub waits_as : (started : ℕ) (held other : Option PlainAttempt) → held ≡ other → HeldWaitsBelow started other → HeldWaitsBelow started held
waits_as started held other e waits = subst (HeldWaitsBelow started) (sym e) waits

-- a save leaves it as it is
pub kept_held : (result : SaveResult) (s : State) → (after_save result s).held ≡ s.held
kept_held save.Done s = refl
kept_held save.Failed s = refl
kept_held save.Memory s = refl
