-- A beginning: its row is saved, and then the attempt goes on.
use Rattle.std.proofs.Common.{◌≡◌, ◌-◌, true, List, [], ◌∷◌, ◌++◌, length, length-append, slice_get, inl, inr, ◌⊎◌, refl, sym, ap, subst, ◌∙◌, arith}
use Rattle.std.specs.declared.option.Option.{Option}
use Rattle.std.specs.Prelude.{IsSomeAnd, None, Some}
use Rattle.act_rules.specs.declared.row.Row.{Row}
use Rattle.act_rules.specs.Rows.{last_row}
use Rattle.script_run.specs.Asking.{When}
use Rattle.agent_text.specs.declared.pocket.SaveResult.{SaveResult}
use Rattle.agent_text.specs.declared.pocket.SaveResult.TheVariants as save
use Rattle.agent_text.specs.Histories.{PlainHistory, rows_at, with_begun}
use Rattle.agent_attempt.specs.Attempts.{PlainAttempt}
use Rattle.agent_core.specs.declared.turned.Turned.{Turned}
use Rattle.agent_core.specs.declared.turned.Turned.TheVariants.{Memory}
use Rattle.agent_core.specs.Saving.{OrMemory}
use Rattle.agent_text.specs.Pockets.{PocketView, SavesTo}
use Rattle.agent_state.specs.States.{HeldRuns, State, as_saved, new_row, text_of, with_beginning}
use Rattle.agent_core.specs.Devices.{Devices}
use Rattle.agent_core.specs.Steps.{BeginsAs, StopsBeginning, after_save}
use Rattle.agent_core.specs.Turns.{TurnGoesOn}
use Rattle.agent_core.proofs.Flowing.{no_save}
use Rattle.agent_state.proofs.RowsAt.{rows_here}
use Rattle.agent_core.proofs.TurnPoints.{with_pocket}

pub begins_done : (at : When) (s marked now : State) (d : Devices) (attempt : PlainAttempt) (pocket : PocketView) (a : Turned) (s2 : State) (d2 : Devices) → SavesTo (text_of (with_beginning attempt.action.id at.moment marked)) d.pocket save.Done pocket
    → now ≡ as_saved (with_beginning attempt.action.id at.moment marked) → TurnGoesOn at true attempt now (with_pocket pocket d) a s2 d2 → BeginsAs at s marked attempt d a s2 d2
begins_done at s marked now d attempt pocket a s2 d2 saves saved h = (save.Done, pocket, saves, subst (λ x. TurnGoesOn at true attempt x (with_pocket pocket d) a s2 d2) saved h)

begins_stopped : (at : When) (s marked now : State) (d : Devices) (attempt : PlainAttempt) (result : SaveResult) (pocket : PocketView) (stop : Turned) → SavesTo (text_of (with_beginning attempt.action.id at.moment marked)) d.pocket result pocket
    → StopsBeginning s marked result stop now → BeginsAs at s marked attempt d stop now (with_pocket pocket d)
begins_stopped at s marked now d attempt save.Done pocket stop saves h = absurd h
begins_stopped at s marked now d attempt save.Failed pocket stop saves h = (save.Failed, pocket, saves, (h.0, h.1, refl))
begins_stopped at s marked now d attempt save.Memory pocket stop saves h = (save.Memory, pocket, saves, (h.0, h.1, refl))

-- the row wasn't saved, or memory ran out before
pub begins_not : (at : When) (s marked now : State) (d : Devices) (attempt : PlainAttempt) (pocket : PocketView) (stop : Turned)
    → ((stop ≡ Memory) × (now ≡ s) × (pocket ≡ d.pocket)) ⊎ ((result : SaveResult) × SavesTo (text_of (with_beginning attempt.action.id at.moment marked)) d.pocket result pocket × StopsBeginning s marked result stop now)
    → OrMemory s d (BeginsAs at s marked attempt d) stop now (with_pocket pocket d)
begins_not at s marked now d attempt pocket stop (inl h) = inl (h.0, h.1, ap (λ p. with_pocket p d) h.2)
begins_not at s marked now d attempt pocket stop (inr h) = inr (begins_stopped at s marked now d attempt h.0 pocket stop h.1 h.2)

-- want of memory before a beginning is a save that has none
pub begins_or : (at : When) (s marked : State) (d : Devices) (attempt : PlainAttempt) (a : Turned) (s2 : State) (d2 : Devices) → OrMemory s d (BeginsAs at s marked attempt d) a s2 d2 → BeginsAs at s marked attempt d a s2 d2
begins_or at s marked d attempt a s2 d2 (inl h) = (save.Memory, d.pocket, no_save (text_of (with_beginning attempt.action.id at.moment marked)) d.pocket, h)
begins_or at s marked d attempt a s2 d2 (inr h) = h

-- ---- the row of the attempt is the last of its action, and runs
at_end : (rows : List Row) (row : Row) → slice_get (rows ++ row ∷ []) (length rows) ≡ Some row
at_end [] row = refl
at_end (first ∷ rows) row = at_end rows row

last_of : (rows : List Row) (row : Row) → last_row (rows ++ row ∷ []) ≡ Some row
last_of rows row =
    let last : length (rows ++ row ∷ []) - 1 ≡ length rows = omega (arith, length-append rows (row ∷ [])) in
    ap (slice_get (rows ++ row ∷ [])) last ∙ at_end rows row

pub begun_runs : (hs begun : List PlainHistory) (attempt : PlainAttempt) (at : When) → begun ≡ with_begun attempt.action.id (new_row attempt.row at.moment) hs → HeldRuns (Some attempt) begun
begun_runs hs begun attempt at is =
    let row = new_row attempt.row at.moment in
    let id = attempt.action.id in
    let last : last_row (rows_at id begun) ≡ Some row =
    ap (λ l. last_row (rows_at id l)) is ∙ ap last_row (rows_here (record { action = id; rows = rows_at id hs ++ row ∷ []; pending = true }) hs) ∙ last_of (rows_at id hs) row in
    subst (λ (o : Option Row). IsSomeAnd o (λ r. (r.end ≡ None) × (r.number ≡ attempt.row))) (sym last) (refl, refl)

-- ---- what a save leaves as it is
pub saved_same : {X : Type 0} (f : State → X) → ((s : State) → f (as_saved s) ≡ f s) → (result : SaveResult) (s : State) → f (after_save result s) ≡ f s
saved_same f same save.Done s = same s
saved_same f same save.Failed s = refl
saved_same f same save.Memory s = refl
