-- The row of a beginning, taken back where it isn't saved, and marks with it.
use Rattle.std.proofs.Common.{ℕ, ◌≡◌, ℤ, List, [], ◌∷◌, ◌++◌, true, inr, refl, sym, ap, subst, ◌∙◌, None, Err}
use Rattle.std.specs.declared.option.Option.{Option}
use Rattle.std.specs.Option.{option_map}
use Rattle.act_rules.specs.declared.row.Row.{Row}
use Rattle.agent_text.specs.declared.pocket.SaveResult.{SaveResult}
use Rattle.agent_text.specs.declared.pocket.SaveResult.TheVariants as save
use Rattle.agent_text.specs.Befores.{PlainBefore, before_of, with_before}
use Rattle.agent_text.specs.Histories.{AreHistories, PlainHistory, rows_at, with_begun}
use Rattle.agent_text.specs.Pockets.{PocketView, SavesTo}
use Rattle.agent_text.proofs.BeforeLemmas.{put_back_put}
use Rattle.agent_attempt.specs.Attempts.{PlainAttempt}
use Rattle.agent_attempt.specs.Stages.{shown_attempt}
use Rattle.agent_state.specs.States.{State, new_row, next_row, text_of, with_beginning, with_histories, with_unsaved}
use Rattle.agent_core.specs.declared.kept_state.KeptState.{KeptState}
use Rattle.agent_core.specs.declared.turned.Turned.TheVariants.{Memory, PocketFault}
use Rattle.agent_core.specs.Inside.{IsSoundKept, state_of}
use Rattle.agent_core.specs.Marked.{undone}
use Rattle.agent_core.specs.Marking.{AreMarksOf, unmarked_state}
use Rattle.agent_core.specs.Steps.{SavesBeginning, SavesKept, after_save}
use Rattle.agent_core.proofs.HeldAttempt.{none_shown}
use Rattle.agent_core.proofs.Keeping.{GoStanding, sound_with, standing_back, standing_unbegun}
use Rattle.agent_core.proofs.Sounding.{sound_unsaved}

abbrev pub histories_of : State → List PlainHistory
histories_of s = s.histories

abbrev held_of : State → Option PlainAttempt
held_of s = s.held

-- what stood of the action is put back
pub row_back : (action : ℕ) (row : Row) (hs : List PlainHistory) → AreHistories hs → with_before (before_of action hs) (with_begun action row hs) ≡ hs
row_back action row hs are = put_back_put (record { action = action; rows = rows_at action hs ++ row ∷ []; pending = true }) hs are

-- the state with the row, whose number is the next
pub begun_state : (a b : KeptState) (action number : ℕ) (moment : ℤ) → number ≡ next_row action a.histories
    → b ≡ record a { histories = with_begun action (new_row number moment) a.histories } → state_of b ≡ with_beginning action moment (state_of a)
begun_state a b action number moment next is =
    ap state_of is ∙ ap (λ n. with_histories (with_begun action (new_row n moment) a.histories) (state_of a)) next

module _ (a : KeptState) (action : ℕ) (moment : ℤ) (row : PlainBefore) (before : List PlainBefore) (are : AreMarksOf before a) (is : row ≡ before_of action a.histories) where
  abbrev own : Row
  own = new_row (next_row action a.histories) moment

  -- ---- a state with the row
  module _ (b : KeptState) (same : state_of b ≡ with_beginning action moment (state_of a)) where
    begun_histories : b.histories ≡ with_begun action own a.histories
    begun_histories = ap histories_of same

    row_histories : with_before row b.histories ≡ a.histories
    row_histories = (λ j. with_before (is j) (begun_histories j)) ∙ row_back action own a.histories are.sound.sound.saved.histories

    none_held : b.held ≡ None
    none_held = none_shown b.held (ap held_of same ∙ ap (option_map shown_attempt) are.free)

    -- without the row
    pub row_state : state_of (record b { histories = with_before row b.histories }) ≡ state_of a
    row_state = λ j. with_histories (row_histories j) (same j)

    pub row_sound : IsSoundKept b → IsSoundKept (record b { histories = with_before row b.histories })
    row_sound sound =
        let there : GoStanding b.histories a.histories = subst (λ hs. GoStanding hs a.histories) (sym begun_histories) (standing_unbegun action own a.histories refl) in
        sound_with b (with_before row b.histories) (subst AreHistories (sym row_histories) are.sound.sound.saved.histories) none_held (subst (GoStanding b.histories) (sym row_histories) there) sound

    -- without the row and the marks
    pub marks_state : state_of (record b { histories = undone before (with_before row b.histories) }) ≡ unmarked_state before a
    marks_state = λ j. with_histories (undone before (row_histories j)) (same j)

    pub marks_sound : IsSoundKept b → IsSoundKept (record b { histories = undone before (with_before row b.histories) })
    marks_sound sound =
        let there : GoStanding b.histories (undone before a.histories) = standing_back (undone before a.histories) a.histories b.histories action own refl begun_histories are.marked in
        sound_with b (undone before (with_before row b.histories)) (subst (λ hs. AreHistories (undone before hs)) (sym row_histories) are.good) none_held
        (subst (λ hs. GoStanding b.histories (undone before hs)) (sym row_histories) there) sound

  -- ---- that state is saved
  module _ (b e : KeptState) (result : SaveResult) (old new : PocketView) (same : state_of b ≡ with_beginning action moment (state_of a)) (kept : SavesKept b old result e new) where
    saved_to : (other : SaveResult) → result ≡ other → SavesTo (text_of (with_beginning action moment (state_of a))) old other new
    saved_to other is_other = subst (λ x. SavesTo (text_of x) old other new) same (subst (λ r. SavesTo (text_of (state_of b)) old r new) is_other kept.saves)

    saved_state : (other : SaveResult) → result ≡ other → state_of e ≡ after_save other (with_beginning action moment (state_of a))
    saved_state other is_other = kept.state ∙ (λ j. after_save (is_other j) (same j))

    pub saves_failed : (now : KeptState) → result ≡ save.Failed → now ≡ record e { histories = with_before row e.histories; unsaved = true }
        → SavesBeginning (unmarked_state before a) (state_of a) (with_beginning action moment (state_of a)) old (Err PocketFault) (state_of now) new
    saves_failed now failed left = inr (save.Failed, saved_to save.Failed failed, (refl, ap state_of left ∙ ap with_unsaved (row_state e (saved_state save.Failed failed))))

    pub failed_sound : (now : KeptState) → result ≡ save.Failed → now ≡ record e { histories = with_before row e.histories; unsaved = true } → IsSoundKept now
    failed_sound now failed left =
        let is_sound = row_sound e (saved_state save.Failed failed) kept.sound in
        subst IsSoundKept (sym left) (record { sound = sound_unsaved (state_of (record e { histories = with_before row e.histories })) is_sound.sound; tallies = is_sound.tallies })

    pub saves_memory : (now : KeptState) → result ≡ save.Memory → now ≡ record e { histories = undone before (with_before row e.histories) }
        → SavesBeginning (unmarked_state before a) (state_of a) (with_beginning action moment (state_of a)) old (Err Memory) (state_of now) new
    saves_memory now none left = inr (save.Memory, saved_to save.Memory none, (refl, ap state_of left ∙ marks_state e (saved_state save.Memory none)))

    pub memory_sound : (now : KeptState) → result ≡ save.Memory → now ≡ record e { histories = undone before (with_before row e.histories) } → IsSoundKept now
    memory_sound now none left = subst IsSoundKept (sym left) (marks_sound e (saved_state save.Memory none) kept.sound)
