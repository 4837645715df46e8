-- KeptState of a turn put together: saves, and the first step that applies.
use Rattle.std.proofs.Common.{◌≡◌, ◌≤◌, ◌+◌, ℕ, List, Bool, true, false, inr, Option, Some, None, refl, sym, ap, subst, ◌∙◌, arith}
use Rattle.std.specs.Prelude.{◌≢◌}
use Rattle.act_rules.specs.declared.row.Note.{Note}
use Rattle.script_run.specs.Asking.{When}
use Rattle.bf_machine.specs.Views.{MachineView}
use Rattle.agent_text.specs.declared.pocket.SaveResult.{SaveResult}
use Rattle.agent_text.specs.declared.pocket.SaveResult.TheVariants as save
use Rattle.agent_text.specs.Pockets.{PocketView, Saves, SavesTo}
use Rattle.agent_attempt.specs.declared.went.Fail.{Fail}
use Rattle.agent_attempt.specs.declared.went.Went.{Went}
use Rattle.agent_attempt.specs.declared.went.Went.TheVariants as went
use Rattle.agent_attempt.specs.Attempts.{PlainAttempt}
use Rattle.agent_attempt.specs.Going.{GoesTo}
use Rattle.agent_core.specs.declared.turned.Turned.{Turned}
use Rattle.agent_core.specs.declared.turned.Turned.TheVariants.{Interrupted, Held, Wants, Ended, PocketFault, Memory}
use Rattle.agent_state.specs.States.{State, as_saved, broken_action, can_report, interrupted, text_of, with_end, with_held, with_report, with_unsaved}
use Rattle.agent_core.specs.Devices.{Devices}
use Rattle.agent_core.specs.Saving.{OrMemory}
use Rattle.agent_core.specs.Steps.{after_save}
use Rattle.agent_core.specs.Turns.{Finishes, FirstSave, TurnGoesOn, Interrupts, LastSave, ReportsAndSaves, StepFor, Steps, Turn, outcome_of}
use Rattle.agent_core.proofs.TurnPoints.{with_machine, with_pocket}

-- ---- saves
-- want of memory before a save
saved_none : (text : List ℕ) (told : Option (Option (List ℕ))) → Saves text save.Memory told told
saved_none text None = refl
saved_none text (Some now) = refl

pub no_save : (text : List ℕ) (pocket : PocketView) → SavesTo text pocket save.Memory pocket
no_save text pocket = record { saves = saved_none text pocket.saved; counts = record { rose = λ e. absurd (cc); steady = λ e. refl; later = omega arith } }

-- ---- the turn
pub turn_clean : (at : When) (s : State) (d : Devices) (a : Turned) (s2 : State) (d2 : Devices) → s.unsaved ≡ false → Steps at s d a s2 d2 → Turn at s d a s2 d2
turn_clean at s d a s2 d2 clean h = subst (λ b. FirstSave b at s d a s2 d2) (sym clean) h

pub turn_saved : (at : When) (s now : State) (d : Devices) (result : SaveResult) (pocket : PocketView) (a : Turned) (s2 : State) (d2 : Devices) → s.unsaved ≡ true → result ≡ save.Done → SavesTo (text_of s) d.pocket result pocket → now ≡ after_save result s
    → Steps at now (with_pocket pocket d) a s2 d2 → Turn at s d a s2 d2
turn_saved at s now d result pocket a s2 d2 dirty done saves is h =
    let state : now ≡ as_saved s = is ∙ ap (λ r. after_save r s) done in
    subst (λ b. FirstSave b at s d a s2 d2) (sym dirty)
    (save.Done, pocket, subst (λ r. SavesTo (text_of s) d.pocket r pocket) done saves, subst (λ x. Steps at x (with_pocket pocket d) a s2 d2) state h)

pub turn_failed : (at : When) (s now : State) (d : Devices) (result : SaveResult) (pocket : PocketView) → s.unsaved ≡ true → result ≡ save.Failed → SavesTo (text_of s) d.pocket result pocket → now ≡ after_save result s
    → Turn at s d PocketFault now (with_pocket pocket d)
turn_failed at s now d result pocket dirty failed saves is =
    subst (λ b. FirstSave b at s d PocketFault now (with_pocket pocket d)) (sym dirty)
    (save.Failed, pocket, subst (λ r. SavesTo (text_of s) d.pocket r pocket) failed saves, (refl, is ∙ ap (λ r. after_save r s) failed, refl))

pub turn_memory : (at : When) (s now : State) (d : Devices) (result : SaveResult) (pocket : PocketView) → s.unsaved ≡ true → result ≡ save.Memory → SavesTo (text_of s) d.pocket result pocket → now ≡ after_save result s
    → Turn at s d Memory now (with_pocket pocket d)
turn_memory at s now d result pocket dirty failed saves is =
    subst (λ b. FirstSave b at s d Memory now (with_pocket pocket d)) (sym dirty)
    (save.Memory, pocket, subst (λ r. SavesTo (text_of s) d.pocket r pocket) failed saves, (refl, is ∙ ap (λ r. after_save r s) failed, refl))

-- ---- the steps
pub steps_broken : (at : When) (s : State) (d : Devices) (id : ℕ) (a : Turned) (s2 : State) (d2 : Devices) → broken_action s ≡ Some id → Interrupts at id s d a s2 d2 → Steps at s d a s2 d2
steps_broken at s d id a s2 d2 is h = subst (λ b. StepFor at b s.held s d a s2 d2) (sym is) h

pub steps_held : (at : When) (s : State) (d : Devices) (attempt : PlainAttempt) (a : Turned) (s2 : State) (d2 : Devices) → broken_action s ≡ None → s.held ≡ Some attempt
    → OrMemory (with_held (Some attempt) (with_held None s)) d (TurnGoesOn at false attempt (with_held (Some attempt) (with_held None s)) d) a s2 d2 → Steps at s d a s2 d2
steps_held at s d attempt a s2 d2 none held h =
    let same : with_held (Some attempt) (with_held None s) ≡ s = ap (λ x. with_held x s) (sym held) in
    let there = subst (λ x. OrMemory x d (TurnGoesOn at false attempt x d) a s2 d2) same h in
    subst (λ b. StepFor at b s.held s d a s2 d2) (sym none) (subst (λ b. StepFor at None b s d a s2 d2) (sym held) there)

pub steps_tries : (at : When) (s : State) (d : Devices) (a : Turned) (s2 : State) (d2 : Devices) → broken_action s ≡ None → s.held ≡ None
    → StepFor at None None s d a s2 d2 → Steps at s d a s2 d2
steps_tries at s d a s2 d2 none held h = subst (λ b. StepFor at b s.held s d a s2 d2) (sym none) (subst (λ b. StepFor at None b s d a s2 d2) (sym held) h)

-- ---- the end of a turn
pub finishes_reported : (changed : Bool) (would : Turned) (s now : State) (d : Devices) (a : Turned) (s2 : State) (d2 : Devices) → can_report s ≡ true → now ≡ with_report s → LastSave true would now d a s2 d2 → Finishes changed would s d a s2 d2
finishes_reported changed would s now d a s2 d2 can is h =
    subst (λ b. ReportsAndSaves b changed would s d a s2 d2) (sym can) (subst (λ x. LastSave true would x d a s2 d2) is h)

pub finishes_changed : (changed : Bool) (would : Turned) (s : State) (d : Devices) (a : Turned) (s2 : State) (d2 : Devices) → can_report s ≡ false → LastSave changed would s d a s2 d2 → Finishes changed would s d a s2 d2
finishes_changed changed would s d a s2 d2 can h = subst (λ b. ReportsAndSaves b changed would s d a s2 d2) (sym can) h

-- the same from what is equal
pub finishes_as : (changed : Bool) (would other : Turned) (s now : State) (d : Devices) (a : Turned) (s2 : State) (d2 : Devices) → would ≡ other → now ≡ s → Finishes changed would now d a s2 d2 → Finishes changed other s d a s2 d2
finishes_as changed would other s now d a s2 d2 e is h = subst (λ w. Finishes changed w s d a s2 d2) e (subst (λ x. Finishes changed would x d a s2 d2) is h)

pub last_done : (would : Turned) (s now : State) (d : Devices) (result : SaveResult) (pocket : PocketView) → result ≡ save.Done → SavesTo (text_of s) d.pocket result pocket → now ≡ after_save result s → LastSave true would s d would now (with_pocket pocket d)
last_done would s now d result pocket done saves is =
    (save.Done, pocket, subst (λ r. SavesTo (text_of s) d.pocket r pocket) done saves, (refl, is ∙ ap (λ r. after_save r s) done, refl))

pub last_failed : (would : Turned) (s now : State) (d : Devices) (result : SaveResult) (pocket : PocketView) → result ≡ save.Failed → SavesTo (text_of s) d.pocket result pocket → now ≡ after_save result s
    → LastSave true would s d PocketFault (with_unsaved now) (with_pocket pocket d)
last_failed would s now d result pocket done saves is =
    (save.Failed, pocket, subst (λ r. SavesTo (text_of s) d.pocket r pocket) done saves, (refl, ap with_unsaved (is ∙ ap (λ r. after_save r s) done), refl))

pub last_memory : (would : Turned) (s now : State) (d : Devices) (result : SaveResult) (pocket : PocketView) → result ≡ save.Memory → SavesTo (text_of s) d.pocket result pocket → now ≡ after_save result s
    → LastSave true would s d Memory (with_unsaved now) (with_pocket pocket d)
last_memory would s now d result pocket done saves is =
    (save.Memory, pocket, subst (λ r. SavesTo (text_of s) d.pocket r pocket) done saves, (refl, ap with_unsaved (is ∙ ap (λ r. after_save r s) done), refl))

-- ---- an attempt that goes on
pub goes_held : (at : When) (began : Bool) (attempt now : PlainAttempt) (s : State) (d : Devices) (w : Went) (component line : ℕ) (machine : MachineView) (a : Turned) (s2 : State) (d2 : Devices) → w ≡ went.Held component line
    → GoesTo at attempt d.machine w machine now → Finishes false (Held attempt.action.id began component line) (with_held (Some now) s) (with_machine machine d) a s2 d2 → TurnGoesOn at began attempt s d a s2 d2
goes_held at began attempt now s d w component line machine a s2 d2 is goes h =
    (went.Held component line, machine, Some now, subst (λ x. GoesTo at attempt d.machine x machine now) is goes, h)

pub goes_wants : (at : When) (began : Bool) (attempt now : PlainAttempt) (s : State) (d : Devices) (w : Went) (digest : List ℕ) (machine : MachineView) (a : Turned) (s2 : State) (d2 : Devices) → w ≡ went.Wants digest
    → GoesTo at attempt d.machine w machine now → Finishes false (Wants attempt.action.id began digest) (with_held (Some now) s) (with_machine machine d) a s2 d2 → TurnGoesOn at began attempt s d a s2 d2
goes_wants at began attempt now s d w digest machine a s2 d2 is goes h =
    (went.Wants digest, machine, Some now, subst (λ x. GoesTo at attempt d.machine x machine now) is goes, h)

pub goes_ended : (at : When) (began : Bool) (attempt now : PlainAttempt) (s : State) (d : Devices) (w : Went) (fail : Option Fail) (note : Note) (machine : MachineView) (a : Turned) (s2 : State) (d2 : Devices) → w ≡ went.Ended fail note
    → GoesTo at attempt d.machine w machine now → Finishes true (Ended attempt.action.id began (outcome_of fail) fail) (with_end attempt.action.id at.moment (outcome_of fail) note s) (with_machine machine d) a s2 d2
    → TurnGoesOn at began attempt s d a s2 d2
goes_ended at began attempt now s d w fail note machine a s2 d2 is goes h =
    (went.Ended fail note, machine, None, subst (λ x. GoesTo at attempt d.machine x machine now) is goes, h)

pub goes_memory : (at : When) (began : Bool) (attempt now : PlainAttempt) (s : State) (d : Devices) (w : Went) (machine : MachineView) → w ≡ went.Memory
    → GoesTo at attempt d.machine w machine now → TurnGoesOn at began attempt s d Memory (with_held (Some now) s) (with_machine machine d)
goes_memory at began attempt now s d w machine is goes =
    (went.Memory, machine, Some now, subst (λ x. GoesTo at attempt d.machine x machine now) is goes, (refl, refl, refl))

-- ---- a broken attempt
pub breaks_done : (at : When) (id : ℕ) (s ended now : State) (d : Devices) (result : SaveResult) (pocket : PocketView) (a : Turned) (s2 : State) (d2 : Devices) → ended ≡ interrupted id at.moment s → result ≡ save.Done → SavesTo (text_of ended) d.pocket result pocket
    → now ≡ after_save result ended → Finishes false (Interrupted id) now (with_pocket pocket d) a s2 d2 → Interrupts at id s d a s2 d2
breaks_done at id s ended now d result pocket a s2 d2 is done saves saved h =
    let state : now ≡ as_saved (interrupted id at.moment s) = saved ∙ ap (λ r. after_save r ended) done ∙ ap as_saved is in
    inr (
      save.Done,
      pocket,
      subst (λ x. SavesTo (text_of x) d.pocket save.Done pocket) is (subst (λ r. SavesTo (text_of ended) d.pocket r pocket) done saves),
      subst (λ x. Finishes false (Interrupted id) x (with_pocket pocket d) a s2 d2) state h,
    )

pub breaks_failed : (at : When) (id : ℕ) (s ended now : State) (d : Devices) (result : SaveResult) (pocket : PocketView) → ended ≡ interrupted id at.moment s → result ≡ save.Failed → SavesTo (text_of ended) d.pocket result pocket
    → now ≡ after_save result ended → Interrupts at id s d PocketFault (with_unsaved now) (with_pocket pocket d)
breaks_failed at id s ended now d result pocket is done saves saved =
    let state : now ≡ interrupted id at.moment s = saved ∙ ap (λ r. after_save r ended) done ∙ is in
    inr (save.Failed, pocket, subst (λ x. SavesTo (text_of x) d.pocket save.Failed pocket) is (subst (λ r. SavesTo (text_of ended) d.pocket r pocket) done saves), (refl, ap with_unsaved state, refl))

pub breaks_memory : (at : When) (id : ℕ) (s ended now : State) (d : Devices) (result : SaveResult) (pocket : PocketView) → ended ≡ interrupted id at.moment s → result ≡ save.Memory → SavesTo (text_of ended) d.pocket result pocket
    → now ≡ after_save result ended → Interrupts at id s d Memory (with_unsaved now) (with_pocket pocket d)
breaks_memory at id s ended now d result pocket is done saves saved =
    let state : now ≡ interrupted id at.moment s = saved ∙ ap (λ r. after_save r ended) done ∙ is in
    inr (save.Memory, pocket, subst (λ x. SavesTo (text_of x) d.pocket save.Memory pocket) is (subst (λ r. SavesTo (text_of ended) d.pocket r pocket) done saves), (refl, ap with_unsaved state, refl))

-- ---- room
pub within : (l m n k : ℕ) → l ≤ m → k ≡ m → k ≤ n → l ≤ n
within l m n k short is room = omega (arith, short, is, room)

pub within_more : (l m more n : ℕ) → l ≤ m → m + more ≤ n → l ≤ n
within_more l m more n short room = omega (arith, short, room)

-- ---- an answer that there is none
pub none_is : {X : Type 0} (answer : Option X) → ((x : X) → answer ≢ Some x) → answer ≡ None
none_is None other = refl
none_is (Some x) other = absurd (other x refl)
