-- A turn over a pocket that may not tell its text is one over a pocket that tells it, with the same answer and on the same machine.
use Rattle.std.proofs.Common.{◌≡◌, ℕ, Bool, true, false, List, [], ◌∷◌, None, Some, inl, inr, refl, sym, ap, subst}
use Rattle.std.specs.declared.option.Option.{Option}
use Rattle.act_rules.specs.Rows.{last_row}
use Rattle.fix_site.specs.declared.action.Action.{Action}
use Rattle.script_run.specs.Asking.{When}
use Rattle.bf_machine.specs.Views.{MachineView}
use Rattle.agent_text.specs.declared.pocket.SaveResult.{SaveResult}
use Rattle.agent_text.specs.declared.pocket.SaveResult.TheVariants as save
use Rattle.agent_text.specs.Histories.{rows_at}
use Rattle.agent_text.specs.Pockets.{Holds, PocketView, SavedAs, Saves, SavesTo}
use Rattle.agent_attempt.specs.declared.found.Found.{Found}
use Rattle.agent_attempt.specs.declared.found.Found.TheVariants as found
use Rattle.agent_attempt.specs.declared.went.Went.{Went}
use Rattle.agent_attempt.specs.declared.went.Went.TheVariants as went
use Rattle.agent_attempt.specs.ActionContents.{Content, actions_of, content_of}
use Rattle.agent_attempt.specs.Attempts.{PlainAttempt}
use Rattle.agent_attempt.specs.Relevance.{Asking, ContentIs, IsDue}
use Rattle.agent_state.specs.States.{State, as_saved, broken_action, can_report, interrupted, text_of, with_beginning, with_end, with_held, with_histories, with_report, with_unsaved}
use Rattle.agent_core.specs.Devices.{Devices}
use Rattle.agent_core.specs.Saving.{Answers, Ending, SavesThen, TurnAsks}
use Rattle.agent_core.specs.Turns.{AfterBeginning, AfterFirstSave, AfterGoing, AfterInterrupting, AfterLastSave, AfterTest, AfterTrying, Begins, Clears, Finishes, FirstSave, Interrupts, Marks, ReportsAndSaves, StepFor, Steps, TestsOne, TriesEach, TriesMarked, Turn, TurnGoesOn, beginning, may_clear, no_marks, outcome_of, with_mark}
use Rattle.agent_core.specs.declared.turned.Turned.{Turned}
use Rattle.agent_core.specs.declared.turned.Turned.TheVariants.{Idle, Interrupted, Held, Wants, Ended, MachineFault, PocketFault, Memory}

-- a pocket, and devices, that tell this text
abbrev shown_pocket : Option (List ℕ) → PocketView → PocketView
shown_pocket saved pocket = record { saved = Some saved; faults = pocket.faults }

abbrev pub shown : Option (List ℕ) → Devices → Devices
shown saved d = record d { pocket = shown_pocket saved d.pocket }

-- where the pocket tells its text, it is this
abbrev pub Has : Option (List ℕ) → Devices → Type 0
Has saved d = Holds d.pocket.saved (λ now. now ≡ saved)

-- ---- saves
-- what a save leaves that was answered so
leaves : (text : List ℕ) (result : SaveResult) (saved : Option (List ℕ)) → (saved2 : Option (List ℕ)) × SavedAs text result saved saved2
leaves text save.Done saved = (Some text, refl)
leaves text save.Failed saved = (saved, inl refl)
leaves text save.Memory saved = (saved, refl)

changed : (text : List ℕ) (result : SaveResult) (old new : Option (Option (List ℕ))) (saved : Option (List ℕ)) → Holds old (λ now. now ≡ saved) → Saves text result old new
    → (saved2 : Option (List ℕ)) × Holds new (λ now. now ≡ saved2) × SavedAs text result saved saved2
changed text result None new saved has is =
    let left = leaves text result saved in
    let P : Option (Option (List ℕ)) → Type 0 = λ o. Holds o (λ now. now ≡ left.0) in
    (left.0, subst P (sym is) tt, left.1)
changed text result (Some before) None saved has is = absurd is
changed text result (Some before) (Some now) saved has is =
    let P : Option (List ℕ) → Type 0 = λ b. SavedAs text result b now in
    (now, refl, subst P has is)

record SavesSo (text : List ℕ) (result : SaveResult) (old new : PocketView) (saved : Option (List ℕ)) : Type 0 where
  saved2 : Option (List ℕ)
  has : Holds new.saved (λ now. now ≡ saved2)
  saves : SavesTo text (shown_pocket saved old) result (shown_pocket saved2 new)

saves_so : (text : List ℕ) (result : SaveResult) (old new : PocketView) (saved : Option (List ℕ)) → Holds old.saved (λ now. now ≡ saved) → SavesTo text old result new → SavesSo text result old new saved
saves_so text result old new saved has h =
    let it = changed text result old.saved new.saved saved has h.saves in
    record { saved2 = it.0; has = it.1; saves = record { saves = it.2; counts = h.counts } }

module _ (at : When) (a : Turned) (s2 : State) (d2 : Devices) where
  -- what it comes to, with the text that the pocket has then
  abbrev Shown : (Devices → Type 0) → Type 0
  Shown E = (saved2 : Option (List ℕ)) × Has saved2 d2 × E (shown saved2 d2)

  answers : (would : Turned) (s : State) (saved : Option (List ℕ)) (d : Devices) → Has saved d → Answers would s d a s2 d2 → Shown (λ x. Answers would s (shown saved d) a s2 x)
  answers would s saved d has (is, state, same) =
      let P : Devices → Type 0 = λ x. Has saved x in
      (saved, subst P (sym same) has, (is, state, ap (λ x. shown saved x) same))

  saves_then : (s : State) (saved : Option (List ℕ)) (d : Devices) (after : SaveResult → Devices → Ending) → Has saved d
      → ((result : SaveResult) (saved : Option (List ℕ)) (d : Devices) → Has saved d → after result d a s2 d2 → Shown (λ x. after result (shown saved d) a s2 x))
      → SavesThen s d after a s2 d2 → Shown (λ x. SavesThen s (shown saved d) after a s2 x)
  saves_then s saved d after has further (result, pocket, saves, h) =
      let so = saves_so (text_of s) result d.pocket pocket saved has saves in
      let rest = further result so.saved2 (record d { pocket = pocket }) so.has h in
      (rest.0, rest.1, (result, shown_pocket so.saved2 pocket, so.saves, rest.2))

  asks : (ask : Asking) (saved : Option (List ℕ)) (d : Devices) (after : Found → Devices → Ending) → Has saved d
      → ((f : Found) (machine : MachineView) → after f (record d { machine = machine }) a s2 d2 → Shown (λ x. after f (shown saved (record d { machine = machine })) a s2 x))
      → TurnAsks ask d after a s2 d2 → Shown (λ x. TurnAsks ask (shown saved d) after a s2 x)
  asks ask saved d after has further (f, machine, is, h) =
      let rest = further f machine h in
      (rest.0, rest.1, (f, machine, is, rest.2))

  -- ---- the end of the turn
  after_last : (result : SaveResult) (would : Turned) (s : State) (saved : Option (List ℕ)) (d : Devices) → Has saved d → AfterLastSave would s result d a s2 d2
      → Shown (λ x. AfterLastSave would s result (shown saved d) a s2 x)
  after_last save.Done would s saved d has h = answers would (as_saved s) saved d has h
  after_last save.Failed would s saved d has h = answers PocketFault (with_unsaved s) saved d has h
  after_last save.Memory would s saved d has h = answers Memory (with_unsaved s) saved d has h

  last_save : (would : Turned) (s : State) (saved : Option (List ℕ)) (d : Devices) → Has saved d → SavesThen s d (AfterLastSave would s) a s2 d2 → Shown (λ x. SavesThen s (shown saved d) (AfterLastSave would s) a s2 x)
  last_save would s saved d has h = saves_then s saved d (AfterLastSave would s) has (λ result saved d has h. after_last result would s saved d has h) h

  finishes_by : (can changes : Bool) (would : Turned) (s : State) (saved : Option (List ℕ)) (d : Devices) → Has saved d → ReportsAndSaves can changes would s d a s2 d2
      → Shown (λ x. ReportsAndSaves can changes would s (shown saved d) a s2 x)
  finishes_by true changes would s saved d has h = last_save would (with_report s) saved d has h
  finishes_by false true would s saved d has h = last_save would s saved d has h
  finishes_by false false would s saved d has h = answers would s saved d has h

  finishes : (changes : Bool) (would : Turned) (s : State) (saved : Option (List ℕ)) (d : Devices) → Has saved d → Finishes changes would s d a s2 d2 → Shown (λ x. Finishes changes would s (shown saved d) a s2 x)
  finishes changes would s saved d has h = finishes_by (can_report s) changes would s saved d has h

  -- ---- an attempt goes on
  after_going : (w : Went) (id : ℕ) (began : Bool) (after : Option PlainAttempt) (s : State) (saved : Option (List ℕ)) (d : Devices) → Has saved d → AfterGoing at id began w after s d a s2 d2
      → Shown (λ x. AfterGoing at id began w after s (shown saved d) a s2 x)
  after_going (went.Held component line) id began after s saved d has h = finishes false (Held id began component line) (with_held after s) saved d has h
  after_going (went.Wants digest) id began after s saved d has h = finishes false (Wants id began digest) (with_held after s) saved d has h
  after_going (went.Ended fail note) id began after s saved d has h = finishes true (Ended id began (outcome_of fail) fail) (with_end id at.moment (outcome_of fail) note s) saved d has h
  after_going went.Memory id began after s saved d has h = answers Memory (with_held after s) saved d has h

  goes : (began : Bool) (attempt : PlainAttempt) (s : State) (saved : Option (List ℕ)) (d : Devices) → Has saved d → TurnGoesOn at began attempt s d a s2 d2 → Shown (λ x. TurnGoesOn at began attempt s (shown saved d) a s2 x)
  goes began attempt s saved d has (w, machine, after, is, h) =
      let rest = after_going w attempt.action.id began after s saved (record d { machine = machine }) has h in
      (rest.0, rest.1, (w, machine, after, is, rest.2))

  -- ---- a broken attempt
  after_broken : (result : SaveResult) (id : ℕ) (s : State) (saved : Option (List ℕ)) (d : Devices) → Has saved d → AfterInterrupting id s result d a s2 d2 → Shown (λ x. AfterInterrupting id s result (shown saved d) a s2 x)
  after_broken save.Done id s saved d has h = finishes false (Interrupted id) (as_saved s) saved d has h
  after_broken save.Failed id s saved d has h = answers PocketFault (with_unsaved s) saved d has h
  after_broken save.Memory id s saved d has h = answers Memory (with_unsaved s) saved d has h

  breaks : (id : ℕ) (s : State) (saved : Option (List ℕ)) (d : Devices) → Has saved d → Interrupts at id s d a s2 d2 → Shown (λ x. Interrupts at id s (shown saved d) a s2 x)
  breaks id s saved d has (inl h) = let it = answers Memory s saved d has h in (it.0, it.1, inl it.2)
  breaks id s saved d has (inr h) =
      let it = saves_then (interrupted id at.moment s) saved d (AfterInterrupting id (interrupted id at.moment s)) has
      (λ result saved d has h. after_broken result id (interrupted id at.moment s) saved d has h) h in
      (it.0, it.1, inr it.2)

  -- ---- an action begins
  after_begun : (result : SaveResult) (s marked begun : State) (attempt : PlainAttempt) (saved : Option (List ℕ)) (d : Devices) → Has saved d → AfterBeginning at s marked begun attempt result d a s2 d2
      → Shown (λ x. AfterBeginning at s marked begun attempt result (shown saved d) a s2 x)
  after_begun save.Done s marked begun attempt saved d has h = goes true attempt (as_saved begun) saved d has h
  after_begun save.Failed s marked begun attempt saved d has h = answers PocketFault (with_unsaved marked) saved d has h
  after_begun save.Memory s marked begun attempt saved d has h = answers Memory s saved d has h

  begins : (content : Option Content) (s marked : State) (action : Action) (saved : Option (List ℕ)) (d : Devices) → Has saved d → Begins at s marked action content d a s2 d2
      → Shown (λ x. Begins at s marked action content (shown saved d) a s2 x)
  begins None s marked action saved d has h = absurd h
  begins (Some content) s marked action saved d has h =
      let begun = with_beginning action.id at.moment marked in
      let attempt = beginning at action content marked in
      saves_then begun saved d (AfterBeginning at s marked begun attempt) has (λ result saved d has h. after_begun result s marked begun attempt saved d has h) h

  -- ---- the actions are tried
  after_try : (f : Found) (s marked : State) (action : Action) (next : Devices → Ending) (saved : Option (List ℕ)) (d : Devices) → Has saved d
      → ((saved : Option (List ℕ)) (d : Devices) → Has saved d → next d a s2 d2 → Shown (λ x. next (shown saved d) a s2 x))
      → AfterTrying at s marked action next f d a s2 d2 → Shown (λ x. AfterTrying at s marked action next f (shown saved d) a s2 x)
  after_try found.Yes s marked action next saved d has further h = begins (content_of action s.sites) s marked action saved d has h
  after_try found.No s marked action next saved d has further h = further saved d has h
  after_try found.Failed s marked action next saved d has further h = answers MachineFault s saved d has h
  after_try found.Memory s marked action next saved d has further h = answers Memory s saved d has h

  tries_each : (actions : List Action) (s marked : State) (any : Bool) (saved : Option (List ℕ)) (d : Devices) → Has saved d → TriesEach at s marked any actions d a s2 d2
      → Shown (λ x. TriesEach at s marked any actions (shown saved d) a s2 x)
  tries_each [] s marked any saved d has (inl h) = let it = answers Memory s saved d has h in (it.0, it.1, inl it.2)
  tries_each [] s marked any saved d has (inr h) = let it = finishes any Idle marked saved d has h in (it.0, it.1, inr it.2)
  tries_each (action ∷ actions) s marked any saved d has h =
      let next = TriesEach at s marked any actions in
      asks (IsDue at s.computer action (content_of action s.sites) (rows_at action.id marked.histories)) saved d (AfterTrying at s marked action next) has
      (λ f machine h. after_try f s marked action next saved (record d { machine = machine }) has (λ saved d has h. tries_each actions s marked any saved d has h) h) h

  -- ---- marks
  after_test : (f : Found) (s : State) (id : ℕ) (marks : Marks) (next : Marks → Devices → Ending) (saved : Option (List ℕ)) (d : Devices) → Has saved d
      → ((marks : Marks) (saved : Option (List ℕ)) (d : Devices) → Has saved d → next marks d a s2 d2 → Shown (λ x. next marks (shown saved d) a s2 x))
      → AfterTest at s id marks next f d a s2 d2 → Shown (λ x. AfterTest at s id marks next f (shown saved d) a s2 x)
  after_test found.Yes s id marks next saved d has further h = further marks saved d has h
  after_test found.No s id marks next saved d has further h = further (with_mark at id marks) saved d has h
  after_test found.Failed s id marks next saved d has further h = answers MachineFault s saved d has h
  after_test found.Memory s id marks next saved d has further h = answers Memory s saved d has h

  tests : (may : Bool) (s : State) (action : Action) (marks : Marks) (next : Marks → Devices → Ending) (saved : Option (List ℕ)) (d : Devices) → Has saved d
      → ((marks : Marks) (saved : Option (List ℕ)) (d : Devices) → Has saved d → next marks d a s2 d2 → Shown (λ x. next marks (shown saved d) a s2 x))
      → TestsOne may at s action marks next d a s2 d2 → Shown (λ x. TestsOne may at s action marks next (shown saved d) a s2 x)
  tests false s action marks next saved d has further h = further marks saved d has h
  tests true s action marks next saved d has further h =
      asks (ContentIs at (content_of action s.sites)) saved d (AfterTest at s action.id marks next) has
      (λ f machine h. after_test f s action.id marks next saved (record d { machine = machine }) has further h) h

  clears : (actions all : List Action) (s : State) (marks : Marks) (saved : Option (List ℕ)) (d : Devices) → Has saved d → Clears at s actions marks (TriesMarked at s all) d a s2 d2
      → Shown (λ x. Clears at s actions marks (TriesMarked at s all) (shown saved d) a s2 x)
  clears [] all s marks saved d has h = tries_each all s (with_histories marks.histories s) marks.any saved d has h
  clears (action ∷ actions) all s marks saved d has h =
      tests (may_clear (last_row (rows_at action.id marks.histories))) s action marks (λ (then : Marks). Clears at s actions then (TriesMarked at s all)) saved d has
      (λ marks saved d has h. clears actions all s marks saved d has h) h

  -- ---- the steps
  step_for : (broken : Option ℕ) (held : Option PlainAttempt) (s : State) (saved : Option (List ℕ)) (d : Devices) → Has saved d → StepFor at broken held s d a s2 d2 → Shown (λ x. StepFor at broken held s (shown saved d) a s2 x)
  step_for (Some id) held s saved d has h = breaks id s saved d has h
  step_for None (Some attempt) s saved d has (inl h) = let it = answers Memory s saved d has h in (it.0, it.1, inl it.2)
  step_for None (Some attempt) s saved d has (inr h) = let it = goes false attempt s saved d has h in (it.0, it.1, inr it.2)
  step_for None None s saved d has (inl h) = let it = answers Memory s saved d has h in (it.0, it.1, inl it.2)
  step_for None None s saved d has (inr h) = let it = clears (actions_of s.sites) (actions_of s.sites) s (no_marks s) saved d has h in (it.0, it.1, inr it.2)

  steps : (s : State) (saved : Option (List ℕ)) (d : Devices) → Has saved d → Steps at s d a s2 d2 → Shown (λ x. Steps at s (shown saved d) a s2 x)
  steps s saved d has h = step_for (broken_action s) s.held s saved d has h

  after_first : (result : SaveResult) (s : State) (saved : Option (List ℕ)) (d : Devices) → Has saved d → AfterFirstSave at s result d a s2 d2 → Shown (λ x. AfterFirstSave at s result (shown saved d) a s2 x)
  after_first save.Done s saved d has h = steps (as_saved s) saved d has h
  after_first save.Failed s saved d has h = answers PocketFault s saved d has h
  after_first save.Memory s saved d has h = answers Memory s saved d has h

  first_by : (unsaved : Bool) (s : State) (saved : Option (List ℕ)) (d : Devices) → Has saved d → FirstSave unsaved at s d a s2 d2 → Shown (λ x. FirstSave unsaved at s (shown saved d) a s2 x)
  first_by false s saved d has h = steps s saved d has h
  first_by true s saved d has h = saves_then s saved d (AfterFirstSave at s) has (λ result saved d has h. after_first result s saved d has h) h

  pub turn_shown : (s : State) (saved : Option (List ℕ)) (d : Devices) → Has saved d → Turn at s d a s2 d2 → (saved2 : Option (List ℕ)) × Has saved2 d2 × Turn at s (shown saved d) a s2 (shown saved2 d2)
  turn_shown s saved d has h = first_by s.unsaved s saved d has h
