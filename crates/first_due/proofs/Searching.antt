-- The search for an action that is due, as the turn walks it, put into lists: what was asked up to its end.
use Rattle.std.proofs.Common.{ℕ, ◌≡◌, List, [], ◌∷◌, ◌++◌, Bool, true, false, ◌||◌, inl, inr, refl, sym, ap, subst, ◌∙◌}
use Rattle.std.proofs.Math.Bool.{or-false, or-true}
use Rattle.act_rules.specs.Rows.{last_row}
use Rattle.line_forms.proofs.Lasts.{Ascends, above_all, ascends_tail}
use Rattle.fix_site.specs.declared.action.Action.{Action}
use Rattle.script_run.specs.Asking.{When}
use Rattle.bf_machine.specs.Views.{MachineView}
use Rattle.agent_text.specs.Histories.{rows_at}
use Rattle.agent_attempt.specs.declared.found.Found.{Found}
use Rattle.agent_attempt.specs.declared.found.Found.TheVariants as found
use Rattle.agent_attempt.specs.ActionContents.{content_of}
use Rattle.agent_state.specs.States.{State, with_histories}
use Rattle.agent_state.proofs.SiteActions.{action_id}
use Rattle.agent_core.specs.declared.turned.Turned.{Turned}
use Rattle.agent_core.specs.declared.turned.Turned.TheVariants.{Idle, MachineFault, Memory}
use Rattle.agent_core.specs.Devices.{Devices}
use Rattle.agent_core.specs.Turns.{AfterTest, AfterTrying, Begins, Clears, Finishes, Marks, TestsOne, Tries, TriesEach, TriesMarked, may_clear, no_marks, with_mark}
use Rattle.first_due.specs.Asked.{ActionIsDue, ActionIsRelevant, AreNotDue, AreNotRelevant, Finds}
use Rattle.first_due.specs.Marked.{is_any, uncleared, with_marks}
use Rattle.first_due.proofs.Ending.{OfStops, answers}
use Rattle.first_due.proofs.Marking.{marks_more, marks_none, uncleared_after, uncleared_passed, uncleared_taken}

abbrev asked_on : MachineView → Devices → Devices
asked_on machine d = record d { machine = machine }

module _ (at : When) (s : State) (P : Turned → Type 0) (stops : OfStops P) (a : Turned) (s2 : State) (d2 : Devices) where
  -- ---- the actions are tried
  -- what is to be shown where one is due
  abbrev pub OnDue : State → List Action → Devices → Type 0
  OnDue marked actions d =
      (before : List Action) (action : Action) (after : List Action) (passed asked : Devices) → actions ≡ before ++ action ∷ after
      → AreNotDue at s.computer s.sites marked.histories before d passed → Finds (ActionIsDue at s.computer s.sites marked.histories action) passed found.Yes asked
      → Begins at s marked action (content_of action s.sites) asked a s2 d2 → P a

  -- what is to be shown where none is
  abbrev pub OnNone : State → Bool → List Action → Devices → Type 0
  OnNone marked any actions d =
      (asked : Devices) → AreNotDue at s.computer s.sites marked.histories actions d asked → Finishes any Idle marked asked a s2 d2 → P a

  after_try : (f : Found) (marked : State) (any : Bool) (action : Action) (actions : List Action) (d : Devices) (machine : MachineView)
      → ((d : Devices) → OnDue marked actions d → OnNone marked any actions d → TriesEach at s marked any actions d a s2 d2 → P a)
      → OnDue marked (action ∷ actions) d → OnNone marked any (action ∷ actions) d → ActionIsDue at s.computer s.sites marked.histories action d.machine f machine
      → AfterTrying at s marked action (TriesEach at s marked any actions) f (asked_on machine d) a s2 d2 → P a
  after_try found.Yes marked any action actions d machine further due none is h = due [] action actions d (asked_on machine d) refl refl (record { asked = is; pocket = refl }) h
  after_try found.No marked any action actions d machine further due none is h =
      let now : Devices = asked_on machine d in
      let step : Finds (ActionIsDue at s.computer s.sites marked.histories action) d found.No now = record { asked = is; pocket = refl } in
      further now
      (λ before one after passed asked e chain last begins. due (action ∷ before) one after passed asked (ap (λ l. action ∷ l) e) (now, step, chain) last begins)
      (λ asked chain ends. none asked (now, step, chain) ends) h
  after_try found.Failed marked any action actions d machine further due none is h = answers P stops a s2 d2 MachineFault s (asked_on machine d) stops.machine h
  after_try found.Memory marked any action actions d machine further due none is h = answers P stops a s2 d2 Memory s (asked_on machine d) stops.memory h

  tries_each : (marked : State) (any : Bool) (actions : List Action) (d : Devices) → OnDue marked actions d → OnNone marked any actions d → TriesEach at s marked any actions d a s2 d2 → P a
  tries_each marked any [] d due none (inl h) = answers P stops a s2 d2 Memory s d stops.memory h
  tries_each marked any [] d due none (inr h) = none d refl h
  tries_each marked any (action ∷ actions) d due none h = after_try h.0 marked any action actions d h.1 (λ d due none h. tries_each marked any actions d due none h) due none h.2 h.3

  -- ---- marks
  -- what is to be shown once marks are made, these actions being still to be tested
  abbrev OnMarked : List Action → List Action → Marks → Devices → Type 0
  OnMarked all actions marks d =
      (ids : List ℕ) (then : Marks) (tested : Devices) → then.histories ≡ with_marks ids at.moment marks.histories → then.any ≡ (marks.any || is_any ids)
      → AreNotRelevant at s.sites (uncleared marks.histories actions) ids d tested → TriesMarked at s all then tested a s2 d2 → P a

  after_test : (f : Found) (all : List Action) (action : Action) (actions : List Action) (marks : Marks) (d : Devices) (machine : MachineView)
      → ((marks : Marks) (d : Devices) → OnMarked all actions marks d → Clears at s actions marks (TriesMarked at s all) d a s2 d2 → P a)
      → Ascends action_id (action ∷ actions) → OnMarked all (action ∷ actions) marks d → may_clear (last_row (rows_at action.id marks.histories)) ≡ true
      → ActionIsRelevant at s.sites action d.machine f machine
      → AfterTest at s action.id marks (λ (then : Marks). Clears at s actions then (TriesMarked at s all)) f (asked_on machine d) a s2 d2 → P a
  after_test found.Yes all action actions marks d machine further up on may is h =
      let now : Devices = asked_on machine d in
      let step : Finds (ActionIsRelevant at s.sites action) d found.Yes now = record { asked = is; pocket = refl } in
      further marks now
      (λ ids then tested same any chain rest. on ids then tested same any
      (subst (λ l. AreNotRelevant at s.sites l ids d tested) (sym (uncleared_taken marks.histories action actions may)) (now, inl (step, chain))) rest) h
  after_test found.No all action actions marks d machine further up on may is h =
      let now : Devices = asked_on machine d in
      let step : Finds (ActionIsRelevant at s.sites action) d found.No now = record { asked = is; pocket = refl } in
      further (with_mark at action.id marks) now
      (λ ids then tested same any chain rest. on (action.id ∷ ids) then tested (same ∙ marks_more at.moment action.id ids marks.histories) (any ∙ sym (or-true marks.any))
      (subst (λ l. AreNotRelevant at s.sites l (action.id ∷ ids) d tested) (sym (uncleared_taken marks.histories action actions may))
      (now, inr (step, (ids, refl, subst (λ l. AreNotRelevant at s.sites l ids now tested) (uncleared_after at.moment action.id marks.histories actions (above_all action_id action actions up)) chain)))) rest) h
  after_test found.Failed all action actions marks d machine further up on may is h = answers P stops a s2 d2 MachineFault s (asked_on machine d) stops.machine h
  after_test found.Memory all action actions marks d machine further up on may is h = answers P stops a s2 d2 Memory s (asked_on machine d) stops.memory h

  tests : (may : Bool) (all : List Action) (action : Action) (actions : List Action) (marks : Marks) (d : Devices)
      → ((marks : Marks) (d : Devices) → OnMarked all actions marks d → Clears at s actions marks (TriesMarked at s all) d a s2 d2 → P a)
      → Ascends action_id (action ∷ actions) → OnMarked all (action ∷ actions) marks d → may_clear (last_row (rows_at action.id marks.histories)) ≡ may
      → TestsOne may at s action marks (λ (then : Marks). Clears at s actions then (TriesMarked at s all)) d a s2 d2 → P a
  tests false all action actions marks d further up on may h =
      further marks d
      (λ ids then tested same any chain rest. on ids then tested same any
      (subst (λ l. AreNotRelevant at s.sites l ids d tested) (sym (uncleared_passed marks.histories action actions may)) chain) rest) h
  tests true all action actions marks d further up on may h = after_test h.0 all action actions marks d h.1 further up on may h.2 h.3

  clears : (all actions : List Action) (marks : Marks) (d : Devices) → Ascends action_id actions → OnMarked all actions marks d → Clears at s actions marks (TriesMarked at s all) d a s2 d2 → P a
  clears all [] marks d up on h = on [] marks d (sym (marks_none at.moment marks.histories)) (sym (or-false marks.any)) (refl, refl) h
  clears all (action ∷ actions) marks d up on h =
      tests (may_clear (last_row (rows_at action.id marks.histories))) all action actions marks d
      (λ marks d on h. clears all actions marks d (ascends_tail action_id action actions up) on h) up on refl h

  -- ---- the whole search
  -- what is to be shown of a search that goes on with these marks
  pub record OnSearch (actions : List Action) (d : Devices) : Type 0 where
    pub due : (ids : List ℕ) (tested : Devices) → AreNotRelevant at s.sites (uncleared s.histories actions) ids d tested
        → OnDue (with_histories (with_marks ids at.moment s.histories) s) actions tested
    pub none : (ids : List ℕ) (tested : Devices) → AreNotRelevant at s.sites (uncleared s.histories actions) ids d tested
        → OnNone (with_histories (with_marks ids at.moment s.histories) s) (is_any ids) actions tested

  tries_marked : (actions : List Action) (d : Devices) → OnSearch actions d → OnMarked actions actions (no_marks s) d
  tries_marked actions d on ids then tested same any chain h =
      tries_each (with_histories (with_marks ids at.moment s.histories) s) (is_any ids) actions tested (on.due ids tested chain) (on.none ids tested chain)
      (subst (λ (x : Marks). TriesMarked at s actions x tested a s2 d2) (λ j. record { histories = same j; any = any j }) h)

  pub tries : (actions : List Action) (d : Devices) → Ascends action_id actions → OnSearch actions d → Tries at s actions d a s2 d2 → P a
  tries actions d up on (inl h) = answers P stops a s2 d2 Memory s d stops.memory h
  tries actions d up on (inr h) = clears actions actions (no_marks s) d up (tries_marked actions d on) h
