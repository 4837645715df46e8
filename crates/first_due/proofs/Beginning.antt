-- A turn that says that an attempt began, and one that is idle.
use Rattle.std.proofs.Common.{ℕ, ◌≡◌, List, ◌∷◌, ◌++◌, Bool, true, false, Option, Some, None, refl, sym, subst, inl, inr}
use Rattle.std.specs.Prelude.{◌≢◌, ◌⊎◌}
use Rattle.line_forms.proofs.Lasts.{Ascends}
use Rattle.fix_site.specs.declared.action.Action.{Action}
use Rattle.script_run.specs.Asking.{When}
use Rattle.agent_text.specs.declared.pocket.SaveResult.{SaveResult}
use Rattle.agent_text.specs.declared.pocket.SaveResult.TheVariants as save
use Rattle.agent_text.specs.Pockets.{PocketView, SavesTo}
use Rattle.agent_attempt.specs.declared.found.Found.TheVariants.{Yes}
use Rattle.agent_attempt.specs.ActionContents.{actions_of, content_of}
use Rattle.agent_attempt.specs.Attempts.{PlainAttempt}
use Rattle.agent_state.specs.States.{IsSound, State, as_saved, broken_action, text_of, with_histories}
use Rattle.agent_state.proofs.SiteActions.{action_id}
use Rattle.agent_core.specs.declared.turned.Turned.{Turned}
use Rattle.agent_core.specs.declared.turned.Turned.TheVariants.{Idle, MachineFault, PocketFault, Memory}
use Rattle.agent_core.specs.Devices.{Devices}
use Rattle.agent_core.specs.Turns.{AfterFirstSave, Begins, Finishes, FirstSave, StepFor, Tries, Turn}
use Rattle.first_due.specs.Asked.{ActionIsDue, AreNotDue, AreNotRelevant, Finds}
use Rattle.first_due.specs.Marked.{is_any, uncleared, with_marks}
use Rattle.first_due.specs.Beginnings.{BeginsLeast, ComesToSearch, FindsNone, SaysBegan, SavesFirst, once_saved}
use Rattle.first_due.proofs.Ending.{OfGoing, OfStops, answers, begins, finishes, goes_on, interrupts}
use Rattle.first_due.proofs.Ordered.{actions_ascend, ids_after, ids_before}
use Rattle.first_due.proofs.Searching.{tries}

module _ (at : When) (s : State) (d : Devices) (a : Turned) (s2 : State) (d2 : Devices) (sound : IsSound s) where
  -- an answer of a turn that comes to its end from a state in which no attempt is held and none is broken: idle, or that one began
  abbrev EndsFree : Turned → Type 0
  EndsFree would =
      s.held ≡ None → broken_action s ≡ None → would ≢ MachineFault → would ≢ PocketFault → would ≢ Memory → (would ≡ Idle) ⊎ ((id : ℕ) × SaysBegan id would)

  -- what an answer promises
  pub record Promises (would : Turned) : Type 0 where
    pub begun : (id : ℕ) → SaysBegan id would → BeginsLeast at s d id a s2 d2
    pub idle : would ≡ Idle → FindsNone at s d s2 d2
    pub ends : EndsFree would

  -- answers that say neither
  neither : (would : Turned) → ((id : ℕ) → SaysBegan id would → ⊥) → (would ≡ Idle → ⊥) → EndsFree would → Promises would
  neither would none other ends = record { begun = λ id says. absurd (none id says); idle = λ e. absurd (other e); ends = ends }

  stops : OfStops Promises
  stops = record {
    machine = neither _ (λ id says. says) (λ e. cc) (λ free whole other b c. absurd (other refl));
    pocket = neither _ (λ id says. says) (λ e. cc) (λ free whole b other c. absurd (other refl));
    memory = neither _ (λ id says. says) (λ e. cc) (λ free whole b c other. absurd (other refl));
  }

  -- an idle turn comes to its end so, or stops
  abbrev IdleOnly : Turned → Type 0
  IdleOnly would = would ≢ MachineFault → would ≢ PocketFault → would ≢ Memory → would ≡ Idle

  idle_only : OfStops IdleOnly
  idle_only = record { machine = λ other b c. absurd (other refl); pocket = λ b other c. absurd (other refl); memory = λ b c other. absurd (other refl) }

  -- no answer of a turn that stops says that an attempt began
  abbrev NoneBegan : Turned → Type 0
  NoneBegan would = (id : ℕ) → SaysBegan id would → ⊥

  none_begins : OfStops NoneBegan
  none_begins = record { machine = λ id says. says; pocket = λ id says. says; memory = λ id says. says }

  resumed : (id : ℕ) (attempt : PlainAttempt) → s.held ≡ Some attempt → OfGoing Promises id false
  resumed id attempt holds = record {
    held = λ component line. neither _ (λ other says. absurd (let e = says.1 in cc)) (λ e. cc) (λ free whole a b c. absurd (cc));
    wants = λ digest. neither _ (λ other says. absurd (let e = says.1 in cc)) (λ e. cc) (λ free whole a b c. absurd (cc));
    ended = λ outcome fail. neither _ (λ other says. absurd (let e = says.1 in cc)) (λ e. cc) (λ free whole a b c. absurd (cc));
  }

  -- an answer that says that this action began, which it did
  of_begun : (id : ℕ) → BeginsLeast at s d id a s2 d2 → OfGoing Promises id true
  of_begun id least =
      let Least : ℕ → Type 0 = λ id. BeginsLeast at s d id a s2 d2 in
      record {
        held = λ component line. record { begun = λ other says. subst Least says.0 least; idle = λ e. absurd (cc); ends = λ free whole a b c. inr (id, (refl, refl)) };
        wants = λ digest. record { begun = λ other says. subst Least says.0 least; idle = λ e. absurd (cc); ends = λ free whole a b c. inr (id, (refl, refl)) };
        ended = λ outcome fail. record { begun = λ other says. subst Least says.0 least; idle = λ e. absurd (cc); ends = λ free whole a b c. inr (id, (refl, refl)) };
      }

  -- ---- the search, once what stood unsaved is saved
  module _ (unsaved : Bool) (is : s.unsaved ≡ unsaved) (saved : Devices) (saves : SavesFirst unsaved (text_of s) d saved) (free : s.held ≡ None) (whole : broken_action s ≡ None) where
    comes : (ids : List ℕ) (tested : Devices) → AreNotRelevant at s.sites (uncleared s.histories (actions_of s.sites)) ids saved tested → ComesToSearch at s d ids tested
    comes ids tested chain = record {
      free = free;
      whole = whole;
      saved = saved;
      saves = subst (λ b. SavesFirst b (text_of s) d saved) (sym is) saves;
      asked = chain;
    }

    -- one is due, and begins
    due : (ids : List ℕ) (tested : Devices) → AreNotRelevant at s.sites (uncleared s.histories (actions_of s.sites)) ids saved tested
        → (before : List Action) (action : Action) (after : List Action) (passed asked : Devices) → actions_of s.sites ≡ before ++ action ∷ after
        → AreNotDue at s.computer s.sites (with_marks ids at.moment s.histories) before tested passed
        → Finds (ActionIsDue at s.computer s.sites (with_marks ids at.moment s.histories) action) passed Yes asked
        → Begins at (once_saved unsaved s) (with_histories (with_marks ids at.moment s.histories) (once_saved unsaved s)) action (content_of action s.sites) asked a s2 d2 → Promises a
    due ids tested chain before action after passed asked gathered others last h =
        let up : Ascends action_id (before ++ action ∷ after) = subst (Ascends action_id) gathered (actions_ascend s.sites sound.sites) in
        begins Promises stops a s2 d2 at (once_saved unsaved s) (with_histories (with_marks ids at.moment s.histories) (once_saved unsaved s)) action (content_of action s.sites) asked
        (of_begun action.id (record {
          marked = ids;
          tested = tested;
          search = comes ids tested chain;
          before = before;
          action = action;
          after = after;
          gathered = gathered;
          named = refl;
          less = ids_before before action after up;
          greater = ids_after before action after up;
          passed = passed;
          others = others;
          asked = asked;
          due = last;
          begins = subst (λ b. Begins at (once_saved b s) (with_histories (with_marks ids at.moment s.histories) (once_saved b s)) action (content_of action s.sites) asked a s2 d2) (sym is) h;
        })) h

    -- none is due, and the turn ends
    none : (ids : List ℕ) (tested : Devices) → AreNotRelevant at s.sites (uncleared s.histories (actions_of s.sites)) ids saved tested
        → (asked : Devices) → AreNotDue at s.computer s.sites (with_marks ids at.moment s.histories) (actions_of s.sites) tested asked
        → Finishes (is_any ids) Idle (with_histories (with_marks ids at.moment s.histories) (once_saved unsaved s)) asked a s2 d2 → Promises a
    none ids tested chain asked others h = record {
      begun = λ id says. absurd (finishes NoneBegan none_begins a s2 d2 (is_any ids) Idle (with_histories (with_marks ids at.moment s.histories) (once_saved unsaved s)) asked (λ id says. says) h id says);
      idle = λ e. record {
        marked = ids;
        tested = tested;
        search = comes ids tested chain;
        asked = asked;
        none = others;
        ends =
            subst (λ b. Finishes (is_any ids) Idle (with_histories (with_marks ids at.moment s.histories) (once_saved b s)) asked Idle s2 d2) (sym is)
            (subst (λ answer. Finishes (is_any ids) Idle (with_histories (with_marks ids at.moment s.histories) (once_saved unsaved s)) asked answer s2 d2) e h);
      };
      ends = λ free whole machine pocket memory.
          inl (finishes IdleOnly idle_only a s2 d2 (is_any ids) Idle (with_histories (with_marks ids at.moment s.histories) (once_saved unsaved s)) asked (λ b c e. refl) h machine pocket memory);
    }

  -- the sites, the histories and the held attempt are those before the first save
  searches : (unsaved : Bool) → s.unsaved ≡ unsaved → (saved : Devices) → SavesFirst unsaved (text_of s) d saved → s.held ≡ None → broken_action s ≡ None
      → Tries at (once_saved unsaved s) (actions_of s.sites) saved a s2 d2 → Promises a
  searches false is saved saves free whole h =
      tries at s Promises stops a s2 d2 (actions_of s.sites) saved (actions_ascend s.sites sound.sites)
      (record { due = due false is saved saves free whole; none = none false is saved saves free whole }) h
  searches true is saved saves free whole h =
      tries at (as_saved s) Promises stops a s2 d2 (actions_of s.sites) saved (actions_ascend s.sites sound.sites)
      (record { due = due true is saved saves free whole; none = none true is saved saves free whole }) h

  -- the first step that applies
  step_for : (unsaved : Bool) → s.unsaved ≡ unsaved → (saved : Devices) → SavesFirst unsaved (text_of s) d saved
      → (broken : Option ℕ) (held : Option PlainAttempt) → broken_action s ≡ broken → s.held ≡ held
      → (now : State) → (Tries at now (actions_of now.sites) saved a s2 d2 → Tries at (once_saved unsaved s) (actions_of s.sites) saved a s2 d2)
      → StepFor at broken held now saved a s2 d2 → Promises a
  step_for unsaved is saved saves (Some id) held breaks holds now same h = interrupts Promises stops a s2 d2 at id now saved (neither _ (λ other says. says) (λ e. cc) (λ free whole b c e. absurd (cc))) h
  step_for unsaved is saved saves None (Some attempt) breaks holds now same (inl h) = answers Promises stops a s2 d2 Memory now saved stops.memory h
  step_for unsaved is saved saves None (Some attempt) breaks holds now same (inr h) = goes_on Promises stops a s2 d2 at false attempt now saved (resumed attempt.action.id attempt holds) h
  step_for unsaved is saved saves None None breaks holds now same h = searches unsaved is saved saves holds breaks (same h)

  after_first : (result : SaveResult) (pocket : PocketView) → s.unsaved ≡ true → SavesTo (text_of s) d.pocket result pocket
      → AfterFirstSave at s result (record d { pocket = pocket }) a s2 d2 → Promises a
  after_first save.Done pocket is saves h =
      step_for true is (record d { pocket = pocket }) (saves, refl) (broken_action s) s.held refl refl (as_saved s) (λ h. h) h
  after_first save.Failed pocket is saves h = answers Promises stops a s2 d2 PocketFault s (record d { pocket = pocket }) stops.pocket h
  after_first save.Memory pocket is saves h = answers Promises stops a s2 d2 Memory s (record d { pocket = pocket }) stops.memory h

  first_save : (unsaved : Bool) → s.unsaved ≡ unsaved → FirstSave unsaved at s d a s2 d2 → Promises a
  first_save false is h = step_for false is d refl (broken_action s) s.held refl refl s (λ h. h) h
  first_save true is h = after_first h.0 h.1 is h.2 h.3

  pub turn_promises : Turn at s d a s2 d2 → Promises a
  turn_promises h = first_save s.unsaved refl h
