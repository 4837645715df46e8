-- What a pocket has after a turn, and that it is never a bad pocket to an agent of the same computer.
use Rattle.std.proofs.Common.{ℕ, ◌≡◌, ◌≢◌, List, [], Bool, true, false, inl, inr, Option, Some, None, refl, sym, ap, subst, ◌∙◌, append-nil, arith}
use Rattle.std.specs.Prelude.{Contains, ◌⊎◌}
use Rattle.std.proofs.lemmas.List.Elements.{All-nil}
use Rattle.std.proofs.lemmas.Option.{same_Some}
use Rattle.desk_base.specs.Moments.{IsMoment}
use Rattle.line_forms.specs.BadLines.{IsFirstBadLine}
use Rattle.line_forms.specs.LineStates.{unended_of}
use Rattle.line_forms.specs.Lines.{lines_text}
use Rattle.line_forms.proofs.BadLines.{first_bad_line-none}
use Rattle.report_text.specs.declared.form.Form.{Form}
use Rattle.fix_site.specs.declared.action.Action.{Action}
use Rattle.script_run.specs.Asking.{When}
use Rattle.bf_machine.specs.Views.{MachineView}
use Rattle.agent_text.specs.declared.pocket.SaveResult.TheVariants as save
use Rattle.agent_text.specs.declared.saved.Saved.{Saved}
use Rattle.agent_text.specs.Histories.{AreHistories, rows_at}
use Rattle.agent_text.specs.Pockets.{Changes, Saves}
use Rattle.agent_text.specs.SavedTexts.{AreSavedLines, FitsForm, IsSaved, saved_lines, saved_text}
use Rattle.agent_text.proofs.SavedAnswers.{LinesAgain, UnendedAgain}
use Rattle.agent_text.proofs.SavedBytes.{saved_are}
use Rattle.agent_attempt.specs.declared.found.Found.TheVariants as found
use Rattle.agent_attempt.specs.ActionContents.{actions_of, content_of}
use Rattle.agent_attempt.specs.Relevance.{IsDue}
use Rattle.agent_core.specs.declared.opening.Opened.TheVariants as opening
use Rattle.agent_core.specs.declared.turned.Turned.{Turned}
use Rattle.agent_core.specs.declared.turned.Turned.TheVariants.{Memory, PocketFault}
use Rattle.agent_core.specs.Devices.{Devices}
use Rattle.agent_core.specs.Opens.{OpensAgent, opened_state}
use Rattle.agent_core.specs.PocketTexts.{IsTextOfSound, SavesNothing, TurnSaves}
use Rattle.agent_core.specs.Schedules.{HasSaved, Mail}
use Rattle.agent_core.specs.Turns.{Marks, Turn}
use Rattle.agent_state.specs.States.{IsSound, State, interrupted, saved_of, text_of, with_beginning, with_histories, with_report}
use Rattle.agent_core.proofs.Begun.{ChangedHistories, marked_kept, saved_beginning, sound_broken}
use Rattle.agent_core.proofs.Due.{due_may}
use Rattle.agent_core.proofs.SavedOnce.{lines_again, own_text}
use Rattle.agent_core.proofs.Sounding.{sound_saved}
use Rattle.agent_core.proofs.TurnPoints.{Keeps, turn_keeps}

-- ---- texts that change, save by save
module _ (Q : Option (List ℕ) → Option (List ℕ) → Type 0) where
  unchanged : (start : Option (Option (List ℕ))) → ((before : Option (List ℕ)) → Q before before) → Changes start start Q
  unchanged None same = refl
  unchanged (Some before) same = same before

  changed_done : (R : Option (List ℕ) → Option (List ℕ) → Type 0) (text : List ℕ) (start old new : Option (Option (List ℕ))) → Changes start old R → Saves text save.Done old new → ((before : Option (List ℕ)) → Q before (Some text)) → Changes start new Q
  changed_done R text None None new was saves q = saves
  changed_done R text None (Some now) new was saves q = absurd (cc)
  changed_done R text (Some before) None new was saves q = absurd was
  changed_done R text (Some before) (Some now) None was saves q = absurd saves
  changed_done R text (Some before) (Some now) (Some then) was saves q = subst (Q before) (sym saves) (q before)

  changed_failed : (text : List ℕ) (start old new : Option (Option (List ℕ))) → Changes start old Q → Saves text save.Failed old new → ((before : Option (List ℕ)) → Q before (Some text)) → Changes start new Q
  changed_failed text None None new was saves q = saves
  changed_failed text None (Some now) new was saves q = absurd (cc)
  changed_failed text (Some before) None new was saves q = absurd was
  changed_failed text (Some before) (Some now) None was saves q = absurd saves
  changed_failed text (Some before) (Some now) (Some then) was (inl same) q = subst (Q before) (sym same) was
  changed_failed text (Some before) (Some now) (Some then) was (inr saved) q = subst (Q before) (sym saved) (q before)

  changed_memory : (text : List ℕ) (start old new : Option (Option (List ℕ))) → Changes start old Q → Saves text save.Memory old new → Changes start new Q
  changed_memory text None None new was saves = saves
  changed_memory text None (Some now) new was saves = absurd (cc)
  changed_memory text (Some before) None new was saves = absurd was
  changed_memory text (Some before) (Some now) None was saves = absurd saves
  changed_memory text (Some before) (Some now) (Some then) was saves = subst (Q before) (sym saves) was

-- ---- the text of a state that can be saved is that of a sound one
sound_text : (computer : List ℕ) (s : State) → IsSaved (saved_of s) → s.computer ≡ computer → IsTextOfSound computer (Some (text_of s))
sound_text computer s is own = record {
  state = opened_state (saved_of s);
  sound = record { saved = is; shown = omega arith; held = tt; sites = tt };
  own = own;
  text = refl;
}

-- ---- the points of a turn from this state, whose pocket told this
module _ (first : State) (start : Option (Option (List ℕ))) where
  abbrev IsOwn : Option (List ℕ) → Option (List ℕ) → Type 0
  IsOwn before now = (now ≡ before) ⊎ IsTextOfSound first.computer now

  abbrev Own : Devices → Type 0
  Own d = Changes start d.pocket.saved IsOwn

  -- the text is that of what is saved of a state, or nothing was to be saved
  abbrev IsLast : Saved → Option (List ℕ) → Option (List ℕ) → Type 0
  IsLast saved before now = (now ≡ Some (saved_text saved)) ⊎ ((first.unsaved ≡ false) × (saved ≡ saved_of first) × (now ≡ before))

  abbrev Last : State → Devices → Type 0
  Last s d = Changes start d.pocket.saved (IsLast (saved_of s))

  abbrev Going : State → Devices → Type 0
  Going s d = (s.computer ≡ first.computer) × Own d × Last s d

  abbrev Stood : State → Devices → Type 0
  Stood s d = Going s d × IsSound s

  abbrev Tried : Marks → State → Devices → Type 0
  Tried marks s d = Stood s d × AreHistories marks.histories × (marks.any ≡ false → marks.histories ≡ s.histories)

  abbrev Ending : Bool → State → Devices → Type 0
  Ending changed s d = (s.computer ≡ first.computer) × Own d × (changed ≡ false → Last s d)

  abbrev Came : Turned → State → Devices → Type 0
  Came a s d = IsSound s → Own d × (a ≢ PocketFault → a ≢ Memory → Last s d)

  -- saves of a state that can be saved
  own_done : (R : Option (List ℕ) → Option (List ℕ) → Type 0) (x : State) (old new : Option (Option (List ℕ))) → IsSaved (saved_of x) → x.computer ≡ first.computer → Changes start old R → Saves (text_of x) save.Done old new → Changes start new IsOwn
  own_done R x old new is same was saves = changed_done IsOwn R (text_of x) start old new was saves (λ before. inr (sound_text first.computer x is same))

  own_failed : (x : State) (old new : Option (Option (List ℕ))) → IsSaved (saved_of x) → x.computer ≡ first.computer → Changes start old IsOwn → Saves (text_of x) save.Failed old new → Changes start new IsOwn
  own_failed x old new is same was saves = changed_failed IsOwn (text_of x) start old new was saves (λ before. inr (sound_text first.computer x is same))

  last_done : (R : Option (List ℕ) → Option (List ℕ) → Type 0) (x : State) (old new : Option (Option (List ℕ))) → Changes start old R → Saves (text_of x) save.Done old new → Changes start new (IsLast (saved_of x))
  last_done R x old new was saves = changed_done (IsLast (saved_of x)) R (text_of x) start old new was saves (λ before. inl refl)

  never : {X : Type 0} → true ≡ false → X
  never e = absurd (cc)

  keeps_own : ChangedHistories → (at : When) → IsMoment at.moment →
      Keeps at (λ s d. Stood s d) (λ marks s d. Tried marks s d) (λ began attempt s d. Going s d) (λ changed would s d. Ending changed s d) (λ a s d. Came a s d)
  keeps_own law at time = record {
    memory = λ s d a is. (a.0.1, λ fault none. absurd (none refl));
    broken_done = λ s d id pocket a broken saves.
        let good = sound_broken law s id at.moment time a.1 broken in
        (a.0.0, own_done IsOwn (interrupted id at.moment s) d.pocket.saved pocket.saved good.saved a.0.0 a.0.1 saves.saves, λ e. last_done IsOwn (interrupted id at.moment s) d.pocket.saved pocket.saved a.0.1 saves.saves);
    broken_failed = λ s d id pocket a broken saves is. (own_failed (interrupted id at.moment s) d.pocket.saved pocket.saved is.saved a.0.0 a.0.1 saves.saves, λ fault none. absurd (fault refl));
    broken_memory = λ s d id pocket a broken saves is. (changed_memory IsOwn (text_of (interrupted id at.moment s)) start d.pocket.saved pocket.saved a.0.1 saves.saves, λ fault none. absurd (none refl));
    resumes = λ s d attempt a broken held. a.0;
    held = λ began attempt s d component line machine after g goes. (g.0, g.1, λ e. g.2);
    wants = λ began attempt s d digest machine after g goes. (g.0, g.1, λ e. g.2);
    ends = λ began attempt s d fail note machine after g goes. (g.0, g.1, λ e. never e);
    lacks = λ began attempt s d machine after g goes is. (g.1, λ fault none. absurd (none refl));
    tries = λ s d a broken held. (a, a.1.saved.histories, λ e. refl);
    tested = λ marks s d action machine t may asks. t;
    marked = λ marks s d action machine t may asks. (t.0, marked_kept law marks.histories action.id at.moment time t.1 may, λ e. never e);
    test_failed = λ marks s d action machine t asks is. (t.0.0.1, λ fault none. t.0.0.2);
    test_memory = λ marks s d action machine t asks is. (t.0.0.1, λ fault none. absurd (none refl));
    passed = λ marks s d action machine t asks. t;
    try_failed = λ marks s d action machine t asks is. (t.0.0.1, λ fault none. t.0.0.2);
    try_memory = λ marks s d action machine t asks is. (t.0.0.1, λ fault none. absurd (none refl));
    begun_done = λ marks s d action content machine pocket t due there among saves.
        (t.0.0.0, own_done IsOwn (begun marks s action) d.pocket.saved pocket.saved (begins marks s d action machine t due among) t.0.0.0 t.0.0.1 saves.saves, last_done IsOwn (begun marks s action) d.pocket.saved pocket.saved t.0.0.1 saves.saves);
    begun_failed = λ marks s d action machine pocket t due among saves is.
        (own_failed (begun marks s action) d.pocket.saved pocket.saved (begins marks s d action machine t due among) t.0.0.0 t.0.0.1 saves.saves, λ fault none. absurd (fault refl));
    begun_memory = λ marks s d action machine pocket t due saves is. (changed_memory IsOwn (text_of (begun marks s action)) start d.pocket.saved pocket.saved t.0.0.1 saves.saves, λ fault none. absurd (none refl));
    no_memory = λ marks s d t is. (t.0.0.1, λ fault none. absurd (none refl));
    idle = λ marks s d t. (t.0.0.0, t.0.0.1, λ e. subst (λ hs. Changes start d.pocket.saved (IsLast (saved_of (with_histories hs s)))) (sym (t.2 e)) t.0.0.2);
    reported_done = λ changed would s d pocket b can saves is.
        (own_done IsOwn (with_report s) d.pocket.saved pocket.saved is.saved b.0 b.1 saves.saves, λ fault none. last_done IsOwn (with_report s) d.pocket.saved pocket.saved b.1 saves.saves);
    reported_failed = λ changed would s d pocket b can saves is. (own_failed (with_report s) d.pocket.saved pocket.saved is.saved b.0 b.1 saves.saves, λ fault none. absurd (fault refl));
    reported_memory = λ changed would s d pocket b can saves is. (changed_memory IsOwn (text_of (with_report s)) start d.pocket.saved pocket.saved b.1 saves.saves, λ fault none. absurd (none refl));
    changed_done = λ would s d pocket b saves is.
        (own_done IsOwn s d.pocket.saved pocket.saved is.saved b.0 b.1 saves.saves, λ fault none. last_done IsOwn s d.pocket.saved pocket.saved b.1 saves.saves);
    changed_failed = λ would s d pocket b saves is. (own_failed s d.pocket.saved pocket.saved is.saved b.0 b.1 saves.saves, λ fault none. absurd (fault refl));
    changed_memory = λ would s d pocket b saves is. (changed_memory IsOwn (text_of s) start d.pocket.saved pocket.saved b.1 saves.saves, λ fault none. absurd (none refl));
    unchanged = λ would s d b is. (b.1, λ fault none. b.2 refl);
  }
    where
      begun : Marks → State → Action → State
      begun marks s action = with_beginning action.id at.moment (with_histories marks.histories s)

      begins : (marks : Marks) (s : State) (d : Devices) (action : Action) (machine : MachineView) → Tried marks s d
          → IsDue at s.computer action (content_of action s.sites) (rows_at action.id marks.histories) d.machine found.Yes machine → Contains (actions_of s.sites) action
          → IsSaved (saved_of (begun marks s action))
      begins marks s d action machine t due among =
          saved_beginning law at s marks.histories action time t.0.1 t.1 among (due_may at s.computer action (content_of action s.sites) (rows_at action.id marks.histories) d.machine machine due)

  -- both parts, text by text
  last_of : (s2 : State) (before now : Option (List ℕ)) → IsLast (saved_of s2) before now → (now ≡ Some (text_of s2)) ⊎ SavesNothing first s2 before now
  last_of s2 before now (inl saved) = inl saved
  last_of s2 before now (inr (clean, same, text)) = inr (record { clean = clean; same = same; text = text })

  both_parts : (answer : Turned) (s2 : State) (now : Option (Option (List ℕ))) → Changes start now IsOwn → (answer ≢ PocketFault → answer ≢ Memory → Changes start now (IsLast (saved_of s2))) → Changes start now (TurnSaves first answer s2)
  both_parts answer s2 now own last = by_told start now own last
    where
      by_told : (from to : Option (Option (List ℕ))) → Changes from to IsOwn → (answer ≢ PocketFault → answer ≢ Memory → Changes from to (IsLast (saved_of s2))) → Changes from to (TurnSaves first answer s2)
      by_told None to own last = own
      by_told (Some before) None own last = absurd own
      by_told (Some before) (Some then) own last = record { text = own; last = λ fault none. last_of s2 before then (last fault none) }

pub turn_saves : ChangedHistories → (at : When) → IsMoment at.moment → (s s2 : State) (d d2 : Devices) (answer : Turned) → Turn at s d answer s2 d2 → IsSound s → IsSound s2 → Changes d.pocket.saved d2.pocket.saved (TurnSaves s answer s2)
turn_saves law at time s s2 d d2 answer turn is is2 =
    let start = d.pocket.saved in
    let none : Own s start d = unchanged (IsOwn s start) start (λ before. inl refl) in
    let came =
    turn_keeps at (λ x d. Stood s start x d) (λ marks x d. Tried s start marks x d) (λ began attempt x d. Going s start x d) (λ changed would x d. Ending s start changed x d) (λ a x d. Came s start a x d) (keeps_own s start law at time) answer s2 d2 s d
    (λ clean. ((refl, none, unchanged (IsLast s start (saved_of s)) start (λ before. inr (clean, refl, refl))), is))
    (λ pocket saves. ((refl, own_done s start (IsOwn s start) s start pocket.saved is.saved refl none saves.saves, last_done s start (IsOwn s start) s start pocket.saved none saves.saves), sound_saved s is))
    (λ pocket saves same. (own_failed s start s start pocket.saved is.saved refl none saves.saves, λ fault none. absurd (fault refl)))
    (λ pocket saves same. (changed_memory (IsOwn s start) (text_of s) start start pocket.saved none saves.saves, λ fault none. absurd (none refl))) turn is2 in
    both_parts s start answer s2 d2.pocket.saved came.0 came.1

-- ---- what a mail has saved
pub mail_of_text : (computer : List ℕ) (now : Option (List ℕ)) → IsTextOfSound computer now → (m : Mail) × (m.computer ≡ computer) × HasSaved m now
mail_of_text computer now t =
    let m : Mail = record { computer = t.state.computer; next = t.state.next; outbox = t.state.reports; saved_next = t.state.next; saved_outbox = t.state.reports } in
    (m, t.own, subst (HasSaved m) (sym t.text) (saved_of t.state, own_text t.state t.sound.saved, refl, refl))

-- ---- and how it is read
nothing_again : UnendedAgain → (form : Form) (saved : Saved) → IsSaved saved → FitsForm form saved → unended_of (lines_text (saved_lines form saved)) ≡ []
nothing_again law form saved is fits = ap unended_of (sym (append-nil (lines_text (saved_lines form saved)))) ∙ law (saved_lines form saved) [] (saved_are form saved is fits) (All-nil (λ x. x ≢ 10))

pub never_bad : LinesAgain → UnendedAgain → (m : Mail) (now : Option (List ℕ)) (line : ℕ) → HasSaved m now → OpensAgent m.computer (Some now) (opening.BadPocket line) → ⊥
never_bad law rest m None line has (text, is, bad) = absurd (let e : None ≡ Some text = is in cc)
never_bad law rest m (Some own) line (what, (form, by, e), next, outbox) (text, is, (n, bad, number)) =
    let same : text ≡ lines_text (saved_lines form what) = sym (same_Some own text is) ∙ e in
    let lines = lines_again law form what by.0 by.1 in
    first_bad_line-none (AreSavedLines m.computer) (lines_text (saved_lines form what)) n (nothing_again rest form what by.0 by.1, (form, what, by, lines))
    (subst (λ x. IsFirstBadLine (AreSavedLines m.computer) x n) same bad)
