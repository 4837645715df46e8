-- What a turn adds to the reports, and what is saved at its end.
use Rattle.std.proofs.Common.{ℕ, ◌≡◌, ◌+◌, ◌++◌, List, [], ◌∷◌, Bool, true, false, inl, inr, Option, Some, None, refl, sym, ap, ◌∙◌}
use Rattle.std.specs.Prelude.{◌⊎◌, ◌≢◌, IsSome}
use Rattle.report_text.specs.declared.report.Report.{Report}
use Rattle.script_run.specs.Asking.{When}
use Rattle.agent_text.specs.declared.pocket.SaveResult.TheVariants as save
use Rattle.agent_text.specs.Pockets.{Saves}
use Rattle.agent_core.specs.declared.turned.Turned.{Turned}
use Rattle.agent_core.specs.declared.turned.Turned.TheVariants.{PocketFault, Memory}
use Rattle.agent_state.specs.States.{State, next_report, text_of, with_histories}
use Rattle.agent_core.specs.Devices.{Devices}
use Rattle.agent_core.specs.Turns.{Marks, Turn}
use Rattle.agent_core.proofs.TurnPoints.{Keeps, turn_keeps}

-- ---- reports
abbrev Same : State → State → Type 0
Same old new = (new.reports ≡ old.reports) × (new.next ≡ old.next)

abbrev Adds : State → State → Type 0
Adds old new =
    ((new.reports ≡ old.reports) × (new.next ≡ old.next))
    ⊎ ((report : Report) × (report.seq ≡ old.next) × (new.reports ≡ old.reports ++ report ∷ []) × (new.next ≡ old.next + 1))

one_more : (old s : State) → Same old s → (report : Report) × (report.seq ≡ old.next) × (s.reports ++ next_report s ∷ [] ≡ old.reports ++ report ∷ []) × (s.next + 1 ≡ old.next + 1)
one_more old s same = (next_report s, same.1, ap (λ (l : List Report). l ++ next_report s ∷ []) same.0, ap (λ n. n + 1) same.1)

keeps_reports : (at : When) (old : State) →
    Keeps at (λ s d. Same old s) (λ marks s d. Same old s) (λ began attempt s d. Same old s) (λ changed would s d. Same old s) (λ a s d. Adds old s)
keeps_reports at old = record {
  memory = λ s d same. inl same;
  broken_done = λ s d id pocket same is saves. same;
  broken_failed = λ s d id pocket same is saves. inl same;
  broken_memory = λ s d id pocket same is saves. inl same;
  resumes = λ s d attempt same none is. same;
  held = λ began attempt s d component line machine after same goes. same;
  wants = λ began attempt s d digest machine after same goes. same;
  ends = λ began attempt s d fail note machine after same goes. same;
  lacks = λ began attempt s d machine after same goes. inl same;
  tries = λ s d same none is. same;
  tested = λ marks s d action machine same may asks. same;
  marked = λ marks s d action machine same may asks. same;
  test_failed = λ marks s d action machine same asks. inl same;
  test_memory = λ marks s d action machine same asks. inl same;
  passed = λ marks s d action machine same asks. same;
  try_failed = λ marks s d action machine same asks. inl same;
  try_memory = λ marks s d action machine same asks. inl same;
  begun_done = λ marks s d action content machine pocket same due is among saves. same;
  begun_failed = λ marks s d action machine pocket same due among saves. inl same;
  begun_memory = λ marks s d action machine pocket same due saves. inl same;
  no_memory = λ marks s d same. inl same;
  idle = λ marks s d same. same;
  reported_done = λ changed would s d pocket same can saves. inr (one_more old s same);
  reported_failed = λ changed would s d pocket same can saves. inr (one_more old s same);
  reported_memory = λ changed would s d pocket same can saves. inr (one_more old s same);
  changed_done = λ would s d pocket same saves. inl same;
  changed_failed = λ would s d pocket same saves. inl same;
  changed_memory = λ would s d pocket same saves. inl same;
  unchanged = λ would s d same. inl same;
}

pub adds_one : (at : When) (s s2 : State) (d d2 : Devices) (answer : Turned) → Turn at s d answer s2 d2 → Adds s s2
adds_one at s s2 d d2 answer turn =
    turn_keeps at (λ x d. Same s x) (λ marks x d. Same s x) (λ began attempt x d. Same s x) (λ changed would x d. Same s x) (λ a x d. Adds s x) (keeps_reports at s) answer s2 d2 s d
    (λ e. (refl, refl)) (λ pocket saves. (refl, refl)) (λ pocket saves. inl (refl, refl)) (λ pocket saves. inl (refl, refl)) turn

-- ---- what is saved
-- the pocket tells its text
abbrev Tells : Devices → Type 0
Tells d = (now : Option (List ℕ)) × (d.pocket.saved ≡ Some now)

-- the pocket has the state as it stands
abbrev Stands : State → Devices → Type 0
Stands s d = d.pocket.saved ≡ Some (Some (text_of s))

abbrev Succeeded : Turned → State → Devices → Type 0
Succeeded a s d = a ≢ PocketFault → a ≢ Memory → Stands s d

saved_by : (text : List ℕ) (now : Option (List ℕ)) (old new : Option (Option (List ℕ))) → old ≡ Some now → Saves text save.Done old new → new ≡ Some (Some text)
saved_by text now None new is h = absurd (cc)
saved_by text now (Some before) None is h = absurd h
saved_by text now (Some before) (Some then) is h = ap (λ x. Some x) h

done : (text : List ℕ) (d : Devices) (new : Option (Option (List ℕ))) → Tells d → Saves text save.Done d.pocket.saved new → new ≡ Some (Some text)
done text d new tells h = saved_by text tells.0 d.pocket.saved new tells.1 h

never : {X : Type 0} → true ≡ false → X
never e = absurd (cc)

-- what actions are tested and tried with
abbrev Tried : Marks → State → Devices → Type 0
Tried marks s d = Stands s d × (marks.any ≡ false → marks.histories ≡ s.histories)

abbrev Ending_ : Bool → State → Devices → Type 0
Ending_ changed s d = Tells d × (changed ≡ false → Stands s d)

keeps_saved : (at : When) →
    Keeps at (λ s d. Stands s d) (λ marks s d. Tried marks s d) (λ began attempt s d. Stands s d) (λ changed would s d. Ending_ changed s d) (λ a s d. Succeeded a s d)
keeps_saved at = record {
  memory = λ s d stands fault none. absurd (none refl);
  broken_done = λ s d id pocket stands is saves.
      let now = done _ d _ (Some (text_of s), stands) saves.saves in
      ((_, now), λ e. now);
  broken_failed = λ s d id pocket stands is saves fault none. absurd (fault refl);
  broken_memory = λ s d id pocket stands is saves fault none. absurd (none refl);
  resumes = λ s d attempt stands none is. stands;
  held = λ began attempt s d component line machine after stands goes. ((_, stands), λ e. stands);
  wants = λ began attempt s d digest machine after stands goes. ((_, stands), λ e. stands);
  ends = λ began attempt s d fail note machine after stands goes. ((_, stands), λ e. never e);
  lacks = λ began attempt s d machine after stands goes fault none. absurd (none refl);
  tries = λ s d stands none is. (stands, λ e. refl);
  tested = λ marks s d action machine m may asks. m;
  marked = λ marks s d action machine m may asks. (m.0, λ e. never e);
  test_failed = λ marks s d action machine m asks fault none. m.0;
  test_memory = λ marks s d action machine m asks fault none. absurd (none refl);
  passed = λ marks s d action machine m asks. m;
  try_failed = λ marks s d action machine m asks fault none. m.0;
  try_memory = λ marks s d action machine m asks fault none. absurd (none refl);
  begun_done = λ marks s d action content machine pocket m due is among saves. done _ d _ (_, m.0) saves.saves;
  begun_failed = λ marks s d action machine pocket m due among saves fault none. absurd (fault refl);
  begun_memory = λ marks s d action machine pocket m due saves fault none. absurd (none refl);
  no_memory = λ marks s d m fault none. absurd (none refl);
  idle = λ marks s d m. ((_, m.0), λ e. m.0 ∙ ap (λ hs. Some (Some (text_of (with_histories hs s)))) (sym (m.1 e)));
  reported_done = λ changed would s d pocket b can saves fault none. done _ d _ b.0 saves.saves;
  reported_failed = λ changed would s d pocket b can saves fault none. absurd (fault refl);
  reported_memory = λ changed would s d pocket b can saves fault none. absurd (none refl);
  changed_done = λ would s d pocket b saves fault none. done _ d _ b.0 saves.saves;
  changed_failed = λ would s d pocket b saves fault none. absurd (fault refl);
  changed_memory = λ would s d pocket b saves fault none. absurd (none refl);
  unchanged = λ would s d b fault none. b.1 refl;
}

told_some : (o : Option (Option (List ℕ))) → IsSome o → (now : Option (List ℕ)) × (o ≡ Some now)
told_some None some = absurd (cc)
told_some (Some now) some = (now, refl)

pub saves_last : (at : When) (s s2 : State) (d d2 : Devices) (answer : Turned) → Turn at s d answer s2 d2 → answer ≢ PocketFault → answer ≢ Memory → IsSome d.pocket.saved → (s.unsaved ≡ false → d.pocket.saved ≡ Some (Some (text_of s)))
    → d2.pocket.saved ≡ Some (Some (text_of s2))
saves_last at s s2 d d2 answer turn fault none some clean =
    turn_keeps at (λ s d. Stands s d) (λ marks s d. Tried marks s d) (λ began attempt s d. Stands s d) (λ changed would s d. Ending_ changed s d) (λ a s d. Succeeded a s d) (keeps_saved at) answer s2 d2 s d
    clean (λ pocket saves. done _ d _ (told_some d.pocket.saved some) saves.saves) (λ pocket saves fault none. absurd (fault refl)) (λ pocket saves fault none. absurd (none refl)) turn fault none
