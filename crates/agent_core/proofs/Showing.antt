-- The reports that an agent shows are saved, over every call.
use Rattle.std.proofs.Common.{ℕ, zero, suc, ◌≡◌, ◌<◌, List, [], ◌∷◌, length, take, Bool, true, false, cond, inl, inr, Option, Some, None, refl, sym, ap, subst, ◌∙◌, eqb, arith}
use Rattle.std.specs.Prelude.{All, Contains, ◌≢◌, ◌⊎◌, not}
use Rattle.std.proofs.lemmas.Bool.{eqb-true, ne_eqb}
use Rattle.std.proofs.lemmas.List.{take-append-le}
use Rattle.std.proofs.lemmas.List.Elements.{All-cons, All-contains_itself, All-head, All-nil, All-tail, All-take, All-weaker}
use Rattle.desk_base.specs.Moments.{IsMoment}
use Rattle.report_text.specs.declared.answer.Gathered.{Gathered}
use Rattle.report_text.specs.declared.answer.Gathered.TheVariants as gathered
use Rattle.report_text.specs.declared.answer.Verdict.{Verdict}
use Rattle.report_text.specs.declared.answer.Verdict.TheVariants as verdict
use Rattle.report_text.specs.declared.report.Report.{Report}
use Rattle.fix_site.specs.declared.action.Action.{Action}
use Rattle.fix_site.specs.declared.site.Site.{Site}
use Rattle.script_run.specs.Asking.{When}
use Rattle.bf_machine.specs.Views.{MachineView}
use Rattle.agent_text.specs.declared.saved.Saved.{Saved}
use Rattle.agent_text.specs.Histories.{AreHistories, rows_at}
use Rattle.agent_text.specs.Pockets.{Holds}
use Rattle.agent_text.specs.SavedTexts.{IsSaved}
use Rattle.agent_attempt.specs.declared.found.Found.TheVariants as found
use Rattle.agent_attempt.specs.ActionContents.{actions_of, content_of}
use Rattle.agent_attempt.specs.Relevance.{IsDue}
use Rattle.agent_core.specs.declared.turned.Turned.{Turned}
use Rattle.agent_core.specs.declared.turned.Turned.TheVariants.{MachineFault, Memory, PocketFault}
use Rattle.agent_core.specs.Devices.{Devices}
use Rattle.agent_core.specs.Opens.{IsAgentOf, opened_state}
use Rattle.agent_core.specs.ShownReports.{ShowsAll, ShowsSaved, StandsIn, shown_reports}
use Rattle.agent_core.specs.Stops.{IsTextOfSaved}
use Rattle.agent_core.specs.Turns.{Marks, Turn}
use Rattle.agent_state.specs.Changes.{DropsState, GathersSite, SettlesState, SuppliesState, shown_without, with_dropped, without_report}
use Rattle.agent_state.specs.States.{IsSound, State, as_saved, interrupted, next_report, saved_of, text_of, with_beginning, with_held, with_histories, with_report, with_unsaved}
use Rattle.agent_state.proofs.Dropping.{seq_of}
use Rattle.line_forms.proofs.Rising.{Rises, rises_from_increasing, rises_head, rises_tail}
use Rattle.agent_core.proofs.Begun.{ChangedHistories, marked_kept, saved_beginning, sound_broken}
use Rattle.agent_core.proofs.Due.{due_may}
use Rattle.agent_core.proofs.Holding.{after_done, after_failed, after_memory, holds_all, holds_so}
use Rattle.agent_core.proofs.SavedOnce.{own_text}
use Rattle.agent_core.proofs.Sounding.{sound_saved}
use Rattle.agent_core.proofs.TurnPoints.{Keeps, turn_keeps, with_machine, with_pocket}

-- ---- a saved text has its reports
stand_own : (text : List ℕ) (saved : Saved) (reports : List Report) → IsTextOfSaved text saved → All (Contains saved.reports) reports → All (StandsIn (Some text)) reports
stand_own text saved reports own all = All-weaker (Contains saved.reports) (StandsIn (Some text)) (λ report there. (saved, own, there)) reports all

taken : (n : ℕ) (reports : List Report) → All (Contains reports) (take n reports)
taken n reports = All-take (Contains reports) n reports (All-contains_itself reports)

-- those of a state
own_shown : (s : State) → IsSaved (saved_of s) → All (StandsIn (Some (text_of s))) (shown_reports s)
own_shown s is = stand_own (text_of s) (saved_of s) (shown_reports s) (own_text s is) (taken s.shown s.reports)

-- ---- the points of a turn
abbrev In : State → Devices → Type 0
In s d = Holds d.pocket.saved (λ now. All (StandsIn now) (shown_reports s))

abbrev Shown : State → Devices → Type 0
Shown s d = ShowsAll s × In s d

abbrev Stood : State → Devices → Type 0
Stood s d = Shown s d × IsSound s

abbrev Tried : Marks → State → Devices → Type 0
Tried marks s d = Stood s d × AreHistories marks.histories

abbrev Kept : Turned → State → Devices → Type 0
Kept a s d = ShowsSaved s d.pocket.saved × (a ≢ PocketFault → a ≢ Memory → ShowsAll s)

abbrev Came : Turned → State → Devices → Type 0
Came a s d = IsSound s → Kept a s d

stays : (a : Turned) (s : State) (d : Devices) → Shown s d → Kept a s d
stays a s d shown = (record { all = inr shown.0; stand = shown.1 }, λ fault none. shown.0)

-- the state stands unsaved after a save that failed or had no memory
failed : (s : State) (d : Devices) → s.unsaved ≡ true → In s d → Kept PocketFault s d
failed s d unsaved stand = (record { all = inl unsaved; stand = stand }, λ fault none. absurd (fault refl))

lacking : (s : State) (d : Devices) → s.unsaved ≡ true → In s d → Kept Memory s d
lacking s d unsaved stand = (record { all = inl unsaved; stand = stand }, λ fault none. absurd (none refl))

-- the same reports are shown where one is added
shown_still : (s : State) → ShowsAll s → shown_reports (with_report s) ≡ shown_reports s
shown_still s all =
    let same : s.shown ≡ length s.reports = all in
    take-append-le s.shown s.reports (next_report s ∷ []) (omega (arith, same))

with_one_more : (s : State) (d : Devices) → Shown s d → In (with_report s) d
with_one_more s d shown = subst (λ l. Holds d.pocket.saved (λ now. All (StandsIn now) l)) (sym (shown_still s shown.0)) shown.1

keeps_shown : ChangedHistories → (at : When) → IsMoment at.moment →
    Keeps at (λ s d. Stood s d) (λ marks s d. Tried marks s d) (λ began attempt s d. Shown s d) (λ changed would s d. Shown s d) (λ a s d. Came a s d)
keeps_shown law at time = record {
  memory = λ s d a is. stays Memory s d a.0;
  broken_done = λ s d id pocket a broken saves. (
    refl,
    after_done (λ now. All (StandsIn now) (shown_reports (as_saved (interrupted id at.moment s)))) _ d.pocket.saved pocket.saved saves.saves
        (own_shown (as_saved (interrupted id at.moment s)) (sound_broken law s id at.moment time a.1 broken).saved),
  );
  broken_failed = λ s d id pocket a broken saves is.
      failed (with_unsaved (interrupted id at.moment s)) (with_pocket pocket d) refl
      (after_failed (λ now. All (StandsIn now) (shown_reports s)) _ d.pocket.saved pocket.saved saves.saves a.0.1 (own_shown (interrupted id at.moment s) is.saved));
  broken_memory = λ s d id pocket a broken saves is.
      lacking (with_unsaved (interrupted id at.moment s)) (with_pocket pocket d) refl
      (after_memory (λ now. All (StandsIn now) (shown_reports s)) (text_of (interrupted id at.moment s)) d.pocket.saved pocket.saved saves.saves a.0.1);
  resumes = λ s d attempt a broken held. a.0;
  held = λ began attempt s d component line machine after g goes. g;
  wants = λ began attempt s d digest machine after g goes. g;
  ends = λ began attempt s d fail note machine after g goes. g;
  lacks = λ began attempt s d machine after g goes is. stays Memory (with_held after s) (with_machine machine d) g;
  tries = λ s d a broken held. (a, a.1.saved.histories);
  tested = λ marks s d action machine t may asks. t;
  marked = λ marks s d action machine t may asks. (t.0, marked_kept law marks.histories action.id at.moment time t.1 may);
  test_failed = λ marks s d action machine t asks is. stays MachineFault s (with_machine machine d) t.0.0;
  test_memory = λ marks s d action machine t asks is. stays Memory s (with_machine machine d) t.0.0;
  passed = λ marks s d action machine t asks. t;
  try_failed = λ marks s d action machine t asks is. stays MachineFault s (with_machine machine d) t.0.0;
  try_memory = λ marks s d action machine t asks is. stays Memory s (with_machine machine d) t.0.0;
  begun_done = λ marks s d action content machine pocket t due there among saves. (
    refl,
    after_done (λ now. All (StandsIn now) (shown_reports (as_saved (begun marks s action)))) _ d.pocket.saved pocket.saved saves.saves
        (own_shown (as_saved (begun marks s action)) (begins marks s d action machine t due among)),
  );
  begun_failed = λ marks s d action machine pocket t due among saves is.
      failed (with_unsaved (with_histories marks.histories s)) (with_pocket pocket (with_machine machine d)) refl
      (after_failed (λ now. All (StandsIn now) (shown_reports s)) _ d.pocket.saved pocket.saved saves.saves t.0.0.1 (own_shown (begun marks s action) (begins marks s d action machine t due among)));
  begun_memory = λ marks s d action machine pocket t due saves is.
      stays Memory s (with_pocket pocket (with_machine machine d))
      (t.0.0.0, after_memory (λ now. All (StandsIn now) (shown_reports s)) (text_of (begun marks s action)) d.pocket.saved pocket.saved saves.saves t.0.0.1);
  no_memory = λ marks s d t is. stays Memory s d t.0.0;
  idle = λ marks s d t. t.0.0;
  reported_done = λ changed would s d pocket b can saves is.
      stays would (as_saved (with_report s)) (with_pocket pocket d)
      (refl, after_done (λ now. All (StandsIn now) (shown_reports (as_saved (with_report s)))) _ d.pocket.saved pocket.saved saves.saves (own_shown (as_saved (with_report s)) is.saved));
  reported_failed = λ changed would s d pocket b can saves is.
      failed (with_unsaved (with_report s)) (with_pocket pocket d) refl
      (after_failed (λ now. All (StandsIn now) (shown_reports (with_report s))) _ d.pocket.saved pocket.saved saves.saves (with_one_more s d b) (own_shown (with_report s) is.saved));
  reported_memory = λ changed would s d pocket b can saves is.
      lacking (with_unsaved (with_report s)) (with_pocket pocket d) refl
      (after_memory (λ now. All (StandsIn now) (shown_reports (with_report s))) (text_of (with_report s)) d.pocket.saved pocket.saved saves.saves (with_one_more s d b));
  changed_done = λ would s d pocket b saves is.
      stays would (as_saved s) (with_pocket pocket d)
      (refl, after_done (λ now. All (StandsIn now) (shown_reports (as_saved s))) _ d.pocket.saved pocket.saved saves.saves (own_shown (as_saved s) is.saved));
  changed_failed = λ would s d pocket b saves is.
      failed (with_unsaved s) (with_pocket pocket d) refl
      (after_failed (λ now. All (StandsIn now) (shown_reports s)) _ d.pocket.saved pocket.saved saves.saves b.1 (own_shown s is.saved));
  changed_memory = λ would s d pocket b saves is.
      lacking (with_unsaved s) (with_pocket pocket d) refl
      (after_memory (λ now. All (StandsIn now) (shown_reports s)) (text_of s) d.pocket.saved pocket.saved saves.saves b.1);
  unchanged = λ would s d b is. stays would s d b;
}
  where
    begun : Marks → State → Action → State
    begun marks s action = with_beginning action.id at.moment (with_histories marks.histories s)

    begins : (marks : Marks) (s : State) (d : Devices) (action : Action) (machine : MachineView) → Tried marks s d
        → IsDue at s.computer action (content_of action s.sites) (rows_at action.id marks.histories) d.machine found.Yes machine → Contains (actions_of s.sites) action
        → IsSaved (saved_of (begun marks s action))
    begins marks s d action machine t due among =
        saved_beginning law at s marks.histories action time t.0.1 t.1 among (due_may at s.computer action (content_of action s.sites) (rows_at action.id marks.histories) d.machine machine due)

shows_all : (s : State) (told : Option (Option (List ℕ))) → ShowsSaved s told → s.unsaved ≡ false → ShowsAll s
shows_all s told shows clean = by_cases shows.all
  where
    by_cases : (s.unsaved ≡ true) ⊎ ShowsAll s → ShowsAll s
    by_cases (inl unsaved) = absurd (let e : true ≡ false = sym unsaved ∙ clean in cc)
    by_cases (inr all) = all

pub turn_shown : ChangedHistories → (at : When) → IsMoment at.moment → (s s2 : State) (d d2 : Devices) (answer : Turned) → Turn at s d answer s2 d2 → IsSound s → IsSound s2 → ShowsSaved s d.pocket.saved → Kept answer s2 d2
turn_shown law at time s s2 d d2 answer turn is is2 shows =
    turn_keeps at (λ s d. Stood s d) (λ marks s d. Tried marks s d) (λ began attempt s d. Shown s d) (λ changed would s d. Shown s d) (λ a s d. Came a s d) (keeps_shown law at time) answer s2 d2 s d
    (λ clean. ((shows_all s d.pocket.saved shows clean, shows.stand), is))
    (λ pocket saves. ((refl, after_done (λ now. All (StandsIn now) (shown_reports (as_saved s))) _ d.pocket.saved pocket.saved saves.saves (own_shown (as_saved s) is.saved)), sound_saved s is))
    (λ pocket saves same.
    (record { all = shows.all; stand = after_failed (λ now. All (StandsIn now) (shown_reports s)) _ d.pocket.saved pocket.saved saves.saves shows.stand (own_shown s is.saved) }, λ fault none. absurd (fault refl)))
    (λ pocket saves same.
    (record { all = shows.all; stand = after_memory (λ now. All (StandsIn now) (shown_reports s)) (text_of s) d.pocket.saved pocket.saved saves.saves shows.stand }, λ fault none. absurd (none refl))) turn is2

-- ---- a report is dropped
-- later reports are kept
others_kept : (seq : ℕ) (xs : List Report) → All (λ y. seq < seq_of y) xs → without_report seq xs ≡ xs
others_kept seq [] later = refl
others_kept seq (y ∷ ys) later =
    let rest = without_report seq ys in
    let above : seq < y.seq = All-head (λ y. seq < seq_of y) y ys later in
    ap (λ b. cond (not b) (y ∷ rest) rest) (ne_eqb y.seq seq (λ e. omega (arith, e, above))) ∙ ap (λ l. y ∷ l) (others_kept seq ys (All-tail (λ y. seq < seq_of y) y ys later))

behind_kept : (seq : ℕ) (x : Report) (xs : List Report) → Rises seq_of (x ∷ xs) → eqb x.seq seq ≡ true → without_report seq xs ≡ xs
behind_kept seq x xs up e = others_kept seq xs (subst (λ n. All (λ y. n < seq_of y) xs) (eqb-true x.seq seq e) (rises_head seq_of x xs up))

-- those that are left of what was shown
still_shown : (P : Report → Type 0) (seq n : ℕ) (xs : List Report) → Rises seq_of xs → All P (take n xs) → All P (take (shown_without seq n xs) (without_report seq xs))
still_shown P seq n [] up all = all
still_shown P seq zero (x ∷ xs) up all = All-nil P
still_shown P seq (suc n) (x ∷ xs) up all = by_test (eqb x.seq seq) refl (still_shown P seq n xs (rises_tail seq_of x xs up) (All-tail P x (take n xs) all))
  where
    by_test : (b : Bool) → eqb x.seq seq ≡ b → All P (take (shown_without seq n xs) (without_report seq xs))
        → All P (take (cond b n (suc (shown_without seq n xs))) (cond (not b) (x ∷ without_report seq xs) (without_report seq xs)))
    by_test true e next = subst (λ l. All P (take n l)) (sym (behind_kept seq x xs up e)) (All-tail P x (take n xs) all)
    by_test false e next = All-cons P x (take (shown_without seq n xs) (without_report seq xs)) (All-head P x (take n xs) all) next

all_shown : (seq : ℕ) (xs : List Report) → Rises seq_of xs → shown_without seq (length xs) xs ≡ length (without_report seq xs)
all_shown seq [] up = refl
all_shown seq (x ∷ xs) up = by_test (eqb x.seq seq) refl (all_shown seq xs (rises_tail seq_of x xs up))
  where
    by_test : (b : Bool) → eqb x.seq seq ≡ b → shown_without seq (length xs) xs ≡ length (without_report seq xs)
        → cond b (length xs) (suc (shown_without seq (length xs) xs)) ≡ length (cond (not b) (x ∷ without_report seq xs) (without_report seq xs))
    by_test true e next = ap (length {A = Report}) (sym (behind_kept seq x xs up e))
    by_test false e next = ap suc next

abbrev Settled : State → State → Option (Option (List ℕ)) → Type 0
Settled s s2 told = ShowsSaved s2 told × (ShowsAll s → ShowsAll s2)

same_settled : (s s2 : State) (told : Option (Option (List ℕ))) → s2 ≡ s → ShowsSaved s told → Settled s s2 told
same_settled s s2 told same shows = subst (λ x. Settled s x told) (sym same) (shows, λ all. all)

dropped_shown : (seq : ℕ) (s : State) (told : Option (Option (List ℕ))) → IsSound s → ShowsSaved s told → Settled s (with_dropped seq s) told
dropped_shown seq s told is shows =
    let up : Rises seq_of s.reports = rises_from_increasing seq_of s.reports is.saved.reports.ascending in (
      record {
        all = inl refl;
        stand = holds_so (λ now. All (StandsIn now) (shown_reports s)) (λ now. All (StandsIn now) (shown_reports (with_dropped seq s))) (λ now all. still_shown (StandsIn now) seq s.shown s.reports up all) told shows.stand;
      },
      λ all. ap (λ n. shown_without seq n s.reports) all ∙ all_shown seq s.reports up,
    )

drops_shown : (seq : ℕ) (answer : Bool) (s s2 : State) (told : Option (Option (List ℕ))) → IsSound s → DropsState seq s answer s2 → ShowsSaved s told → Settled s s2 told
drops_shown seq true s s2 told is drops shows = subst (λ x. Settled s x told) (sym drops.1) (dropped_shown seq s told is shows)
drops_shown seq false s s2 told is drops shows = same_settled s s2 told drops.1 shows

pub settled_shown : (seq : ℕ) (v : Verdict) (s s2 : State) (answer : Bool) (told : Option (Option (List ℕ))) → IsSound s → SettlesState seq v s answer s2 → ShowsSaved s told → Settled s s2 told
settled_shown seq verdict.Stored s s2 answer told is settles shows = drops_shown seq answer s s2 told is settles shows
settled_shown seq verdict.Carried s s2 answer told is settles shows = same_settled s s2 told settles.1 shows
settled_shown seq (verdict.Conflict digest) s s2 answer told is settles shows = same_settled s s2 told settles.1 shows
settled_shown seq (verdict.Full limit) s s2 answer told is settles shows = same_settled s s2 told settles.1 shows

-- ---- a site is gathered, and a file comes
pub gathered_shown : (site : Site) (s s2 : State) (answer : Gathered) (told : Option (Option (List ℕ))) → GathersSite s site answer s2 → ShowsSaved s told → ShowsSaved s2 told
gathered_shown site s s2 gathered.New told g shows = subst (λ x. ShowsSaved x told) (sym g.1) (record { all = shows.all; stand = shows.stand })
gathered_shown site s s2 (gathered.Older version) told g shows = subst (λ x. ShowsSaved x told) (sym g.2) shows
gathered_shown site s s2 gathered.Memory told g shows = subst (λ x. ShowsSaved x told) (sym g) shows

pub supplied_shown : (digest : List ℕ) (bytes : Option (List ℕ)) (s s2 : State) (answer : Bool) (told : Option (Option (List ℕ))) → SuppliesState s digest bytes answer s2 → ShowsSaved s told → ShowsSaved s2 told
supplied_shown digest bytes s s2 answer told supplies shows = subst (λ x. ShowsSaved x told) (sym supplies.0) (record { all = shows.all; stand = shows.stand })

-- ---- an agent is opened
pub opened_shown : (computer : List ℕ) (found : Option (List ℕ)) (told : Option (Option (List ℕ))) (s : State) → Holds told (λ now. now ≡ found) → IsAgentOf computer found s → ShowsAll s × ShowsSaved s told
opened_shown computer None told s holds of =
    subst (λ x. ShowsAll x × ShowsSaved x told) (sym of) (refl, record { all = inr refl; stand = holds_all (λ now. All (StandsIn now) []) (λ now. All-nil (StandsIn now)) told })
opened_shown computer (Some text) told s holds (what, (form, by, read), of) =
    let all = stand_own text what (take (length what.reports) what.reports) (form, (by.0, by.1, refl), read) (taken (length what.reports) what.reports) in
    subst (λ x. ShowsAll x × ShowsSaved x told) (sym of) (
      refl,
      record {
        all = inr refl;
        stand = holds_so (λ now. now ≡ Some text) (λ now. All (StandsIn now) (shown_reports (opened_state what))) (λ now e. subst (λ n. All (StandsIn n) (shown_reports (opened_state what))) (sym e) all) told holds;
      },
    )
