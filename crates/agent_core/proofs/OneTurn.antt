-- Where no device fails and memory lasts, a turn on devices that tell goes in one way.
use Rattle.std.proofs.Common.{◌≡◌, ◌≢◌, ℕ, ◌-◌, ◌^◌, ◌<◌, ◌≤◌, Bool, true, false, List, [], ◌∷◌, IsSome, inl, inr, Option, Some, None, refl, sym, ap, subst, ◌∙◌, arith}
use Rattle.act_rules.specs.Rows.{last_row}
use Rattle.fix_site.specs.declared.action.Action.{Action}
use Rattle.script_run.specs.Asking.{When}
use Rattle.bf_machine.specs.Views.{MachineView}
use Rattle.agent_text.specs.declared.pocket.SaveResult.{SaveResult}
use Rattle.agent_text.specs.declared.pocket.SaveResult.TheVariants as save
use Rattle.agent_text.specs.Histories.{rows_at}
use Rattle.agent_text.specs.Pockets.{PocketView, Saves, SavesTo}
use Rattle.agent_attempt.specs.declared.found.Found.{Found}
use Rattle.agent_attempt.specs.declared.found.Found.TheVariants as found
use Rattle.agent_attempt.specs.declared.went.Went.{Went}
use Rattle.agent_attempt.specs.declared.went.Went.TheVariants as went
use Rattle.agent_attempt.specs.Attempts.{PlainAttempt}
use Rattle.agent_attempt.specs.ActionContents.{Content, actions_of, content_of}
use Rattle.agent_attempt.specs.Relevance.{Asking, ContentIs, IsDue}
use Rattle.agent_core.specs.declared.turned.Turned.{Turned}
use Rattle.agent_core.specs.declared.turned.Turned.TheVariants.{Idle, Interrupted, MachineFault, PocketFault, Memory}
use Rattle.agent_core.specs.declared.turned.Turned.TheVariants as turned
use Rattle.agent_core.specs.Saving.{Answers, TurnAsks, Ending, SavesThen}
use Rattle.agent_state.specs.States.{State, as_saved, broken_action, can_report, interrupted, text_of, with_beginning, with_end, with_held, with_histories, with_report, with_unsaved}
use Rattle.agent_core.specs.Devices.{Devices, NoFaults, TellsWorld}
use Rattle.agent_core.specs.Turns.{AfterBeginning, AfterFirstSave, AfterGoing, AfterInterrupting, AfterLastSave, AfterTest, AfterTrying, Begins, Clears, Finishes, FirstSave, TurnGoesOn, Interrupts, LastSave, Marks, ReportsAndSaves, StepFor, Steps, TestsOne, Tries, TriesEach, TriesMarked, Turn, beginning, may_clear, no_marks, outcome_of, with_mark}
use Rattle.agent_attempt.proofs.GoingPoints.{going_later}
use Rattle.agent_core.proofs.OneAsking.{Once as FoundOnce, content_once, due_once}
use Rattle.agent_core.proofs.OneGoing.{OneVerdict, going_once}
use Rattle.agent_core.proofs.OneLook.{Calm, OnePlan}
use Rattle.agent_attempt.proofs.Quiet.{content_quiet, due_quiet}
use Rattle.agent_core.proofs.TurnPoints.{with_machine, with_pocket}

-- ---- the machine's count is no less at the end
abbrev Lasts : Devices → Ending → Type 0
Lasts d ending = (a : Turned) (s2 : State) (d2 : Devices) → ending a s2 d2 → d.machine.faults ≤ d2.machine.faults

answers_last : (would : Turned) (s : State) (d : Devices) → Lasts d (Answers would s d)
answers_last would s d a s2 d2 h = let same = ap (λ (x : Devices). x.machine.faults) h.2 in omega (arith, same)

-- the same count stands behind a save
saved_last : (would : Turned) (s : State) (d : Devices) (pocket : PocketView) → Lasts d (Answers would s (with_pocket pocket d))
saved_last would s d pocket a s2 d2 h = let same = ap (λ (x : Devices). x.machine.faults) h.2 in omega (arith, same)

last_save_lasts : (result : SaveResult) (would : Turned) (s : State) (d : Devices) (pocket : PocketView) → Lasts d (AfterLastSave would s result (with_pocket pocket d))
last_save_lasts save.Done would s d pocket = saved_last would (as_saved s) d pocket
last_save_lasts save.Failed would s d pocket = saved_last PocketFault (with_unsaved s) d pocket
last_save_lasts save.Memory would s d pocket = saved_last Memory (with_unsaved s) d pocket

save_lasts : (changed : Bool) (would : Turned) (s : State) (d : Devices) → Lasts d (LastSave changed would s d)
save_lasts false would s d a s2 d2 h = answers_last would s d a s2 d2 h
save_lasts true would s d a s2 d2 (result, pocket, saves, h) = last_save_lasts result would s d pocket a s2 d2 h

report_lasts : (can changed : Bool) (would : Turned) (s : State) (d : Devices) → Lasts d (ReportsAndSaves can changed would s d)
report_lasts true changed would s d = save_lasts true would (with_report s) d
report_lasts false changed would s d = save_lasts changed would s d

finish_lasts : (changed : Bool) (would : Turned) (s : State) (d : Devices) → Lasts d (Finishes changed would s d)
finish_lasts changed would s d = report_lasts (can_report s) changed would s d

after_going_lasts : (at : When) (id : ℕ) (began : Bool) (w : Went) (after : Option PlainAttempt) (s : State) (d : Devices) → Lasts d (AfterGoing at id began w after s d)
after_going_lasts at id began (went.Held component line) after s d = finish_lasts false (turned.Held id began component line) (with_held after s) d
after_going_lasts at id began (went.Wants digest) after s d = finish_lasts false (turned.Wants id began digest) (with_held after s) d
after_going_lasts at id began (went.Ended fail note) after s d =
    finish_lasts true (turned.Ended id began (outcome_of fail) fail) (with_end id at.moment (outcome_of fail) note s) d
after_going_lasts at id began went.Memory after s d = answers_last Memory (with_held after s) d

goes_last : (at : When) (began : Bool) (attempt : PlainAttempt) (s : State) (d : Devices) → Lasts d (TurnGoesOn at began attempt s d)
goes_last at began attempt s d a s2 d2 (w, machine, after, goes, h) =
    let first = (going_later at attempt d.machine w machine after goes).faults in
    let later = after_going_lasts at attempt.action.id began w after s (with_machine machine d) a s2 d2 h in
    omega (arith, first, later)

after_beginning_lasts : (at : When) (s marked begun : State) (attempt : PlainAttempt) (result : SaveResult) (d : Devices) (pocket : PocketView) → Lasts d (AfterBeginning at s marked begun attempt result (with_pocket pocket d))
after_beginning_lasts at s marked begun attempt save.Done d pocket = goes_last at true attempt (as_saved begun) (with_pocket pocket d)
after_beginning_lasts at s marked begun attempt save.Failed d pocket = saved_last PocketFault (with_unsaved marked) d pocket
after_beginning_lasts at s marked begun attempt save.Memory d pocket = saved_last Memory s d pocket

begins_last : (at : When) (s marked : State) (action : Action) (content : Option Content) (d : Devices) → Lasts d (Begins at s marked action content d)
begins_last at s marked action None d a s2 d2 h = absurd h
begins_last at s marked action (Some content) d a s2 d2 (result, pocket, saves, h) = after_beginning_lasts at s marked (with_beginning action.id at.moment marked) (beginning at action content marked) result d pocket a s2 d2 h

-- what comes behind something that was asked
abbrev Behind : (Found → Devices → Ending) → Type 0
Behind after = (f : Found) (d : Devices) → Lasts d (after f d)

trying_lasts : (at : When) (s marked : State) (action : Action) (next : Devices → Ending) → ((d : Devices) → Lasts d (next d)) → Behind (AfterTrying at s marked action next)
trying_lasts at s marked action next lasts found.Yes d = begins_last at s marked action (content_of action s.sites) d
trying_lasts at s marked action next lasts found.No d = lasts d
trying_lasts at s marked action next lasts found.Failed d = answers_last MachineFault s d
trying_lasts at s marked action next lasts found.Memory d = answers_last Memory s d

tries_last : (at : When) (s marked : State) (any : Bool) (actions : List Action) (d : Devices) → Lasts d (TriesEach at s marked any actions d)
tries_last at s marked any [] d a s2 d2 (inl h) = answers_last Memory s d a s2 d2 h
tries_last at s marked any [] d a s2 d2 (inr h) = finish_lasts any Idle marked d a s2 d2 h
tries_last at s marked any (action ∷ actions) d a s2 d2 (f, machine, due, h) =
    let first = (due_quiet at s.computer action (content_of action s.sites) (rows_at action.id marked.histories) d.machine f machine due).only.later in
    let later = trying_lasts at s marked action (TriesEach at s marked any actions) (λ d. tries_last at s marked any actions d) f (with_machine machine d) a s2 d2 h in
    omega (arith, first, later)

test_lasts : (at : When) (s : State) (id : ℕ) (marks : Marks) (next : Marks → Devices → Ending) → ((marks : Marks) (d : Devices) → Lasts d (next marks d)) → Behind (AfterTest at s id marks next)
test_lasts at s id marks next lasts found.Yes d = lasts marks d
test_lasts at s id marks next lasts found.No d = lasts (with_mark at id marks) d
test_lasts at s id marks next lasts found.Failed d = answers_last MachineFault s d
test_lasts at s id marks next lasts found.Memory d = answers_last Memory s d

tests_last : (may : Bool) (at : When) (s : State) (action : Action) (marks : Marks) (next : Marks → Devices → Ending) → ((marks : Marks) (d : Devices) → Lasts d (next marks d)) → (d : Devices) → Lasts d (TestsOne may at s action marks next d)
tests_last false at s action marks next lasts d a s2 d2 h = lasts marks d a s2 d2 h
tests_last true at s action marks next lasts d a s2 d2 (f, machine, is, h) =
    let first = (content_quiet at (content_of action s.sites) d.machine f machine is).only.later in
    let later = test_lasts at s action.id marks next lasts f (with_machine machine d) a s2 d2 h in
    omega (arith, first, later)

clears_last : (at : When) (s : State) (actions : List Action) (marks : Marks) (next : Marks → Devices → Ending) → ((marks : Marks) (d : Devices) → Lasts d (next marks d)) → (d : Devices) → Lasts d (Clears at s actions marks next d)
clears_last at s [] marks next lasts d = lasts marks d
clears_last at s (action ∷ actions) marks next lasts d =
    tests_last (may_clear (last_row (rows_at action.id marks.histories))) at s action marks (λ (then : Marks). Clears at s actions then next) (λ marks d. clears_last at s actions marks next lasts d) d

-- ---- one way
not_done : save.Done ≡ save.Failed → ⊥
not_done e = cc

saved_as : (text : List ℕ) (old new : Option (Option (List ℕ))) → IsSome old → Saves text save.Done old new → new ≡ Some (Some text)
saved_as text None new some h = absurd (cc)
saved_as text (Some before) None some h = absurd h
saved_as text (Some before) (Some now) some h = ap (λ x. Some x) h

same_pocket : (x y : PocketView) → x.saved ≡ y.saved → x.faults ≡ y.faults → x ≡ y
same_pocket x y saved faults = λ j. record { saved = saved j; faults = faults j }

module _ (plan : OnePlan) (verdict : OneVerdict) (faults : ℕ) (low : faults < 2 ^ 64 - 1) (at : When) where
  record CalmAll (d : Devices) : Type 0 where
    machine : Calm faults d.machine
    told : IsSome d.pocket.saved

  -- the machine's count stands, and the turn ended neither by a fault of the pocket nor for want of memory
  abbrev Fine : Turned → Devices → Type 0
  Fine a d = (d.machine.faults ≡ faults) × (a ≢ PocketFault) × (a ≢ Memory)

  abbrev Once : Ending → Type 0
  Once ending = (a b : Turned) (s2 s3 : State) (d2 d3 : Devices) → ending a s2 d2 → ending b s3 d3 → Fine a d2 → Fine b d3 → (a ≡ b) × (s2 ≡ s3) × (d2 ≡ d3)

  answers_once : (would : Turned) (s : State) (d : Devices) → Once (Answers would s d)
  answers_once would s d a b s2 s3 d2 d3 p q fine fine' = (p.0 ∙ sym q.0, p.1 ∙ sym q.1, p.2 ∙ sym q.2)

  -- ---- saves
  abbrev Faults : (SaveResult → Devices → Ending) → Type 0
  Faults after = (d : Devices) (a : Turned) (s2 : State) (d2 : Devices) → (after save.Failed d a s2 d2 → a ≡ PocketFault) × (after save.Memory d a s2 d2 → a ≡ Memory)

  done_of : (after : SaveResult → Devices → Ending) → Faults after → (result : SaveResult) (d : Devices) (a : Turned) (s2 : State) (d2 : Devices) → after result d a s2 d2 → Fine a d2 → result ≡ save.Done
  done_of after fault save.Done d a s2 d2 h fine = refl
  done_of after fault save.Failed d a s2 d2 h fine = absurd (fine.1 ((fault d a s2 d2).0 h))
  done_of after fault save.Memory d a s2 d2 h fine = absurd (fine.2 ((fault d a s2 d2).1 h))

  saves_once : (s : State) (d : Devices) (after : SaveResult → Devices → Ending) → CalmAll d → Faults after
      → ((pocket : PocketView) → CalmAll (with_pocket pocket d) → Once (after save.Done (with_pocket pocket d))) → Once (SavesThen s d after)
  saves_once s d after calm fault once a b s2 s3 d2 d3 (r, pocket, saves, h) (r', pocket', saves', k) fine fine' =
      let is = done_of after fault r (with_pocket pocket d) a s2 d2 h fine in
      let is' = done_of after fault r' (with_pocket pocket' d) b s3 d3 k fine' in
      let first : SavesTo (text_of s) d.pocket save.Done pocket = subst (λ x. SavesTo (text_of s) d.pocket x pocket) is saves in
      let second : SavesTo (text_of s) d.pocket save.Done pocket' = subst (λ x. SavesTo (text_of s) d.pocket x pocket') is' saves' in
      let now = saved_as (text_of s) d.pocket.saved pocket.saved calm.told first.saves in
      let now' = saved_as (text_of s) d.pocket.saved pocket'.saved calm.told second.saves in
      let same : pocket ≡ pocket' = same_pocket pocket pocket' (now ∙ sym now') (first.counts.steady not_done ∙ sym (second.counts.steady not_done)) in
      once pocket (record { machine = calm.machine; told = subst IsSome (sym now) refl }) a b s2 s3 d2 d3 (subst (λ x. after x (with_pocket pocket d) a s2 d2) is h)
      (subst (λ x. after save.Done (with_pocket x d) b s3 d3) (sym same) (subst (λ x. after x (with_pocket pocket' d) b s3 d3) is' k)) fine fine'

  -- ---- the end of the turn
  last_once : (changed : Bool) (would : Turned) (s : State) (d : Devices) → CalmAll d → Once (LastSave changed would s d)
  last_once false would s d calm = answers_once would s d
  last_once true would s d calm = saves_once s d (AfterLastSave would s) calm (λ d a s2 d2. (λ p. p.0, λ p. p.0)) (λ pocket calm. answers_once would (as_saved s) (with_pocket pocket d))

  report_once : (can changed : Bool) (would : Turned) (s : State) (d : Devices) → CalmAll d → Once (ReportsAndSaves can changed would s d)
  report_once true changed would s d calm = last_once true would (with_report s) d calm
  report_once false changed would s d calm = last_once changed would s d calm

  finish_once : (changed : Bool) (would : Turned) (s : State) (d : Devices) → CalmAll d → Once (Finishes changed would s d)
  finish_once changed would s d calm = report_once (can_report s) changed would s d calm

  -- ---- an attempt goes on
  after_going_once : (id : ℕ) (began : Bool) (w : Went) (after : Option PlainAttempt) (s : State) (d : Devices) → CalmAll d → Once (AfterGoing at id began w after s d)
  after_going_once id began (went.Held component line) after s d calm = finish_once false _ (with_held after s) d calm
  after_going_once id began (went.Wants digest) after s d calm = finish_once false _ (with_held after s) d calm
  after_going_once id began (went.Ended fail note) after s d calm = finish_once true _ (with_end id at.moment (outcome_of fail) note s) d calm
  after_going_once id began went.Memory after s d calm = answers_once Memory (with_held after s) d

  goes_once : (began : Bool) (attempt : PlainAttempt) (s : State) (d : Devices) → CalmAll d → Once (TurnGoesOn at began attempt s d)
  goes_once began attempt s d calm a b s2 s3 d2 d3 (w, machine, after, p, h) (v, other, then, q, k) fine fine' =
      let id = attempt.action.id in
      let one = (going_later at attempt d.machine w machine after p).faults in
      let two = after_going_lasts at id began w after s (with_machine machine d) a s2 d2 h in
      let one' = (going_later at attempt d.machine v other then q).faults in
      let two' = after_going_lasts at id began v then s (with_machine other d) b s3 d3 k in
      let start = calm.machine.count in
      let end = fine.0 in
      let end' = fine'.0 in
      let same = going_once plan verdict faults low at attempt d.machine w v machine other after then calm.machine p q (omega (arith, one, two, start, end)) (omega (arith, one', two', start, end'))
      (λ m. fine.2 (subst (λ x. AfterGoing at id began x after s (with_machine machine d) a s2 d2) m h).0) (λ m. fine'.2 (subst (λ x. AfterGoing at id began x then s (with_machine other d) b s3 d3) m k).0) in
      let met : AfterGoing at id began v after s (with_machine other d) b s3 d3 = subst (λ x. AfterGoing at id began v x s (with_machine other d) b s3 d3) (sym same.2) k in
      after_going_once id began w after s (with_machine machine d) (record { machine = same.1.1; told = calm.told }) a b s2 s3 d2 d3 h
      (subst (λ x. AfterGoing at id began x after s (with_machine machine d) b s3 d3) (sym same.0) (subst (λ x. AfterGoing at id began v after s (with_machine x d) b s3 d3) (sym same.1.0) met)) fine fine'

  -- ---- a broken attempt
  breaks_once : (id : ℕ) (s : State) (d : Devices) → CalmAll d → Once (Interrupts at id s d)
  breaks_once id s d calm a b s2 s3 d2 d3 (inl h) k fine fine' = absurd (fine.2 h.0)
  breaks_once id s d calm a b s2 s3 d2 d3 (inr h) (inl k) fine fine' = absurd (fine'.2 k.0)
  breaks_once id s d calm a b s2 s3 d2 d3 (inr h) (inr k) fine fine' =
      let ended = interrupted id at.moment s in
      saves_once ended d (AfterInterrupting id ended) calm (λ d a s2 d2. (λ p. p.0, λ p. p.0))
      (λ pocket calm. finish_once false (Interrupted id) (as_saved ended) (with_pocket pocket d) calm) a b s2 s3 d2 d3 h k fine fine'

  -- ---- what is asked, and what comes behind it
  asks_once : (ask : Asking) → FoundOnce plan faults low ask → ((old : MachineView) (f : Found) (new : MachineView) → ask old f new → old.faults ≤ new.faults) → (after : Found → Devices → Ending)
      → ((f : Found) (d : Devices) → CalmAll d → Once (after f d)) → Behind after → ((d : Devices) (a : Turned) (s2 : State) (d2 : Devices) → after found.Memory d a s2 d2 → a ≡ Memory) → (d : Devices) → CalmAll d → Once (TurnAsks ask d after)
  asks_once ask one later after once lasts lacks d calm a b s2 s3 d2 d3 (f, machine, p, h) (g, other, q, k) fine fine' =
      let low_mid = later d.machine f machine p in
      let high_mid = lasts f (with_machine machine d) a s2 d2 h in
      let low_far = later d.machine g other q in
      let high_far = lasts g (with_machine other d) b s3 d3 k in
      let start = calm.machine.count in
      let end = fine.0 in
      let end' = fine'.0 in
      let same = one d.machine f g machine other calm.machine p q (omega (arith, low_mid, high_mid, start, end)) (omega (arith, low_far, high_far, start, end'))
      (λ m. fine.2 (lacks (with_machine machine d) a s2 d2 (subst (λ x. after x (with_machine machine d) a s2 d2) m h))) (λ m. fine'.2 (lacks (with_machine other d) b s3 d3 (subst (λ x. after x (with_machine other d) b s3 d3) m k))) in
      once f (with_machine machine d) (record { machine = same.1.1; told = calm.told }) a b s2 s3 d2 d3 h
      (subst (λ x. after x (with_machine machine d) b s3 d3) (sym same.0) (subst (λ x. after g (with_machine x d) b s3 d3) (sym same.1.0) k)) fine fine'

  -- ---- the actions are tried
  begins_once : (s marked : State) (action : Action) (content : Option Content) (d : Devices) → CalmAll d → Once (Begins at s marked action content d)
  begins_once s marked action None d calm a b s2 s3 d2 d3 h k fine fine' = absurd h
  begins_once s marked action (Some content) d calm a b s2 s3 d2 d3 h k fine fine' =
      let begun = with_beginning action.id at.moment marked in
      let attempt = beginning at action content marked in
      saves_once begun d (AfterBeginning at s marked begun attempt) calm (λ d a s2 d2. (λ p. p.0, λ p. p.0))
      (λ pocket calm. goes_once true attempt (as_saved begun) (with_pocket pocket d) calm) a b s2 s3 d2 d3 h k fine fine'

  after_trying_once : (s marked : State) (action : Action) (next : Devices → Ending) → ((d : Devices) → CalmAll d → Once (next d)) → (f : Found) (d : Devices) → CalmAll d → Once (AfterTrying at s marked action next f d)
  after_trying_once s marked action next once found.Yes d calm = begins_once s marked action (content_of action s.sites) d calm
  after_trying_once s marked action next once found.No d calm = once d calm
  after_trying_once s marked action next once found.Failed d calm = answers_once MachineFault s d
  after_trying_once s marked action next once found.Memory d calm = answers_once Memory s d

  tries_once : (s marked : State) (any : Bool) (actions : List Action) (d : Devices) → CalmAll d → Once (TriesEach at s marked any actions d)
  tries_once s marked any [] d calm a b s2 s3 d2 d3 (inl h) k fine fine' = absurd (fine.2 h.0)
  tries_once s marked any [] d calm a b s2 s3 d2 d3 (inr h) (inl k) fine fine' = absurd (fine'.2 k.0)
  tries_once s marked any [] d calm a b s2 s3 d2 d3 (inr h) (inr k) fine fine' = finish_once any Idle marked d calm a b s2 s3 d2 d3 h k fine fine'
  tries_once s marked any (action ∷ actions) d calm a b s2 s3 d2 d3 h k fine fine' =
      let rows = rows_at action.id marked.histories in
      let content = content_of action s.sites in
      asks_once (IsDue at s.computer action content rows) (due_once plan faults low at s.computer action content rows) (λ old f new h. (due_quiet at s.computer action content rows old f new h).only.later)
      (AfterTrying at s marked action (TriesEach at s marked any actions)) (after_trying_once s marked action (TriesEach at s marked any actions) (λ d calm. tries_once s marked any actions d calm))
      (trying_lasts at s marked action (TriesEach at s marked any actions) (λ d. tries_last at s marked any actions d)) (λ d a s2 d2 h. h.0) d calm a b s2 s3 d2 d3 h k fine fine'

  -- ---- marks
  after_test_once : (s : State) (id : ℕ) (marks : Marks) (next : Marks → Devices → Ending) → ((marks : Marks) (d : Devices) → CalmAll d → Once (next marks d)) → (f : Found) (d : Devices) → CalmAll d → Once (AfterTest at s id marks next f d)
  after_test_once s id marks next once found.Yes d calm = once marks d calm
  after_test_once s id marks next once found.No d calm = once (with_mark at id marks) d calm
  after_test_once s id marks next once found.Failed d calm = answers_once MachineFault s d
  after_test_once s id marks next once found.Memory d calm = answers_once Memory s d

  tests_once : (may : Bool) (s : State) (action : Action) (marks : Marks) (next : Marks → Devices → Ending) → ((marks : Marks) (d : Devices) → CalmAll d → Once (next marks d)) → ((marks : Marks) (d : Devices) → Lasts d (next marks d))
      → (d : Devices) → CalmAll d → Once (TestsOne may at s action marks next d)
  tests_once false s action marks next once lasts d calm = once marks d calm
  tests_once true s action marks next once lasts d calm =
      let content = content_of action s.sites in
      asks_once (ContentIs at content) (content_once plan faults low at content) (λ old f new h. (content_quiet at content old f new h).only.later) (AfterTest at s action.id marks next) (after_test_once s action.id marks next once)
      (test_lasts at s action.id marks next lasts) (λ d a s2 d2 h. h.0) d calm

  clears_once : (s : State) (actions : List Action) (marks : Marks) (next : Marks → Devices → Ending) → ((marks : Marks) (d : Devices) → CalmAll d → Once (next marks d)) → ((marks : Marks) (d : Devices) → Lasts d (next marks d))
      → (d : Devices) → CalmAll d → Once (Clears at s actions marks next d)
  clears_once s [] marks next once lasts d calm = once marks d calm
  clears_once s (action ∷ actions) marks next once lasts d calm =
      tests_once (may_clear (last_row (rows_at action.id marks.histories))) s action marks (λ (then : Marks). Clears at s actions then next) (λ marks d calm. clears_once s actions marks next once lasts d calm)
      (λ marks d. clears_last at s actions marks next lasts d) d calm

  all_once : (s : State) (actions : List Action) (d : Devices) → CalmAll d → Once (Tries at s actions d)
  all_once s actions d calm a b s2 s3 d2 d3 (inl h) k fine fine' = absurd (fine.2 h.0)
  all_once s actions d calm a b s2 s3 d2 d3 (inr h) (inl k) fine fine' = absurd (fine'.2 k.0)
  all_once s actions d calm a b s2 s3 d2 d3 (inr h) (inr k) fine fine' =
      clears_once s actions (no_marks s) (TriesMarked at s actions) (λ marks d calm. tries_once s (with_histories marks.histories s) marks.any actions d calm) (λ marks d. tries_last at s (with_histories marks.histories s) marks.any actions d) d calm
      a b s2 s3 d2 d3 h k fine fine'

  -- ---- the steps
  held_once : (attempt : PlainAttempt) (s : State) (d : Devices) → CalmAll d → Once (StepFor at None (Some attempt) s d)
  held_once attempt s d calm a b s2 s3 d2 d3 (inl h) k fine fine' = absurd (fine.2 h.0)
  held_once attempt s d calm a b s2 s3 d2 d3 (inr h) (inl k) fine fine' = absurd (fine'.2 k.0)
  held_once attempt s d calm a b s2 s3 d2 d3 (inr h) (inr k) fine fine' = goes_once false attempt s d calm a b s2 s3 d2 d3 h k fine fine'

  step_once : (broken : Option ℕ) (held : Option PlainAttempt) (s : State) (d : Devices) → CalmAll d → Once (StepFor at broken held s d)
  step_once (Some id) held s d calm = breaks_once id s d calm
  step_once None (Some attempt) s d calm = held_once attempt s d calm
  step_once None None s d calm = all_once s (actions_of s.sites) d calm

  steps_once : (s : State) (d : Devices) → CalmAll d → Once (Steps at s d)
  steps_once s d calm = step_once (broken_action s) s.held s d calm

  first_once : (unsaved : Bool) (s : State) (d : Devices) → CalmAll d → Once (FirstSave unsaved at s d)
  first_once false s d calm = steps_once s d calm
  first_once true s d calm =
      saves_once s d (AfterFirstSave at s) calm (λ d a s2 d2. (λ p. p.0, λ p. p.0))
      (λ pocket calm. steps_once (as_saved s) (with_pocket pocket d) calm)

pub turn_once : OnePlan → OneVerdict → (at : When) (s : State) (d : Devices) (answer other : Turned) (s2 s3 : State) (d2 d3 : Devices) → TellsWorld d → Turn at s d answer s2 d2 → Turn at s d other s3 d3 → NoFaults d d2 → NoFaults d d3
    → answer ≢ PocketFault → answer ≢ Memory → other ≢ PocketFault → other ≢ Memory → (answer ≡ other) × (s2 ≡ s3) × (d2 ≡ d3)
turn_once plan verdict at s d answer other s2 s3 d2 d3 tells p q none none' fault memory fault' memory' =
    first_once plan verdict d.machine.faults none.machine_counts at s.unsaved s d
    (record { machine = record { world = tells.world; looked = tells.looked; acted = tells.acted; polled = tells.polled; count = refl }; told = tells.saved })
    answer other s2 s3 d2 d3 p q (none.machine, fault, memory) (none'.machine, fault', memory')
