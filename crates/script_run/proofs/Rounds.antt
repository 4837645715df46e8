-- How steps make an advance, and what its results leave on the machine.
use Rattle.std.proofs.Common.{◌≡◌, ℕ, ◌≤◌, ℤ, false, List, [], ◌∷◌, refl, sym, ap, subst, ◌∙◌, append_assoc, ◌⊎◌, inl, inr, Option, Some, None, arith}
use Rattle.bf_world.specs.declared.command.Command.{Command}
use Rattle.bf_world.specs.declared.command.Acted.{Acted}
use Rattle.bf_world.specs.declared.command.Acted.TheVariants as of_act
use Rattle.bf_world.specs.declared.command.Polled.{Polled}
use Rattle.bf_world.specs.declared.command.Polled.TheVariants as of_poll
use Rattle.bf_machine.specs.Told.{Grows}
use Rattle.bf_machine.specs.Rises.{CountsFailed}
use Rattle.bf_machine.proofs.Telling.{CountsFailed-more, CountsFailed-none, CountsFailed-one, Grows-nil, Grows-trans, later-RoseBy}
use Rattle.bf_machine.specs.Views.{MachineView}
use Rattle.bf_machine.specs.Acts.{ActsOn}
use Rattle.bf_machine.specs.Polls.{PollsOn}
use Rattle.rel_sources.specs.declared.pair.Pair.{Pair}
use Rattle.rel_sources.specs.declared.scene.Scene.{Scene}
use Rattle.rel_eval.specs.declared.told.OneText.{OneText}
use Rattle.rel_eval.specs.declared.told.OneText.TheVariants as one_text
use Rattle.rel_eval.specs.declared.told.Truth.{Truth}
use Rattle.rel_eval.specs.declared.told.Truth.TheVariants as truth
use Rattle.script_text.specs.Scripts.{PlainScript}
use Rattle.script_run.specs.declared.ran.Ran.{Ran}
use Rattle.script_run.specs.declared.ran.Ran.TheVariants as ran
use Rattle.script_run.specs.declared.place.Place.{Place}
use Rattle.script_run.specs.declared.run.Run.{Run}
use Rattle.script_run.specs.Walks.{Known, Settled, said, judged, acted, polled, fault_in, faults_in, Next, is_midway, Says, Tests, Pauses, Does, Polls, Walk, Rest}
use Rattle.script_run.specs.ScriptWalks.{standing, after, command_of, commands_in}
use Rattle.script_run.specs.Asking.{When, when_of, known_in, SaysOn, JudgesOn}
use Rattle.script_run.specs.RunSteps.{Settles, Comes, Any, IsTextOf, StarvesAsking, Starves, Holds, Stops}
use Rattle.script_run.specs.RunPlaces.{MemoryLeaves, place_walk, from, wanted_at}
use Rattle.script_run.specs.Advances.{Advances, GoesOn, WantsAgain}
use Rattle.script_run.specs.Fills.{Reaches}
use Rattle.script_run.specs.OneStep.{Again, StepsTo, StepsFrom, Unmoved}
use Rattle.script_run.proofs.Chains.{reach_then, reach_from}
use Rattle.script_run.proofs.Fresh.{fresh_from}

-- ---- steps
-- the same step, seen from the place by its name
pub steps_at : (x y : Place) (old : Run) (other : Place) (before : MachineView) (result : Option Ran) (after : MachineView) (new : Run) → x ≡ y →
    StepsFrom y (record old { place = other }) before result after new → StepsFrom x old before result after new
steps_at x y old other before result after new e h =
    let own : StepsFrom y old before result after new = record { step = h.step; again = h.again } in
    let P : Place → Type 0 = λ p. StepsFrom p old before result after new in
    subst P (sym e) own

-- ---- what results leave
settled_grows : (at : When) (known : Known) (next : Next) (old : MachineView) (result : Settled) (new : MachineView) →
    Settles at known next old result new → Grows old.acted new.acted (command_of next result)
settled_grows at known (Says line midway text) old (said answer) new h = let P : Option (List Command) → Type 0 = λ l. Grows old.acted l [] in subst P (sym h.1.only.acted) (Grows-nil old.acted)
settled_grows at known (Tests line text) old (judged answer) new h = let P : Option (List Command) → Type 0 = λ l. Grows old.acted l [] in subst P (sym h.1.only.acted) (Grows-nil old.acted)
settled_grows at known (Pauses line text) old (judged answer) new h = let P : Option (List Command) → Type 0 = λ l. Grows old.acted l [] in subst P (sym h.2.only.acted) (Grows-nil old.acted)
settled_grows at known (Does line midway command) old (acted answer) new h = h.1.acted
settled_grows at known (Polls line process) old (polled answer) new h = let P : Option (List Command) → Type 0 = λ l. Grows old.acted l [] in subst P (sym h.1.acted) (Grows-nil old.acted)
settled_grows at known next old result new h = absurd h

come_grows : (P : Next → Settled → Type 0) (at : When) (old : MachineView) (f : Walk) (results : List Settled) (new : MachineView) →
    Comes P at old f results new → Grows old.acted new.acted (commands_in f results)
come_grows P at old f [] new e = let Q : MachineView → Type 0 = λ v. Grows old.acted v.acted [] in subst Q (sym e) (Grows-nil old.acted)
come_grows P at old f (result ∷ results) new (p, (between, s, rest)) =
    Grows-trans old.acted between.acted new.acted (command_of (f []).next result) (commands_in (λ more. f (result ∷ more)) results)
    (settled_grows at (f []).known (f []).next old result between s)
    (come_grows P at between (λ more. f (result ∷ more)) results new rest)

said_counted : (answer : OneText) (scene : Scene) (text : List ℕ) (old new : MachineView) → SaysOn scene text old answer new → CountsFailed (fault_in (said answer)) old.faults new.faults
said_counted (one_text.Text t) scene text old new h = CountsFailed-none old.faults new.faults h.cause
said_counted (one_text.Error kind place) scene text old new h = CountsFailed-none old.faults new.faults h.cause
said_counted (one_text.Failed place) scene text old new h = CountsFailed-one old.faults new.faults h.cause
said_counted one_text.Memory scene text old new h = CountsFailed-none old.faults new.faults h.cause

judged_counted : (answer : Truth) (scene : Scene) (text : List ℕ) (old new : MachineView) → JudgesOn scene text old answer new → CountsFailed (fault_in (judged answer)) old.faults new.faults
judged_counted truth.True scene text old new h = CountsFailed-none old.faults new.faults h.cause
judged_counted truth.False scene text old new h = CountsFailed-none old.faults new.faults h.cause
judged_counted (truth.Error kind place) scene text old new h = CountsFailed-none old.faults new.faults h.cause
judged_counted (truth.Failed place) scene text old new h = CountsFailed-one old.faults new.faults h.cause
judged_counted truth.Memory scene text old new h = CountsFailed-none old.faults new.faults h.cause

acted_counted : (answer : Acted) (moment : ℤ) (command : Command) (old new : MachineView) → ActsOn moment command old answer new → CountsFailed (fault_in (acted answer)) old.faults new.faults
acted_counted of_act.Done moment command old new h = CountsFailed-none old.faults new.faults (h.counts.steady (λ e. absurd (cc)))
acted_counted (of_act.Started process) moment command old new h = CountsFailed-none old.faults new.faults (h.counts.steady (λ e. absurd (cc)))
acted_counted (of_act.Refused reason) moment command old new h = CountsFailed-none old.faults new.faults (h.counts.steady (λ e. absurd (cc)))
acted_counted of_act.Failed moment command old new h = CountsFailed-one old.faults new.faults (h.counts.rose refl)
acted_counted of_act.Memory moment command old new h = CountsFailed-none old.faults new.faults (h.counts.steady (λ e. absurd (cc)))

polled_counted : (answer : Polled) (process : ℕ) (old new : MachineView) → PollsOn process old answer new → CountsFailed (fault_in (polled answer)) old.faults new.faults
polled_counted of_poll.Running process old new h = CountsFailed-none old.faults new.faults (h.counts.steady (λ e. absurd (cc)))
polled_counted (of_poll.Exited code) process old new h = CountsFailed-none old.faults new.faults (h.counts.steady (λ e. absurd (cc)))
polled_counted of_poll.Failed process old new h = CountsFailed-one old.faults new.faults (h.counts.rose refl)

settled_counted : (at : When) (known : Known) (next : Next) (old : MachineView) (result : Settled) (new : MachineView) →
    Settles at known next old result new → CountsFailed (fault_in result) old.faults new.faults
settled_counted at known (Says line midway text) old (said answer) new h = said_counted answer _ text old new h.1
settled_counted at known (Tests line text) old (judged answer) new h = judged_counted answer _ text old new h.1
settled_counted at known (Pauses line text) old (judged answer) new h = judged_counted answer _ text old new h.2
settled_counted at known (Does line midway command) old (acted answer) new h = acted_counted answer at.moment command old new h.1
settled_counted at known (Polls line process) old (polled answer) new h = polled_counted answer process old new h.1
settled_counted at known next old result new h = absurd h

come_counted : (P : Next → Settled → Type 0) (at : When) (old : MachineView) (f : Walk) (results : List Settled) (new : MachineView) →
    Comes P at old f results new → CountsFailed (faults_in results) old.faults new.faults
come_counted P at old f [] new e = CountsFailed-none old.faults new.faults (ap (λ (v : MachineView). v.faults) e)
come_counted P at old f (result ∷ results) new (p, (between, s, rest)) =
    CountsFailed-more (fault_in result) (faults_in results) old.faults between.faults new.faults
    (settled_counted at (f []).known (f []).next old result between s)
    (come_counted P at between (λ more. f (result ∷ more)) results new rest)

-- texts alone leave what was done
text_keeps : (at : When) (line : ℕ) (known : Known) (next : Next) (old : MachineView) (result : Settled) (new : MachineView) →
    IsTextOf line next result → Settles at known next old result new → (new.acted ≡ old.acted) × (new.faults ≡ old.faults)
text_keeps at line known (Says own midway text) old (said (one_text.Text words)) new p h = (h.1.only.acted, h.1.cause)
text_keeps at line known next old result new p h = absurd p

texts_keep : (at : When) (line : ℕ) (old : MachineView) (f : Walk) (results : List Settled) (new : MachineView) →
    Comes (IsTextOf line) at old f results new → (new.acted ≡ old.acted) × (new.faults ≡ old.faults)
texts_keep at line old f [] new e = (ap (λ (v : MachineView). v.acted) e, ap (λ (v : MachineView). v.faults) e)
texts_keep at line old f (result ∷ results) new (p, (between, s, rest)) =
    let a = text_keeps at line (f []).known (f []).next old result between p s in
    let b = texts_keep at line between (λ more. f (result ∷ more)) results new rest in
    (b.0 ∙ a.0, b.1 ∙ a.1)

starving_keeps : (at : When) (line : ℕ) (known : Known) (next : Next) (old new : MachineView) → StarvesAsking at line known next old new → (new.acted ≡ old.acted) × (new.faults ≡ old.faults)
starving_keeps at line known (Says own midway text) old new h = (h.1.only.acted, h.1.cause)
starving_keeps at line known (Tests own text) old new h = (h.1.only.acted, h.1.cause)
starving_keeps at line known (Pauses own text) old new h = (h.1.only.acted, h.1.cause)
starving_keeps at line known next old new h = absurd h

breaks_keep : (at : When) (line : ℕ) (known : Known) (next : Next) (old new : MachineView) → (new ≡ old) ⊎ StarvesAsking at line known next old new → (new.acted ≡ old.acted) × (new.faults ≡ old.faults)
breaks_keep at line known next old new (inl e) = (ap (λ (v : MachineView). v.acted) e, ap (λ (v : MachineView). v.faults) e)
breaks_keep at line known next old new (inr h) = starving_keeps at line known next old new h

starve_keeps : (at : When) (line : ℕ) (old : MachineView) (f : Walk) (new : MachineView) → Starves at line old f new → (new.acted ≡ old.acted) × (new.faults ≡ old.faults)
starve_keeps at line old f new h =
    let a = texts_keep at line old f h.texts h.between h.comes in
    let b = breaks_keep at line (f h.texts).known (f h.texts).next h.between new h.breaks in
    (b.0 ∙ a.0, b.1 ∙ a.1)

held_keeps : (at : When) (known : Known) (next : Next) (line : ℕ) (old new : MachineView) → Holds at known next line old new → (new.acted ≡ old.acted) × (new.faults ≡ old.faults)
held_keeps at known (Pauses own text) line old new h = (h.1.only.acted, h.1.cause)
held_keeps at known (Polls own process) line old new h = (h.1.acted, h.1.counts.steady (λ e. absurd (cc)))
held_keeps at known next line old new h = absurd h

same_keeps : (old new : MachineView) → new ≡ old → (new.acted ≡ old.acted) × (new.faults ≡ old.faults)
same_keeps old new e = (ap (λ (v : MachineView). v.acted) e, ap (λ (v : MachineView). v.faults) e)

stop_keeps : (at : When) (old : MachineView) (f : Walk) (r : Ran) (new : MachineView) → Stops at old f r new → (new.acted ≡ old.acted) × (new.faults ≡ old.faults)
stop_keeps at old f (ran.Held line) new h = held_keeps at (f []).known (f []).next line old new h
stop_keeps at old f (ran.Wants line digest) new h = same_keeps old new h.1
stop_keeps at old f ran.Done new h = same_keeps old new h.1
stop_keeps at old f (ran.Failed line cause) new h = same_keeps old new h.2
stop_keeps at old f ran.Memory new h = starve_keeps at h.0 old f new h.1

-- ---- rounds
pub round_goes : (at own : When) (old : MachineView) (f : Walk) (mid : MachineView) (g : Walk) (result : Option Ran) (new : MachineView) (left : Walk) →
    own ≡ at → result ≡ None → Reaches Any at old f mid g → StepsTo own mid g result new left → Reaches Any at old f new left
round_goes at own old f mid g result new left e none a h =
    let P : When → Option Ran → Type 0 = λ w r. StepsTo w mid g r new left in
    let k : StepsTo at mid g None new left = subst (λ (r : Option Ran). P at r) none (subst (λ (w : When). P w result) e h) in
    reach_then Any at old f mid g new left a k

-- before the first step nothing is moved
pub unmoved_first : (wanted : Option (List ℕ)) (old : MachineView) (f : Walk) → Unmoved wanted old f wanted old f
unmoved_first None old f = tt
unmoved_first (Some digest) old f = (refl, refl, refl)

-- a step that goes on isn't made where a file is wanted
pub unmoved_goes : (first wanted later : Option (List ℕ)) (old : MachineView) (f : Walk) (mid : MachineView) (g : Walk) (result : Option Ran) (new : MachineView) (left : Walk) →
    result ≡ None → Unmoved first old f wanted mid g → Again wanted mid g result new left → Unmoved first old f later new left
unmoved_goes None wanted later old f mid g result new left none a h = tt
unmoved_goes (Some digest) wanted later old f mid g result new left none a h =
    let P : Option (List ℕ) → Option Ran → Type 0 = λ w r. Again w mid g r new left in
    let k : ⊥ = subst (λ (r : Option Ran). P (Some digest) r) none (subst (λ (w : Option (List ℕ)). P w result) a.0 h) in
    absurd k

again_stops : (first wanted : Option (List ℕ)) (old : MachineView) (f : Walk) (mid : MachineView) (g : Walk) (r : Ran) (new : MachineView) (left : Walk) →
    Unmoved first old f wanted mid g → Again wanted mid g (Some r) new left → Again first old f (Some r) new left
again_stops None wanted old f mid g r new left a h = tt
again_stops (Some digest) wanted old f mid g r new left a h =
    let P : Option (List ℕ) → Type 0 = λ w. Again w mid g (Some r) new left in
    let k : WantsAgain digest mid g r new left = subst P a.0 h in
    record { wants = k.wants; machine = k.machine ∙ a.1; same = k.same ∙ a.2 }

-- the steps before one that stops, and that one
pub round_stops : (old mid new : Run) (before between after : MachineView) (result : Option Ran) (r : Ran) → result ≡ Some r → when_of mid.kept.scene ≡ when_of old.kept.scene → before.started ≤ between.started →
    Reaches Any (when_of old.kept.scene) before (from old) between (from mid) → Unmoved (wanted_at old.place) before (from old) (wanted_at mid.place) between (from mid) →
    StepsFrom mid.place mid between result after new → StepsFrom old.place old before (Some r) after new
round_stops old mid new before between after result r some time started a unmoved h =
    let P : Option Ran → Type 0 = λ q. StepsFrom mid.place mid between q after new in
    let k : StepsFrom mid.place mid between (Some r) after new = subst P some h in
    let S : When → Type 0 = λ w. StepsTo w between (from mid) (Some r) after (from new) in
    let s : StepsTo (when_of old.kept.scene) between (from mid) (Some r) after (from new) = subst S time k.step.steps in
    record {
      step = record {
        steps = (s.0, reach_then Any (when_of old.kept.scene) before (from old) between (from mid) s.0 (from new) a s.1, s.2);
        falls = tt;
        time = k.step.time ∙ time;
        waits = k.step.waits;
        started = omega (arith, started, k.step.started);
        rests = k.step.rests;
      };
      again = again_stops (wanted_at old.place) (wanted_at mid.place) before (from old) between (from mid) r after (from new) unmoved k.again;
    }

-- ---- the whole
-- the count of faults never falls
pub stop_later : (at : When) (old : MachineView) (f : Walk) (r : Ran) (new : MachineView) (left : Walk) → StepsTo at old f (Some r) new left → old.faults ≤ new.faults
stop_later at old f r new left h =
    let a : old.faults ≤ h.0.faults = later-RoseBy (faults_in h.1.results) old.faults h.0.faults (come_counted Any at old f h.1.results h.0 h.1.comes).rose in
    let b : new.faults ≡ h.0.faults = (stop_keeps at h.0 left r new h.2).1 in
    omega (arith, a, b)

-- where memory ran out nothing of the line at hand is settled
memory_before : (r : Ran) (run : Run) → MemoryLeaves r run.place → r ≡ ran.Memory → is_midway (from run []).next ≡ false
memory_before r run leaves e = let P : Ran → Type 0 = λ q. MemoryLeaves q run.place in fresh_from run (subst P e leaves)

-- what a step that stops is to the walk before it
advances_by : (at : When) (old : MachineView) (e f : Walk) (r : Ran) (new : MachineView) (g : Walk) →
    ((more : List Settled) → e more ≡ f more) → StepsTo at old f (Some r) new g → (r ≡ ran.Memory → is_midway (g []).next ≡ false) → Advances at old e r new g
advances_by at old e f r new g stood h before =
    let reach : Reaches Any at old e h.0 g = reach_from Any at old e f h.0 g stood h.1 in
    let S : Walk → Type 0 = λ w. Stops at h.0 w r new in
    let kept = stop_keeps at h.0 g r new h.2 in
    let G : Option (List Command) → Type 0 = λ l. Grows old.acted l (commands_in e reach.results) in
    let F : ℕ → Type 0 = λ count. CountsFailed (faults_in reach.results) old.faults count in
    record {
      results = reach.results;
      between = h.0;
      comes = reach.comes;
      stops = subst S (λ i more. sym (reach.same more) i) h.2;
      same = λ more. sym (reach.same more);
      faults = subst F (sym kept.1) (come_counted Any at old e reach.results h.0 reach.comes);
      before = before;
      commands = subst G (sym kept.0) (come_grows Any at old e reach.results h.0 reach.comes);
    }

-- a run that stood for results goes on from there
pub goes_on : (at : When) (script : PlainScript) (given : List Pair) (settled : List Settled) (old : MachineView) (r : Ran) (new : MachineView) (f : Walk) (run : Run) →
    ((more : List Settled) → after script given settled more ≡ f more) → StepsTo at old f (Some r) new (from run) → MemoryLeaves r run.place → GoesOn at script given settled old r new run
goes_on at script given settled old r new f run stood h leaves =
    let a = advances_by at old (after script given settled) f r new (from run) stood h (memory_before r run leaves) in
    record { left = from run; advances = a; stands = λ more. ap (standing script given) (append_assoc settled a.results more) ∙ sym (a.same more) }

-- the same where the time was set before
pub advances : (at : When) (script : PlainScript) (given : List Pair) (settled : List Settled) (old : MachineView) (r : Ran) (new : MachineView) (place : Place) (rest : Rest) (before now : Scene) (run : Run) →
    known_in now ≡ known_in before → when_of now ≡ at → ((more : List Settled) → after script given settled more ≡ place_walk place rest (known_in before) more) →
    StepsTo (when_of now) old (λ more. place_walk place rest (known_in now) more) (Some r) new (from run) → MemoryLeaves r run.place → GoesOn at script given settled old r new run
advances at script given settled old r new place rest before now run known time stood h leaves =
    let P : When → Type 0 = λ w. StepsTo w old (λ more. place_walk place rest (known_in now) more) (Some r) new (from run) in
    goes_on at script given settled old r new (λ more. place_walk place rest (known_in now) more) run (λ more. stood more ∙ ap (λ (k : Known). place_walk place rest k more) (sym known)) (subst P time h) leaves

-- a file that is wanted is wanted again, where the time was set before
pub advances_again : (digest : List ℕ) (old : MachineView) (r : Ran) (new : MachineView) (place : Place) (rest : Rest) (before now : Scene) (left : Walk) →
    known_in now ≡ known_in before → wanted_at place ≡ Some digest → Again (wanted_at place) old (λ more. place_walk place rest (known_in now) more) (Some r) new left →
    WantsAgain digest old (λ more. place_walk place rest (known_in before) more) r new left
advances_again digest old r new place rest before now left known wants h =
    let P : Option (List ℕ) → Type 0 = λ w. Again w old (λ more. place_walk place rest (known_in now) more) (Some r) new left in
    let k : WantsAgain digest old (λ more. place_walk place rest (known_in now) more) r new left = subst P wants h in
    record { wants = k.wants; machine = k.machine; same = k.same ∙ (λ i more. place_walk place rest (known i) more) }
