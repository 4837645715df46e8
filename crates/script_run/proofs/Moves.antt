-- What a step of a run comes to.
use mir.Val.{of_z, to_z}
use Rattle.std.proofs.Common.{◌≡◌, ◌≢◌, ℕ, ◌+◌, ◌<◌, ◌≤◌, ℤ, SFits, w64, Bool, true, false, List, [], ◌∷◌, ◌++◌, drop, length, length-drop, refl, sym, ap, subst, ◌∙◌, append-nil, Option, Some, None, arith}
use Rattle.std.proofs.lemmas.Int.{to_z-of_z}
use Rattle.std.specs.Prelude.{is_some, if◌then◌else◌}
use Rattle.bf_world.specs.declared.command.Command.{Command}
use Rattle.bf_world.specs.declared.command.Command.TheVariants as command
use Rattle.bf_world.specs.declared.command.Acted.{Acted}
use Rattle.bf_world.specs.declared.command.Acted.TheVariants as of_act
use Rattle.bf_world.specs.declared.command.ProcessNo.{ProcessNo}
use Rattle.bf_world.specs.declared.command.Polled.TheVariants as of_poll
use Rattle.bf_world.specs.Worlds.{WorldState}
use Rattle.bf_machine.specs.Told.{Told, Grows}
use Rattle.bf_machine.specs.Views.{MachineView}
use Rattle.bf_machine.specs.Acts.{ActsOn, CountsStarted}
use Rattle.bf_machine.specs.Polls.{PollsOn}
use Rattle.rel_sources.specs.declared.pair.Pair.{Pair}
use Rattle.rel_sources.specs.declared.scene.Scene.{Scene}
use Rattle.rel_sources.specs.Scenes.{value_of}
use Rattle.script_text.specs.declared.prefetch.Prefetch.{Prefetch}
use Rattle.script_run.specs.declared.cause.Cause.{Cause}
use Rattle.script_run.specs.declared.cause.Cause.TheVariants.{MachineFault, ParameterTwice}
use Rattle.script_run.specs.declared.place.Place.{Place}
use Rattle.script_run.specs.declared.place.Place.TheVariants.{Ready, Wanting, Waiting}
use Rattle.script_run.specs.declared.ran.Ran.{Ran}
use Rattle.script_run.specs.declared.ran.Ran.TheVariants as ran
use Rattle.script_run.specs.declared.run.Run.{Run}
use Rattle.script_run.specs.Walks.{Known, Settled, acted, polled, Walk, Rest, failing, acting, polling, doing, with_exit}
use Rattle.script_run.specs.LineWalks.{placing, setting, with_parameter}
use Rattle.script_run.specs.Asking.{When, when_of, known_in}
use Rattle.script_run.specs.RunSteps.{Any, Starves, Stops}
use Rattle.script_run.specs.RunPlaces.{todo_walk, todos_walk, place_walk, around, from, WaitsBelow, wanted_at, IsBeforeLine}
use Rattle.script_run.specs.Weights.{todo_weight, todos_weight, place_weight, around_weight, run_weight}
use Rattle.script_run.specs.Fills.{Reaches}
use Rattle.script_run.specs.OneStep.{StepsTo, Falls, Rests, Steps, Again, StepsFrom, MovesTo, Compares, StartsBelow, FollowsAct}
use Rattle.script_run.proofs.Chains.{reach_none, reach_one, reach_then, reach_same, starve_here}

-- ---- a machine that did nothing
same_view : (a b : MachineView) → a.world ≡ b.world → a.looked ≡ b.looked → a.acted ≡ b.acted → a.polled ≡ b.polled → a.started ≡ b.started → a.faults ≡ b.faults → a.holds ≡ b.holds → a ≡ b
same_view a b world looked done polls started faults holds = λ i. record { world = world i; looked = looked i; acted = done i; polled = polls i; started = started i; faults = faults i; holds = holds i }

told_same : (a b : Option WorldState) → Told a b (λ before now. now ≡ before) → b ≡ a
told_same None b h = h
told_same (Some before) None h = absurd h
told_same (Some before) (Some now) h = ap Some h

grows_same : (a b : Option (List Command)) → Grows a b [] → b ≡ a
grows_same None b h = h
grows_same (Some before) None h = absurd h
grows_same (Some before) (Some now) h = ap Some (h ∙ append-nil before)

-- without memory an act leaves all as it was
pub act_without_memory : (moment : ℤ) (command : Command) (old new : MachineView) → ActsOn moment command old of_act.Memory new → new ≡ old
act_without_memory moment command old new h =
    same_view new old (told_same old.world new.world h.world) h.looked (grows_same old.acted new.acted h.acted) h.polled h.started (h.counts.steady (λ e. absurd (cc))) h.holds

-- the same act at a moment that was passed as a word
pub acts_at : (moment : ℤ) (command : Command) (old : MachineView) (answer : Acted) (new : MachineView) → SFits w64 moment →
    ActsOn (to_z w64 (of_z w64 moment)) command old answer new → ActsOn moment command old answer new
acts_at moment command old answer new fits h =
    let P : ℤ → Type 0 = λ m. ActsOn m command old answer new in
    subst P (to_z-of_z w64 moment fits) h

-- programs that were started
pub counts_grow : (old new : ℕ) (answer : Acted) → CountsStarted old new answer → old ≤ new
counts_grow old new of_act.Done h = omega arith
counts_grow old new (of_act.Started process) h = omega arith
counts_grow old new (of_act.Refused reason) h = omega arith
counts_grow old new of_act.Failed h = omega arith
counts_grow old new of_act.Memory h = omega arith

-- ---- a run at a place
-- A run stands at a place, with all that another one knew and had left.
pub record StandsAt (place : Place) (old new : Run) : Type 0 where
  pub stands : new.place ≡ place
  pub current : new.current ≡ old.current
  pub later : new.later.items ≡ old.later.items
  pub scene : new.kept.scene ≡ old.kept.scene

pub moved_stands : (place : Place) (old new : Run) → new ≡ record old { place = place } → StandsAt place old new
moved_stands place old new e = record {
  stands = ap (λ (r : Run). r.place) e;
  current = ap (λ (r : Run). r.current) e;
  later = ap (λ (r : Run). r.later.items) e;
  scene = ap (λ (r : Run). r.kept.scene) e;
}

-- where nothing was changed
pub still_stands : (place : Place) (run : Run) → run.place ≡ place → StandsAt place run run
still_stands place run e = record { stands = e; current = refl; later = refl; scene = refl }

pub stands_walk : (place : Place) (old new : Run) → StandsAt place old new → (more : List Settled) → place_walk place (around old) (known_in old.kept.scene) more ≡ from new more
stands_walk place old new h more = sym (λ i. place_walk (h.stands i) (todo_walk (h.current i) (todos_walk (h.later i))) (known_in (h.scene i)) more)

stands_weight : (place : Place) (old new : Run) → StandsAt place old new → run_weight new ≡ place_weight place + around_weight old
stands_weight place old new h = λ i. place_weight (h.stands i) + (todo_weight (h.current i) + todos_weight (h.later i))

stands_time : (place : Place) (old new : Run) → StandsAt place old new → when_of new.kept.scene ≡ when_of old.kept.scene
stands_time place old new h = ap when_of h.scene

-- ---- steps that stop
-- a step that stops at the place from which it was made
pub stop_step : (place : Place) (old : Run) (weight : ℕ) (before : MachineView) (r : Ran) (after : MachineView) (new : Run) → StandsAt place old new →
    Stops (when_of old.kept.scene) before (place_walk place (around old) (known_in old.kept.scene)) r after → Rests (Some r) place → WaitsBelow after.started place → before.started ≤ after.started →
    Steps (when_of old.kept.scene) before (place_walk place (around old) (known_in old.kept.scene)) weight (Some r) after new
stop_step place old weight before r after new h stops rests waits started =
    let S : Walk → Type 0 = λ w. Stops (when_of old.kept.scene) before w r after in
    let R : Place → Type 0 = λ p. Rests (Some r) p in
    let W : Place → Type 0 = λ p. WaitsBelow after.started p in
    record {
      steps = (
        before,
        reach_none Any (when_of old.kept.scene) before (place_walk place (around old) (known_in old.kept.scene)) (from new) (stands_walk place old new h),
        subst S (λ i more. stands_walk place old new h more i) stops,
      );
      falls = tt;
      time = stands_time place old new h;
      waits = subst W (sym h.stands) waits;
      started = started;
      rests = subst R (sym h.stands) rests;
    }

-- elsewhere no file is wanted
none_again : (wanted : Option (List ℕ)) (old : MachineView) (f : Walk) (result : Option Ran) (new : MachineView) (left : Walk) → wanted ≡ None → Again wanted old f result new left
none_again wanted old f result new left e = let P : Option (List ℕ) → Type 0 = λ w. Again w old f result new left in subst P (sym e) tt

pub step_from : (place : Place) (old : Run) (before : MachineView) (result : Option Ran) (after : MachineView) (new : Run) → wanted_at place ≡ None →
    Steps (when_of old.kept.scene) before (place_walk place (around old) (known_in old.kept.scene)) (place_weight place + around_weight old) result after new → StepsFrom place old before result after new
step_from place old before result after new none h = record { step = h; again = none_again (wanted_at place) before _ result after (from new) none }

before_wants : (place : Place) → IsBeforeLine place → wanted_at place ≡ None
before_wants (Wanting fetch) h = absurd h
before_wants place h = refl

before_waits : (place : Place) (started : ℕ) → IsBeforeLine place → WaitsBelow started place
before_waits (Waiting line process) started h = absurd h
before_waits place started h = tt

-- memory ran out in a line
pub starved_step : (place : Place) (old : Run) (line : ℕ) (before after : MachineView) (new : Run) → IsBeforeLine place → StandsAt place old new →
    Starves (when_of old.kept.scene) line before (place_walk place (around old) (known_in old.kept.scene)) after → before.started ≤ after.started → StepsFrom place old before (Some ran.Memory) after new
starved_step place old line before after new fits h starves started =
    step_from place old before (Some ran.Memory) after new (before_wants place fits)
    (stop_step place old (place_weight place + around_weight old) before ran.Memory after new h (line, starves) (before_wants place fits, fits) (before_waits place after.started fits) started)

-- memory ran out, and nothing was done
pub memory_step : (place : Place) (old : Run) (before after : MachineView) (new : Run) → IsBeforeLine place → StandsAt place old new → after ≡ before → StepsFrom place old before (Some ran.Memory) after new
memory_step place old before after new fits h same =
    let f : Walk = place_walk place (around old) (known_in old.kept.scene) in
    let P : MachineView → Type 0 = λ v. Starves (when_of old.kept.scene) 0 before f v in
    let started : after.started ≡ before.started = ap (λ (v : MachineView). v.started) same in
    starved_step place old 0 before after new fits h (subst P (sym same) (starve_here (when_of old.kept.scene) 0 before f)) (omega (arith, started))

-- ---- steps that go on
pub none_step : (at : When) (weight : ℕ) (before : MachineView) (f : Walk) (result : Option Ran) (after : MachineView) (new : Run) → result ≡ None → when_of new.kept.scene ≡ at → run_weight new < weight →
    WaitsBelow after.started new.place → before.started ≤ after.started → Reaches Any at before f after (from new) → Steps at before f weight result after new
none_step at weight before f result after new none time less waits started a =
    let P : Option Ran → Type 0 = λ r. Steps at before f weight r after new in
    let own : Steps at before f weight None after new = record { steps = a; falls = less; time = time; waits = waits; started = started; rests = tt } in
    subst P (sym none) own

-- a step that goes on from another place
pub goes_step : (place : Place) (old : Run) (weight : ℕ) (before : MachineView) (f : Walk) (result : Option Ran) (after : MachineView) (new : Run) → result ≡ None → StandsAt place old new →
    place_weight place + around_weight old < weight → WaitsBelow after.started place → before.started ≤ after.started →
    Reaches Any (when_of old.kept.scene) before f after (place_walk place (around old) (known_in old.kept.scene)) → Steps (when_of old.kept.scene) before f weight result after new
goes_step place old weight before f result after new none h less waits started a =
    let at : When = when_of old.kept.scene in
    let W : Place → Type 0 = λ p. WaitsBelow after.started p in
    let weighs : run_weight new ≡ place_weight place + around_weight old = stands_weight place old new h in
    none_step at weight before f result after new none (stands_time place old new h) (omega (arith, weighs, less)) (subst W (sym h.stands) waits) started
    (reach_same Any at before f after (place_walk place (around old) (known_in old.kept.scene)) (from new) a (stands_walk place old new h))

-- the same of a run that nothing but its place was changed of
pub move_step : (place : Place) (old : Run) (weight : ℕ) (before : MachineView) (f : Walk) (result : Option Ran) (after : MachineView) (new : Run) → MovesTo place old result new →
    place_weight place + around_weight old < weight → WaitsBelow after.started place → before.started ≤ after.started →
    Reaches Any (when_of old.kept.scene) before f after (place_walk place (around old) (known_in old.kept.scene)) → Steps (when_of old.kept.scene) before f weight result after new
move_step place old weight before f result after new h less waits started a =
    goes_step place old weight before f result after new h.goes_on (moved_stands place old new h.moved) less waits started a

-- ---- the same step
falls_within : (result : Option Ran) (a b new : ℕ) → a ≤ b → Falls result a new → Falls result b new
falls_within None a b new le h = omega arith
falls_within (Some r) a b new le h = tt

steps_then : (at : When) (old : MachineView) (f : Walk) (mid : MachineView) (g : Walk) (result : Option Ran) (new : MachineView) (left : Walk) → Reaches Any at old f mid g → StepsTo at mid g result new left → StepsTo at old f result new left
steps_then at old f mid g None new left a h = reach_then Any at old f mid g new left a h
steps_then at old f mid g (Some r) new left a h = (h.0, reach_then Any at old f mid g h.0 left a h.1, h.2)

-- a step behind results
pub step_behind : (at : When) (old : MachineView) (f : Walk) (mid : MachineView) (g : Walk) (a b : ℕ) (result : Option Ran) (new : MachineView) (run : Run) → Reaches Any at old f mid g → old.started ≤ mid.started → a ≤ b →
    Steps at mid g a result new run → Steps at old f b result new run
step_behind at old f mid g a b result new run reach started le h = record {
  steps = steps_then at old f mid g result new (from run) reach h.steps;
  falls = falls_within result a b (run_weight run) le h.falls;
  time = h.time;
  waits = h.waits;
  started = omega (arith, h.started);
  rests = h.rests;
}

-- a step from the same walk by another name
pub step_along : (at : When) (old : MachineView) (f g : Walk) (a b : ℕ) (result : Option Ran) (new : MachineView) (run : Run) → ((more : List Settled) → f more ≡ g more) → a ≤ b →
    Steps at old g a result new run → Steps at old f b result new run
step_along at old f g a b result new run same le h = step_behind at old f old g a b result new run (reach_none Any at old f g same) (omega arith) le h

-- ---- what comes after an answer
counts_below : (old new : ℕ) (answer : Acted) → CountsStarted old new answer → StartsBelow new answer
counts_below old new of_act.Done h = tt
counts_below old new (of_act.Started process) h =
    let e : process.0 ≡ old = ap (λ (p : ProcessNo). p.0) h.0 in
    omega (arith, e)
counts_below old new (of_act.Refused reason) h = tt
counts_below old new of_act.Failed h = tt
counts_below old new of_act.Memory h = tt

-- the step after a command's answer
pub act_step : (line weight : ℕ) (started : ℕ → Rest) (old : Run) (answer : Acted) (result : Option Ran) (new : Run) (midway : Bool) (command : Command) (before after : MachineView) →
    FollowsAct line weight started old answer result new → answer ≢ of_act.Memory → ActsOn old.kept.scene.moment command before answer after →
    Steps (when_of old.kept.scene) before (acting line midway command (around old) started (known_in old.kept.scene)) (weight + around_weight old) result after new
act_step line weight started old answer result new midway command before after h ample acts =
    let walk : Walk = acting line midway command (around old) started (known_in old.kept.scene) in
    let same : around_weight new ≡ around_weight old = ap around_weight h.rest in
    none_step (when_of old.kept.scene) (weight + around_weight old) before walk result after new h.goes_on (ap (λ (r : Run). when_of r.kept.scene) h.rest) (omega (arith, h.falls, same))
    (h.waits after.started (counts_below before.started after.started answer acts.started)) (counts_grow before.started after.started answer acts.started)
    (reach_one Any (when_of old.kept.scene) before walk (acted answer) after (from new) tt (ample, acts) h.walk)

pub poll_exits : (at : When) (line process : ℕ) (rest : Rest) (known : Known) (old : MachineView) (code : ℤ) (new : MachineView) (left : Walk) →
    PollsOn process old (of_poll.Exited code) new → ((more : List Settled) → rest (with_exit code known) more ≡ left more) → Reaches Any at old (polling line process rest known) new left
poll_exits at line process rest known old code new left h same =
    reach_one Any at old (polling line process rest known) (polled (of_poll.Exited code)) new left tt ((λ e. absurd (cc)), h) same

pub poll_fails : (at : When) (line process : ℕ) (rest : Rest) (known : Known) (old new : MachineView) →
    PollsOn process old of_poll.Failed new → Reaches Any at old (polling line process rest known) new (failing line true MachineFault known)
poll_fails at line process rest known old new h =
    reach_one Any at old (polling line process rest known) (polled of_poll.Failed) new (failing line true MachineFault known) tt ((λ e. absurd (cc)), h) (λ more. refl)

-- ---- lists and bytes
-- of an empty list the first is none
pub none_left : {T : Type 0} (old new : List T) → old ≡ new → new ≡ drop 1 old → old ≡ []
none_left [] new e d = refl
none_left (x ∷ xs) new e d =
    let f : length (x ∷ xs) ≡ length (drop 1 (x ∷ xs)) = ap length (e ∙ d) in
    absurd (omega (arith, f, length-drop 1 (x ∷ xs)))

-- bytes that were compared, whatever name they have
pub compared_same : (fetch : Prefetch) (bytes read : List ℕ) (rest : Rest) (known : Known) (more : List Settled) → read ≡ bytes → Compares fetch read None →
    placing fetch bytes rest known more ≡ doing fetch.line false (command.Place fetch.name bytes) rest known more
compared_same fetch bytes read rest known more e h =
    let P : List ℕ → Type 0 = λ b. placing fetch b rest known more ≡ doing fetch.line false (command.Place fetch.name b) rest known more in
    subst P e (ap (λ (r : Rest). r known more) (h rest))

pub compared_other : (fetch : Prefetch) (bytes read : List ℕ) (cause : Cause) (rest : Rest) (known : Known) (more : List Settled) → read ≡ bytes → Compares fetch read (Some cause) →
    placing fetch bytes rest known more ≡ failing fetch.line true cause known more
compared_other fetch bytes read cause rest known more e h =
    let P : List ℕ → Type 0 = λ b. placing fetch b rest known more ≡ failing fetch.line true cause known more in
    subst P e (ap (λ (r : Rest). r known more) (h rest))

-- ---- before the next line
pub ready_waits : (place : Place) (started : ℕ) → place ≡ Ready → WaitsBelow started place
ready_waits place started e = let P : Place → Type 0 = λ p. WaitsBelow started p in subst P (sym e) tt

pub ready_walk : (place : Place) (rest : Rest) (known : Known) (more : List Settled) → place ≡ Ready → rest known more ≡ place_walk place rest known more
ready_walk place rest known more e = sym (ap (λ p. place_walk p rest known more) e)

-- likewise where a program's exit code is known from now on
pub exit_walk : (place : Place) (rest : Rest) (code : ℤ) (old new : Scene) (more : List Settled) → place ≡ Ready → new ≡ record old { exit = Some code } →
    rest (with_exit code (known_in old)) more ≡ place_walk place rest (known_in new) more
exit_walk place rest code old new more ready e = ap (λ s. rest (known_in s) more) (sym e) ∙ ready_walk place rest (known_in new) more ready

-- ---- a parameter
named_by : (read name : List ℕ) (ps : List Pair) (b c : Bool) → read ≡ name → b ≡ is_some (value_of read ps) → b ≡ c → is_some (value_of name ps) ≡ c
named_by read name ps b c e h is = ap (λ n. is_some (value_of n ps)) (sym e) ∙ sym h ∙ is

pub set_twice : (line : ℕ) (midway : Bool) (read name value : List ℕ) (rest : Rest) (known : Known) (b : Bool) (more : List Settled) → read ≡ name → b ≡ is_some (value_of read known.parameters) → b ≡ true →
    setting line midway name value rest known more ≡ failing line midway ParameterTwice known more
set_twice line midway read name value rest known b more e h is =
    ap (λ (c : Bool). (if c then failing line midway ParameterTwice known else rest (with_parameter name value known)) more) (named_by read name known.parameters b true e h is)

pub set_once : (line : ℕ) (midway : Bool) (read name value : List ℕ) (rest : Rest) (known : Known) (b : Bool) (more : List Settled) → read ≡ name → b ≡ is_some (value_of read known.parameters) → b ≡ false →
    setting line midway name value rest known more ≡ rest (with_parameter name value known) more
set_once line midway read name value rest known b more e h is =
    ap (λ (c : Bool). (if c then failing line midway ParameterTwice known else rest (with_parameter name value known)) more) (named_by read name known.parameters b false e h is)

pub set_walk : (place : Place) (rest : Rest) (name value : List ℕ) (old new : Scene) (more : List Settled) → place ≡ Ready →
    new ≡ record old { parameters = old.parameters ++ record { name = name; value = value } ∷ [] } →
    rest (with_parameter name value (known_in old)) more ≡ place_walk place rest (known_in new) more
set_walk place rest name value old new more ready e = ap (λ s. rest (known_in s) more) (sym e) ∙ ready_walk place rest (known_in new) more ready

is_none : (o : Option (List ℕ)) → is_some o ≡ false → o ≡ None
is_none None e = refl
is_none (Some v) e = absurd (cc)

pub name_is_new : (read name : List ℕ) (ps : List Pair) (b : Bool) → read ≡ name → b ≡ is_some (value_of read ps) → b ≡ false → value_of name ps ≡ None
name_is_new read name ps b e h is = is_none (value_of name ps) (named_by read name ps b false e h is)
