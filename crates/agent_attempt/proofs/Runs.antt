-- Scripts that run, as walks.
use Rattle.std.proofs.Common.{◌≡◌, ℕ, ℤ, false, List, [], ◌∷◌, ◌++◌, append-nil, append_assoc, Option, Some, Result, Ok, Err, sym, ap, subst, ◌∙◌}
use Rattle.rel_sources.specs.declared.pair.Pair.{Pair}
use Rattle.std.specs.Prelude.{IfOk}
use Rattle.script_text.specs.declared.script.Script.{Script}
use Rattle.script_text.specs.Readings.{shown_script}
use Rattle.script_text.specs.Scripts.{PlainScript}
use Rattle.script_run.specs.declared.place.Place.{Place}
use Rattle.script_run.specs.declared.place.Place.TheVariants.{Ready, Wanting, Supplied, Placing, Doing, Waiting, Testing, Asking, Done, Failed}
use Rattle.script_run.specs.declared.ran.Ran.{Ran}
use Rattle.script_run.specs.declared.run.Run.{Run}
use Rattle.script_run.specs.Walks.{Known, Settled, Next, is_midway, Polls, Stop, Walk, Rest}
use Rattle.script_run.specs.ScriptWalks.{standing, after, exit_after}
use Rattle.bf_machine.specs.Views.{MachineView}
use Rattle.script_run.specs.Asking.{When, known_in}
use Rattle.script_run.specs.RunPlaces.{Stands, WaitsBelow, place_walk, around, from}
use Rattle.script_run.specs.Advances as advance
use Rattle.script_run.specs.Advances.{Advances}
use Rattle.script_run.proofs.Fresh.{fresh_from, placing_next}
use Rattle.agent_attempt.specs.declared.attempt.Part.{Part}
use Rattle.agent_attempt.specs.Attempts.{NextIsBelow}
use Rattle.agent_attempt.specs.ReadTexts.{IsScriptOf}
use Rattle.agent_attempt.specs.Going.{exit_at}
use Rattle.agent_attempt.specs.Stages.{IsRun}
use Rattle.agent_attempt.specs.AttemptSteps.{OpensRun}

-- an advance of a run is one of its walk, and leaves a run
pub run_advances : (at own : When) (run left : Run) (old new : MachineView) (answer : Ran) → IsRun run → own ≡ at →
    ((script : PlainScript) (given : List Pair) (settled : List Settled) → Stands script given run settled → advance.GoesOn own script given settled old answer new left) →
    Advances at old (from run) answer new (from left) × IsRun left
run_advances at own run left old new answer (script, given, settled, stands) same goes =
    let h = goes script given settled stands in
    let further : (more : List Settled) → h.left more ≡ from left more =
    λ more. h.advances.same more ∙ ap (standing script given) (sym (append_assoc settled h.advances.results more)) ∙ h.stands more in
    let here : after script given settled ≡ from run = λ i more. stands more i in
    let there : h.left ≡ from left = λ i more. further more i in
    let ends = subst (λ (w : Walk). Advances own old (after script given settled) answer new w) there h.advances in
    let begins = subst (λ (w : Walk). Advances own old w answer new (from left)) here ends in
    (subst (λ (w : When). Advances w old (from run) answer new (from left)) same begins, (script, given, settled ++ h.advances.results, h.stands))

-- the exit code that a run knows is that of its walk
pub run_exit : (run : Run) (exit : Option ℤ) → IsRun run →
    ((script : PlainScript) (given : List Pair) (settled : List Settled) → Stands script given run settled → exit ≡ exit_after script given settled) → exit ≡ exit_at (from run)
run_exit run exit (script, given, settled, stands) is =
    is script given settled stands ∙ ap (λ (s : Stop). s.known.exit) (sym (ap (standing script given) (append-nil settled)) ∙ stands [])

-- a file that was supplied is the next result
pub supply_from : (script : PlainScript) (given : List Pair) (settled : List Settled) (old new : Run) (result : Settled) → Stands script given old settled → Stands script given new (settled ++ result ∷ []) →
    (more : List Settled) → from new more ≡ from old (result ∷ more)
supply_from script given settled old new result before now more =
    sym (now more) ∙ ap (standing script given) (append_assoc settled (result ∷ []) more) ∙ before (result ∷ more)

-- ---- programs that are waited for
fresh_below : (started : ℕ) (next : Next) → is_midway next ≡ false → NextIsBelow started next
fresh_below started (Polls line process) fresh = absurd (cc)
fresh_below started next fresh = tt

place_waits : (started : ℕ) (run : Run) (place : Place) → WaitsBelow started place → NextIsBelow started (place_walk place (around run) (known_in run.kept.scene) []).next
place_waits started run (Wanting fetch) waits = tt
place_waits started run (Waiting line process) waits = waits
place_waits started run Done waits = tt
place_waits started run (Failed line midway cause) waits = tt
place_waits started run Ready waits = let own : Run = record run { place = Ready } in fresh_below started (from own []).next (fresh_from own tt)
place_waits started run (Supplied fetch bytes) waits =
    placing_next (λ next. NextIsBelow started next) fetch bytes (around run) (known_in run.kept.scene) tt (λ long. tt) (λ stated found. tt)
place_waits started run (Placing line name bytes) waits = let own : Run = record run { place = Placing line name bytes } in fresh_below started (from own []).next (fresh_from own tt)
place_waits started run (Doing line what) waits = let own : Run = record run { place = Doing line what } in fresh_below started (from own []).next (fresh_from own tt)
place_waits started run (Testing arms other) waits = let own : Run = record run { place = Testing arms other } in fresh_below started (from own []).next (fresh_from own tt)
place_waits started run (Asking arm arms other) waits = let own : Run = record run { place = Asking arm arms other } in fresh_below started (from own []).next (fresh_from own tt)

-- the program that a run waits for is what its walk polls next
pub walk_waits : (started : ℕ) (run : Run) → WaitsBelow started run.place → NextIsBelow started (from run []).next
walk_waits started run waits = place_waits started run run.place waits

waits_place : (started : ℕ) (place : Place) (rest : Rest) (known : Known) → NextIsBelow started (place_walk place rest known []).next → WaitsBelow started place
waits_place started (Waiting line process) rest known below = below
waits_place started place rest known below = tt

pub run_waits : (started : ℕ) (run : Run) → NextIsBelow started (from run []).next → WaitsBelow started run.place
run_waits started run below = waits_place started run.place (around run) (known_in run.kept.scene) below

-- ---- beginning
-- a run that was opened on a script that was read
pub opens_run : {E : Type 0} (left : List Part) (given own : List Pair) (script : Script) (result : Result Run E) →
    ((part : Part) (rest : List Part) → left ≡ part ∷ rest → IsScriptOf part.fixlet.script (Some script)) → own ≡ given → IfOk result (λ run. Stands (shown_script script) own run []) →
    IfOk result (λ run. (part : Part) (rest : List Part) → left ≡ part ∷ rest → OpensRun part.fixlet.script given run)
opens_run left given own script (Ok run) reads same stands = λ part rest e. (shown_script script, reads part rest e, subst (λ g. Stands (shown_script script) g run []) same stands)
opens_run left given own script (Err error) reads same stands = tt
