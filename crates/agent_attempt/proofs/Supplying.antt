-- An attempt that is given a file, and one that begins.
use Rattle.std.proofs.Common.{◌≡◌, ◌≢◌, ◌↔◌, ℕ, Bool, true, false, List, [], ◌∷◌, ◌++◌, Option, Some, None, refl, sym, ap, subst, ◌∙◌}
use Rattle.std.specs.Prelude.{IsTrue}
use Rattle.rel_sources.specs.declared.pair.Pair.{Pair}
use Rattle.script_text.specs.Scripts.{PlainScript}
use Rattle.script_run.specs.declared.run.Run.{Run}
use Rattle.script_run.specs.Walks.{Settled, supplied}
use Rattle.script_run.specs.RunPlaces.{Stands, WaitsBelow, wanted_at}
use Rattle.agent_attempt.specs.declared.attempt.Stage.{Stage}
use Rattle.agent_attempt.specs.declared.attempt.Stage.TheVariants as stage
use Rattle.agent_attempt.specs.Attempts.{StageWaitsBelow}
use Rattle.agent_attempt.specs.Stages.{AttemptState, IsRun, shown_attempt, shown_stage}
use Rattle.agent_attempt.specs.Supplies.{StageTakes, Supplies, Takes, wanted_of}
use Rattle.agent_attempt.proofs.Runs.{run_waits, supply_from, walk_waits}

-- what a run that was given a file says of its walk
takes_run : (a : AttemptState) (run new : Run) (bytes : Option (List ℕ)) (result : Bool) → a.stage ≡ stage.Running run → IsRun run →
    (result ≡ true → (script : PlainScript) (given : List Pair) (settled : List Settled) → Stands script given run settled → Stands script given new (settled ++ supplied bytes ∷ [])) →
    (result ≡ true → wanted_at new.place ≡ None) → (result ≡ false → new ≡ run) →
    Takes (shown_attempt a) bytes result (shown_attempt (record a { stage = stage.Running new }))
takes_run a run new bytes true is (script, given, settled, stands) taken came other = (
  refl,
  subst (λ (s : Stage). StageTakes (shown_stage s) bytes (shown_stage (stage.Running new))) (sym is)
      (came refl, supply_from script given settled run new (supplied bytes) stands (taken refl script given settled stands)),
)
takes_run a run new bytes false is stood taken came other =
    λ i. record (shown_attempt a) { stage = (ap (λ (r : Run). shown_stage (stage.Running r)) (other refl) ∙ ap shown_stage (sym is)) i }

pub supplies_run : (s a : AttemptState) (run new : Run) (digest : List ℕ) (bytes : Option (List ℕ)) (result : Bool) → a ≡ s → a.stage ≡ stage.Running run → IsRun run →
    (IsTrue result ↔ (wanted_at run.place ≡ Some digest)) →
    (result ≡ true → (script : PlainScript) (given : List Pair) (settled : List Settled) → Stands script given run settled → Stands script given new (settled ++ supplied bytes ∷ [])) →
    (result ≡ true → wanted_at new.place ≡ None) → (result ≡ false → new ≡ run) →
    Supplies (shown_attempt s) digest bytes result (shown_attempt (record a { stage = stage.Running new }))
supplies_run s a run new digest bytes result same is stood wanted taken came other =
    subst (λ (x : AttemptState). Supplies (shown_attempt x) digest bytes result (shown_attempt (record a { stage = stage.Running new }))) same
    (subst (λ (x : Stage). IsTrue result ↔ (wanted_of (shown_stage x) ≡ Some digest)) (sym is) wanted, takes_run a run new bytes result is stood taken came other)

pub supplied_runs : (run new : Run) (bytes : Option (List ℕ)) (result : Bool) → IsRun run →
    (result ≡ true → (script : PlainScript) (given : List Pair) (settled : List Settled) → Stands script given run settled → Stands script given new (settled ++ supplied bytes ∷ [])) →
    (result ≡ false → new ≡ run) → IsRun new
supplied_runs run new bytes true (script, given, settled, stands) taken other = (script, given, settled ++ supplied bytes ∷ [], taken refl script given settled stands)
supplied_runs run new bytes false stood taken other = subst IsRun (sym (other refl)) stood

-- a run that is supplied waits for no other program
pub supplied_waits : (s a : AttemptState) (run new : Run) → a ≡ s → a.stage ≡ stage.Running run → ((started : ℕ) → WaitsBelow started run.place → WaitsBelow started new.place) →
    (started : ℕ) → StageWaitsBelow started (shown_stage s.stage) → StageWaitsBelow started (shown_stage (stage.Running new))
supplied_waits s a run new same is keeps started below =
    let P : AttemptState → Type 0 = λ x. StageWaitsBelow started (shown_stage x.stage) in
    let Q : Stage → Type 0 = λ x. StageWaitsBelow started (shown_stage x) in
    walk_waits started new (keeps started (run_waits started run (subst Q is (subst P (sym same) below))))

none_wanted : (at : Stage) (digest : List ℕ) → ((run : Run) → at ≢ stage.Running run) → IsTrue false ↔ (wanted_of (shown_stage at) ≡ Some digest)
none_wanted stage.Coming digest other = ((λ t. absurd (cc)), (λ e. absurd (cc)))
none_wanted stage.Starting digest other = ((λ t. absurd (cc)), (λ e. absurd (cc)))
none_wanted (stage.Running run) digest other = absurd (other run refl)
none_wanted (stage.Judging exit) digest other = ((λ t. absurd (cc)), (λ e. absurd (cc)))

pub supplies_none : (s a : AttemptState) (digest : List ℕ) (bytes : Option (List ℕ)) → a ≡ s → ((run : Run) → a.stage ≢ stage.Running run) → Supplies (shown_attempt s) digest bytes false (shown_attempt a)
supplies_none s a digest bytes same other =
    subst (λ (x : AttemptState). Supplies (shown_attempt x) digest bytes false (shown_attempt a)) same (none_wanted a.stage digest other, refl)
