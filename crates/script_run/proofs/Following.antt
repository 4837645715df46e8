-- Whoever calls a run is answered along a course.
use Rattle.std.proofs.Common.{◌≡◌, ◌↔◌, ℕ, Bool, true, false, IsTrue, List, [], ◌∷◌, ◌++◌, Option, Some, None, refl, sym, subst, ◌∙◌}
use Rattle.bf_world.specs.Worlds.{WorldState}
use Rattle.bf_machine.specs.Views.{MachineView}
use Rattle.rel_sources.specs.declared.pair.Pair.{Pair}
use Rattle.script_text.specs.Scripts.{PlainScript}
use Rattle.script_run.specs.declared.ran.Ran.{Ran}
use Rattle.script_run.specs.declared.run.Run.{Run}
use Rattle.script_run.specs.Walks.{supplied}
use Rattle.script_run.specs.Asking.{When}
use Rattle.script_run.specs.RunPlaces.{Stands, wanted_at}
use Rattle.script_run.specs.Advances.{GoesOn, wanted_by}
use Rattle.script_run.specs.Courses.{Going, Supplying, ran, taken, Point, IsAt, Follows}

pub advance_follows : (at : When) (world : WorldState) (script : PlainScript) (given : List Pair) (old : Point) (before : MachineView) (answer : Ran) (left : MachineView) (run : Run) →
    before.world ≡ Some world → GoesOn at script given old.settled before answer left run → wanted_at run.place ≡ wanted_by answer → Follows script given old (Going at world) (ran answer) run
advance_follows at world script given old before answer left run told goes wanted = record {
  point = record { settled = old.settled ++ goes.advances.results; wanted = wanted_by answer };
  replies = record { before = before; told = told; results = goes.advances.results; between = goes.advances.between; comes = goes.advances.comes; left = left; stops = goes.advances.stops; point = refl };
  is_at = record { stands = goes.stands; wants = wanted };
}

pub supply_follows : (digest : List ℕ) (bytes : Option (List ℕ)) (script : PlainScript) (given : List Pair) (old : Point) (run : Run) (result : Bool) (new : Run) → IsAt script given run old →
    IsTrue result ↔ (wanted_at run.place ≡ Some digest) → (result ≡ true → Stands script given run old.settled → Stands script given new (old.settled ++ supplied bytes ∷ [])) →
    (result ≡ true → wanted_at new.place ≡ None) → (result ≡ false → new ≡ run) → Follows script given old (Supplying digest bytes) (taken result) new
supply_follows digest bytes script given old run true new is_at wanted stands came other = record {
  point = record { settled = old.settled ++ supplied bytes ∷ []; wanted = None };
  replies = (sym is_at.wants ∙ wanted.0 refl, refl);
  is_at = record { stands = stands refl is_at.stands; wants = came refl };
}
supply_follows digest bytes script given old run false new is_at wanted stands came other =
    let At : Run → Type 0 = λ r. IsAt script given r old in
    record { point = old; replies = ((λ same. absurd (none (wanted.1 (is_at.wants ∙ same)))), refl); is_at = subst At (sym (other refl)) is_at }
  where
    none : false ≡ true → ⊥
    none e = absurd (cc)
