-- What the answer of an expression or of a test is to a line.
use Rattle.std.proofs.Common.{◌≡◌, ℕ, Bool, true, List, [], ◌∷◌, ◌++◌, refl, sym, subst}
use Rattle.std.specs.Prelude.{Result, Ok, Err, MatchResult}
use Rattle.rel_lexer.specs.declared.place.Place.{Place}
use Rattle.bf_machine.specs.Views.{MachineView}
use Rattle.rel_sources.specs.declared.scene.Scene.{Scene}
use Rattle.rel_trace.specs.declared.kind.RelKind.{RelKind}
use Rattle.rel_eval.specs.declared.told.OneText.TheVariants as one_text
use Rattle.rel_eval.specs.declared.told.Truth.TheVariants as truth
use Rattle.script_text.specs.declared.template.Part2.{Part2}
use Rattle.script_text.specs.declared.template.Part2.TheVariants.{Plain, Expression}
use Rattle.script_run.specs.declared.broken.Broken.{Broken}
use Rattle.script_run.specs.declared.broken.Broken.TheVariants as broken
use Rattle.script_run.specs.declared.cause.Cause.TheVariants.{Relevance, MachineFault}
use Rattle.script_run.specs.Walks.{Known, said, judged, Walk, Rest, failing, saying, testing, pausing}
use Rattle.script_run.specs.LineWalks.{filling}
use Rattle.script_run.specs.Asking.{When, when_of, known_in, SaysOn, JudgesOn}
use Rattle.script_run.specs.RunSteps.{Any, IsTextOf, Starves, Holds}
use Rattle.script_run.specs.Fills.{Reaches, Fills, Breaks}
use Rattle.script_run.proofs.Chains.{reach_none, reach_one, starve_asking, starve_reached}

pub said_text : (scene : Scene) (line : ℕ) (midway : Bool) (e : List ℕ) (rest : List ℕ → Rest) (old : MachineView) (t : List ℕ) (new : MachineView) → SaysOn scene e old (one_text.Text t) new →
    Reaches (IsTextOf line) (when_of scene) old (saying line midway e rest (known_in scene)) new (rest t (known_in scene))
said_text scene line midway e rest old t new h =
    reach_one (IsTextOf line) (when_of scene) old (saying line midway e rest (known_in scene)) (said (one_text.Text t)) new (rest t (known_in scene)) refl ((λ is. absurd (cc)), h) (λ more. refl)

pub said_error : (scene : Scene) (line : ℕ) (midway : Bool) (e : List ℕ) (rest : List ℕ → Rest) (old : MachineView) (kind : RelKind) (place : Place) (new : MachineView) → SaysOn scene e old (one_text.Error kind place) new →
    Reaches Any (when_of scene) old (saying line midway e rest (known_in scene)) new (failing line true (Relevance kind place) (known_in scene))
said_error scene line midway e rest old kind place new h =
    reach_one Any (when_of scene) old (saying line midway e rest (known_in scene)) (said (one_text.Error kind place)) new _ tt ((λ is. absurd (cc)), h) (λ more. refl)

pub said_fault : (scene : Scene) (line : ℕ) (midway : Bool) (e : List ℕ) (rest : List ℕ → Rest) (old : MachineView) (place : Place) (new : MachineView) → SaysOn scene e old (one_text.Failed place) new →
    Reaches Any (when_of scene) old (saying line midway e rest (known_in scene)) new (failing line true MachineFault (known_in scene))
said_fault scene line midway e rest old place new h =
    reach_one Any (when_of scene) old (saying line midway e rest (known_in scene)) (said (one_text.Failed place)) new _ tt ((λ is. absurd (cc)), h) (λ more. refl)

pub said_memory : (scene : Scene) (line : ℕ) (midway : Bool) (e : List ℕ) (rest : List ℕ → Rest) (old new : MachineView) → SaysOn scene e old one_text.Memory new →
    Starves (when_of scene) line old (saying line midway e rest (known_in scene)) new
said_memory scene line midway e rest old new h = starve_asking (when_of scene) line old (saying line midway e rest (known_in scene)) new (refl, h)

-- a test that isn't held
pub tested_true : (scene : Scene) (line : ℕ) (e : List ℕ) (hold fail : Rest) (old new : MachineView) → JudgesOn scene e old truth.True new →
    Reaches Any (when_of scene) old (testing line e hold fail (known_in scene)) new (hold (known_in scene))
tested_true scene line e hold fail old new h = reach_one Any (when_of scene) old (testing line e hold fail (known_in scene)) (judged truth.True) new _ tt ((λ is. absurd (cc)), h) (λ more. refl)

pub tested_false : (scene : Scene) (line : ℕ) (e : List ℕ) (hold fail : Rest) (old new : MachineView) → JudgesOn scene e old truth.False new →
    Reaches Any (when_of scene) old (testing line e hold fail (known_in scene)) new (fail (known_in scene))
tested_false scene line e hold fail old new h = reach_one Any (when_of scene) old (testing line e hold fail (known_in scene)) (judged truth.False) new _ tt ((λ is. absurd (cc)), h) (λ more. refl)

pub tested_error : (scene : Scene) (line : ℕ) (e : List ℕ) (hold fail : Rest) (old : MachineView) (kind : RelKind) (place : Place) (new : MachineView) → JudgesOn scene e old (truth.Error kind place) new →
    Reaches Any (when_of scene) old (testing line e hold fail (known_in scene)) new (failing line true (Relevance kind place) (known_in scene))
tested_error scene line e hold fail old kind place new h = reach_one Any (when_of scene) old (testing line e hold fail (known_in scene)) (judged (truth.Error kind place)) new _ tt ((λ is. absurd (cc)), h) (λ more. refl)

pub tested_fault : (scene : Scene) (line : ℕ) (e : List ℕ) (hold fail : Rest) (old : MachineView) (place : Place) (new : MachineView) → JudgesOn scene e old (truth.Failed place) new →
    Reaches Any (when_of scene) old (testing line e hold fail (known_in scene)) new (failing line true MachineFault (known_in scene))
tested_fault scene line e hold fail old place new h = reach_one Any (when_of scene) old (testing line e hold fail (known_in scene)) (judged (truth.Failed place)) new _ tt ((λ is. absurd (cc)), h) (λ more. refl)

pub tested_memory : (scene : Scene) (line : ℕ) (e : List ℕ) (hold fail : Rest) (old new : MachineView) → JudgesOn scene e old truth.Memory new →
    Starves (when_of scene) line old (testing line e hold fail (known_in scene)) new
tested_memory scene line e hold fail old new h = starve_asking (when_of scene) line old (testing line e hold fail (known_in scene)) new (refl, h)

-- a test that holds its line
pub paused_true : (scene : Scene) (line : ℕ) (e : List ℕ) (rest : Rest) (old new : MachineView) → JudgesOn scene e old truth.True new →
    Holds (when_of scene) (pausing line e rest (known_in scene) []).known (pausing line e rest (known_in scene) []).next line old new
paused_true scene line e rest old new h = (refl, h)

pub paused_false : (scene : Scene) (line : ℕ) (e : List ℕ) (rest : Rest) (old new : MachineView) → JudgesOn scene e old truth.False new →
    Reaches Any (when_of scene) old (pausing line e rest (known_in scene)) new (rest (known_in scene))
paused_false scene line e rest old new h = reach_one Any (when_of scene) old (pausing line e rest (known_in scene)) (judged truth.False) new _ tt ((λ is. absurd (cc)), (λ is. absurd (cc)), h) (λ more. refl)

pub paused_error : (scene : Scene) (line : ℕ) (e : List ℕ) (rest : Rest) (old : MachineView) (kind : RelKind) (place : Place) (new : MachineView) → JudgesOn scene e old (truth.Error kind place) new →
    Reaches Any (when_of scene) old (pausing line e rest (known_in scene)) new (failing line true (Relevance kind place) (known_in scene))
paused_error scene line e rest old kind place new h = reach_one Any (when_of scene) old (pausing line e rest (known_in scene)) (judged (truth.Error kind place)) new _ tt ((λ is. absurd (cc)), (λ is. absurd (cc)), h) (λ more. refl)

pub paused_fault : (scene : Scene) (line : ℕ) (e : List ℕ) (rest : Rest) (old : MachineView) (place : Place) (new : MachineView) → JudgesOn scene e old (truth.Failed place) new →
    Reaches Any (when_of scene) old (pausing line e rest (known_in scene)) new (failing line true MachineFault (known_in scene))
paused_fault scene line e rest old place new h = reach_one Any (when_of scene) old (pausing line e rest (known_in scene)) (judged (truth.Failed place)) new _ tt ((λ is. absurd (cc)), (λ is. absurd (cc)), h) (λ more. refl)

pub paused_memory : (scene : Scene) (line : ℕ) (e : List ℕ) (rest : Rest) (old new : MachineView) → JudgesOn scene e old truth.Memory new →
    Starves (when_of scene) line old (pausing line e rest (known_in scene)) new
paused_memory scene line e rest old new h = starve_asking (when_of scene) line old (pausing line e rest (known_in scene)) new (refl, h)

-- ---- what is appended
-- texts of the line were asked, and then memory ran out or the text is appended
pub appended : (at : When) (line : ℕ) (known : Known) (old : MachineView) (f : Walk) (mid : MachineView) (out more new : List ℕ) (result : Result (Unit {0}) Broken) (later : Bool) (then : Bool → List ℕ → Walk) →
    Reaches (IsTextOf line) at old f mid (then later (out ++ more)) → MatchResult result (λ _. new ≡ out ++ more) (λ b. b ≡ broken.Memory) → Fills at line known old f result mid (λ midway _. then midway new)
appended at line known old f mid out more new (Ok u) later then a e =
    let P : List ℕ → Type 0 = λ t. Reaches (IsTextOf line) at old f mid (then later t) in
    (later, subst P (sym e) a)
appended at line known old f mid out more new (Err b) later then a e =
    let P : Broken → Type 0 = λ q. Breaks at line known old f q mid in
    subst P (sym e) (starve_reached at line old f mid (then later (out ++ more)) a)

pub part_plain : (at : When) (line : ℕ) (midway : Bool) (known : Known) (v : MachineView) (part : Part2) (plain out new : List ℕ) (result : Result (Unit {0}) Broken) (parts : List Part2) (rest : Bool → List ℕ → Rest) →
    part ≡ Plain plain → MatchResult result (λ _. new ≡ out ++ plain) (λ b. b ≡ broken.Memory) →
    Fills at line known v (filling line midway (part ∷ parts) out rest known) result v (λ midway _. filling line midway parts new rest known)
part_plain at line midway known v part plain out new result parts rest is h =
    let P : Part2 → Type 0 = λ p. Fills at line known v (filling line midway (p ∷ parts) out rest known) result v (λ midway _. filling line midway parts new rest known) in
    let here = reach_none (IsTextOf line) at v (filling line midway (Plain plain ∷ parts) out rest known) (filling line midway parts (out ++ plain) rest known) (λ more. refl) in
    subst P (sym is) (appended at line known v (filling line midway (Plain plain ∷ parts) out rest known) v out plain new result midway (λ midway t. filling line midway parts t rest known) here h)

pub part_said : (at : When) (line : ℕ) (midway : Bool) (known : Known) (old : MachineView) (part : Part2) (e out text new : List ℕ) (result : Result (Unit {0}) Broken) (mid : MachineView) (parts : List Part2) (rest : Bool → List ℕ → Rest) →
    part ≡ Expression e → Reaches (IsTextOf line) at old (saying line midway e (λ more. filling line true parts (out ++ more) rest) known) mid (filling line true parts (out ++ text) rest known) →
    MatchResult result (λ _. new ≡ out ++ text) (λ b. b ≡ broken.Memory) →
    Fills at line known old (filling line midway (part ∷ parts) out rest known) result mid (λ midway _. filling line midway parts new rest known)
part_said at line midway known old part e out text new result mid parts rest is a h =
    let P : Part2 → Type 0 = λ p. Fills at line known old (filling line midway (p ∷ parts) out rest known) result mid (λ midway _. filling line midway parts new rest known) in
    subst P (sym is) (appended at line known old (filling line midway (Expression e ∷ parts) out rest known) mid out text new result true (λ midway t. filling line midway parts t rest known) a h)

pub part_broken : (at : When) (line : ℕ) (midway : Bool) (known : Known) (old : MachineView) (part : Part2) (e out : List ℕ) (b : Broken) (new : MachineView) (parts : List Part2) (rest : Bool → List ℕ → Rest) →
    part ≡ Expression e → Breaks at line known old (saying line midway e (λ more. filling line true parts (out ++ more) rest) known) b new →
    Breaks at line known old (filling line midway (part ∷ parts) out rest known) b new
part_broken at line midway known old part e out b new parts rest is h =
    let P : Part2 → Type 0 = λ p. Breaks at line known old (filling line midway (p ∷ parts) out rest known) b new in
    subst P (sym is) h
