-- What an expression and a test of a script are answered, and the looks that are made for it.
use Rattle.std.specs.Prelude.{◌≡◌, ◌⊎◌, ℕ, ℤ, Bool, true, false, List, Some}
use Rattle.std.specs.declared.option.Option.{Option}
use Rattle.rel_value.specs.Plain.{booleans}
use Rattle.bf_world.specs.declared.key.Key.{Key}
use Rattle.bf_world.specs.Worlds.{WorldState}
use Rattle.desk_base.specs.Counts.{CountsIf}
use Rattle.bf_machine.specs.Views.{MachineView, OnlyLooks}
use Rattle.rel_sources.specs.declared.scene.Scene.{Scene}
use Rattle.rel_types.specs.Plans.{PlainNode, is_plural, kind_of}
use Rattle.rel_types.specs.Alike.{same_kind}
use Rattle.rel_trace.specs.declared.kind.RelKind.TheVariants.{NotDefined, NotSingular, Incompatible}
use Rattle.rel_nodes.specs.Spans.{span_of_node}
use Rattle.rel_eval.specs.declared.told.OneText.{OneText}
use Rattle.rel_eval.specs.declared.told.OneText.TheVariants as one_text
use Rattle.rel_eval.specs.declared.told.Truth.{Truth}
use Rattle.rel_eval.specs.declared.told.Truth.TheVariants as truth
use Rattle.rel_eval.specs.Cuts.{meaning}
use Rattle.rel_eval.specs.Questions.{Reading, question, refused, undefined, Reads}
use Rattle.rel_eval.specs.Singles.{Words, Judges, one_text_of, text_has_failed, truth_has_failed, truth_of}
use Rattle.script_run.specs.Walks.{Known}

-- when a run goes on: the moment, and the offset in minutes east of UTC
pub record When : Type 0 where
  pub moment : ℤ
  pub offset : ℤ

-- what a question knows that is asked then
abbrev pub scene_of : When → Known → Scene
scene_of at known = record { moment = at.moment; offset = at.offset; parameters = known.parameters; exit = known.exit }

-- the moment and offset of a scene
abbrev pub when_of : Scene → When
when_of scene = record { moment = scene.moment; offset = scene.offset }

-- the parameters and the exit code of a scene
abbrev pub known_in : Scene → Known
known_in scene = record { parameters = scene.parameters; exit = scene.exit }

-- ---- expressions
-- A question that may give several values has this error, and one that gives one its text, where the world is told.
abbrev pub SaysQuestion : Bool → Option WorldState → Scene → PlainNode → Option (List Key) → OneText → Option (List Key) → Type 0
SaysQuestion true world scene plan old answer new = (answer ≡ one_text.Error NotSingular (span_of_node plan)) × (new ≡ old)
SaysQuestion false world scene plan old answer new =
    (w : WorldState) → world ≡ Some w → Words old (one_text_of (span_of_node plan) scene.offset (meaning w scene plan)) answer new

-- A text that is refused has its refusal as its error, and no look is made.
abbrev pub SaysReading : Option WorldState → Scene → Reading → Option (List Key) → OneText → Option (List Key) → Type 0
SaysReading world scene (question plan) old answer new = SaysQuestion (is_plural plan) world scene plan old answer new
SaysReading world scene (refused kind place) old answer new = (answer ≡ one_text.Error kind place) × (new ≡ old)
SaysReading world scene (undefined place words) old answer new = (answer ≡ one_text.Error NotDefined place) × (new ≡ old)

-- The text is read and asked; or memory ran out before it was read.
abbrev pub SaysText : Option WorldState → Scene → List ℕ → Option (List Key) → OneText → Option (List Key) → Type 0
SaysText world scene text old answer new =
    ((reading : Reading) × Reads text reading × SaysReading world scene reading old answer new)
    ⊎ ((answer ≡ one_text.Memory) × (new ≡ old))

-- An expression was asked for its text, with exactly the looks of its question, and nothing was done.
pub record SaysOn (scene : Scene) (text : List ℕ) (old : MachineView) (answer : OneText) (new : MachineView) : Type 0 where
  pub says : SaysText old.world scene text old.looked answer new.looked
  pub only : OnlyLooks old new
  pub cause : CountsIf (text_has_failed answer) old.faults new.faults

-- ---- tests
-- A question that isn't Boolean has this error, and one that is its truth, where the world is told.
abbrev pub JudgesKind : Bool → Option WorldState → Scene → PlainNode → Option (List Key) → Truth → Option (List Key) → Type 0
JudgesKind false world scene plan old answer new = (answer ≡ truth.Error Incompatible (span_of_node plan)) × (new ≡ old)
JudgesKind true world scene plan old answer new =
    (w : WorldState) → world ≡ Some w → Judges old (truth_of (span_of_node plan) (meaning w scene plan)) answer new

-- A question that may give several values has this error.
abbrev pub JudgesQuestion : Bool → Option WorldState → Scene → PlainNode → Option (List Key) → Truth → Option (List Key) → Type 0
JudgesQuestion true world scene plan old answer new = (answer ≡ truth.Error NotSingular (span_of_node plan)) × (new ≡ old)
JudgesQuestion false world scene plan old answer new = JudgesKind (same_kind (kind_of plan) booleans) world scene plan old answer new

-- A text that is refused has its refusal as its error, and no look is made.
abbrev pub JudgesReading : Option WorldState → Scene → Reading → Option (List Key) → Truth → Option (List Key) → Type 0
JudgesReading world scene (question plan) old answer new = JudgesQuestion (is_plural plan) world scene plan old answer new
JudgesReading world scene (refused kind place) old answer new = (answer ≡ truth.Error kind place) × (new ≡ old)
JudgesReading world scene (undefined place words) old answer new = (answer ≡ truth.Error NotDefined place) × (new ≡ old)

-- The text is read and asked; or memory ran out before it was read.
abbrev pub JudgesText : Option WorldState → Scene → List ℕ → Option (List Key) → Truth → Option (List Key) → Type 0
JudgesText world scene text old answer new =
    ((reading : Reading) × Reads text reading × JudgesReading world scene reading old answer new)
    ⊎ ((answer ≡ truth.Memory) × (new ≡ old))

-- A test was asked for its truth, likewise.
pub record JudgesOn (scene : Scene) (text : List ℕ) (old : MachineView) (answer : Truth) (new : MachineView) : Type 0 where
  pub judges : JudgesText old.world scene text old.looked answer new.looked
  pub only : OnlyLooks old new
  pub cause : CountsIf (truth_has_failed answer) old.faults new.faults
