-- What a question that was read is answered. Other crates may cite these lemmas.
use Rattle.std.proofs.Common.{◌≡◌, Bool, true, false, List, refl, Option, Some}
use Rattle.rel_value.specs.Plain.{booleans}
use Rattle.bf_world.specs.declared.key.Key.{Key}
use Rattle.bf_world.specs.Worlds.{WorldState}
use Rattle.rel_sources.specs.declared.scene.Scene.{Scene}
use Rattle.rel_types.specs.Plans.{PlainNode, kind_of}
use Rattle.rel_types.specs.Alike.{same_kind}
use Rattle.rel_trace.specs.declared.kind.RelKind.TheVariants.{NotSingular, Incompatible}
use Rattle.rel_nodes.specs.Spans.{span_of_node}
use Rattle.rel_eval.specs.declared.told.OneText.{OneText}
use Rattle.rel_eval.specs.declared.told.OneText.TheVariants as one_text
use Rattle.rel_eval.specs.declared.told.Truth.{Truth}
use Rattle.rel_eval.specs.declared.told.Truth.TheVariants as truth
use Rattle.rel_eval.specs.Cuts.{meaning}
use Rattle.rel_eval.specs.Singles.{Words, Judges, one_text_of, truth_of}
use Rattle.script_run.specs.Asking.{SaysQuestion, JudgesKind, JudgesQuestion}

pub says_question : (plural : Bool) (world : Option WorldState) (scene : Scene) (plan : PlainNode) (old : Option (List Key)) (answer : OneText) (new : Option (List Key)) →
    (plural ≡ true → (answer ≡ one_text.Error NotSingular (span_of_node plan)) × (new ≡ old)) →
    (plural ≡ false → (w : WorldState) → world ≡ Some w → Words old (one_text_of (span_of_node plan) scene.offset (meaning w scene plan)) answer new) →
    SaysQuestion plural world scene plan old answer new
says_question true world scene plan old answer new several one = several refl
says_question false world scene plan old answer new several one = one refl

pub judges_kind : (same : Bool) (world : Option WorldState) (scene : Scene) (plan : PlainNode) (old : Option (List Key)) (answer : Truth) (new : Option (List Key)) →
    (same ≡ false → (answer ≡ truth.Error Incompatible (span_of_node plan)) × (new ≡ old)) →
    (same ≡ true → (w : WorldState) → world ≡ Some w → Judges old (truth_of (span_of_node plan) (meaning w scene plan)) answer new) →
    JudgesKind same world scene plan old answer new
judges_kind false world scene plan old answer new other one = other refl
judges_kind true world scene plan old answer new other one = one refl

pub judges_question : (plural : Bool) (world : Option WorldState) (scene : Scene) (plan : PlainNode) (old : Option (List Key)) (answer : Truth) (new : Option (List Key)) →
    (plural ≡ true → (answer ≡ truth.Error NotSingular (span_of_node plan)) × (new ≡ old)) →
    (plural ≡ false → JudgesKind (same_kind (kind_of plan) booleans) world scene plan old answer new) →
    JudgesQuestion plural world scene plan old answer new
judges_question true world scene plan old answer new several one = several refl
judges_question false world scene plan old answer new several one = one refl
