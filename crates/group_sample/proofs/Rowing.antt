-- What is drawn of a property's question is its row.
use Rattle.std.proofs.Common.{ℕ, ◌≡◌, ◌≤◌, ℤ, List, length, All, Option, Some, sym, ap, subst, ◌∙◌}
use Rattle.bf_world.specs.Worlds.{WorldState}
use Rattle.rel_types.specs.Plans.{PlainNode}
use Rattle.rel_sources.specs.declared.scene.Scene.{Scene}
use Rattle.rel_trace.specs.Trace.{Trace}
use Rattle.rel_eval.specs.Cuts.{meaning}
use Rattle.rel_eval.specs.Questions.{IsPlanOf}
use Rattle.group_text.specs.declared.property.Property.{Property}
use Rattle.group_sample.specs.declared.drawing.Drawn.{Drawn}
use Rattle.group_sample.specs.declared.sample.Sampled.{Sampled}
use Rattle.group_sample.specs.Drawing.{IsWithin, drawn}
use Rattle.group_sample.specs.Rows.{IsBareScene, IsRowOf, most_values, row_error, row_from, row_values, scene_at}
use Rattle.group_sample.proofs.RowDrawing.{drawn_row, row_in}

-- a row is known by its parts
row_parts : (p : Property) (moment offset : ℤ) (t : Trace) (d : Drawn) (row : Sampled) → row.property ≡ p.name → row.moment ≡ moment → row.values ≡ d.values → row.error ≡ d.error → d ≡ row_in offset most_values t
    → row ≡ row_from p moment offset t
row_parts p moment offset t d row name at values error is =
    let v : row.values ≡ row_values offset t = values ∙ ap (λ (x : Drawn). x.values) is in
    let e : row.error ≡ row_error offset t = error ∙ ap (λ (x : Drawn). x.error) is in
    λ i. record { property = name i; moment = at i; values = v i; error = e i }

-- the row of a property
pub row_drawn : (world : Option WorldState) (scene : Scene) (p : Property) (plan : PlainNode) (d : Drawn) (row : Sampled) → IsBareScene scene → IsPlanOf p.question plan → IsWithin d → row.property ≡ p.name → row.moment ≡ scene.moment
    → row.values ≡ d.values → row.error ≡ d.error → ((w : WorldState) → world ≡ Some w → d ≡ drawn scene.offset most_values (meaning w scene plan)) → IsRowOf world scene.moment scene.offset p row
row_drawn world scene p plan d row bare is within name at values error drawn_is =
    let V : List (List ℕ) → Type 0 = λ l. length l ≤ most_values in
    let A : List (List ℕ) → Type 0 = λ l. All (λ text. length text ≤ 1024) l in
    record {
      property = name;
      at_moment = at;
      few = subst V (sym values) within.few;
      short = subst A (sym values) within.short;
      drawn = λ w told. (
        plan,
        is,
        row_parts p scene.moment scene.offset (meaning w (scene_at scene.moment scene.offset) plan) d row name at values error
            (drawn_is w told ∙ ap (λ (s : Scene). drawn scene.offset most_values (meaning w s plan)) bare
            ∙ drawn_row scene.offset most_values (meaning w (scene_at scene.moment scene.offset) plan)),
      );
    }
