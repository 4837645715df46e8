use Rattle.std.proofs.Common.{◌≡◌, ℕ, List, Option, Some, Ok, IfSome, SFits, w64, refl, rules, ap, subst, ◌∙◌}
use Rattle.std.proofs.lemmas.Int.{to_z-of_z}
use Rattle.bf_world.specs.Worlds.{WorldState}
use Rattle.rel_sources.specs.declared.scene.Scene.{Scene}
use Rattle.rel_eval.specs.Answers.{Prepares}
use Rattle.rel_eval.specs.Cuts.{meaning}
use Rattle.rel_eval.specs.Questions.{plan_of}
use Rattle.group_sample.specs.declared.drawing.Drawn.{Drawn}
use Rattle.group_sample.specs.Drawing.{IsWithin, drawn}
use Rattle.group_sample.specs.Rows.{most_values}
use Rattle.group_sample.proofs.Rowing.{row_drawn}
use Rattle.group_sample.proofs.measuring.measure.Goals as goal

pub returns-clause-row : goal.returns-clause-row
returns-clause-row g c =
    let told = (g.M.Machine.told c.args.machine.now).world in
    let scene : Scene = c.args.scene.now in
    let plan = plan_of c.in-Ok.question in
    let fits : SFits w64 c.scene.inside.moment = search rules in
    let P : List ℕ → Type 0 = λ text. Prepares text (Ok c.in-Ok.question) in
    let W : Option Drawn → Type 0 = λ o. IfSome o IsWithin in
    let D : Option Drawn → Type 0 = λ o. IfSome o (λ row. (w : WorldState) → told ≡ Some w → row ≡ drawn scene.offset most_values (meaning w scene plan)) in
    row_drawn told scene c.args.property.now plan c.in-Some.drawn _ c.requires.scene (subst P (c.as_bytes.ensures.value ∙ c.as_str.ensures) c.in-Ok.ensures)
    (subst W c.in-Some.is c.in_ok-drawn.ensures.within) c.in_ok-copy.ensures (to_z-of_z w64 c.scene.inside.moment fits ∙ ap (λ (s : Scene). s.moment) c.scene.view_is) refl refl
    (subst D c.in-Some.is c.in_ok-drawn.ensures.drawn)
