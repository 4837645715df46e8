use Rattle.std.proofs.Common.{◌≡◌, ℕ, ℤ, ◌-ℤ◌, List, Option, Some, FitsSigned, of_z, to_z, w64, rules, sym, ap, subst, ◌∙◌}
use Rattle.std.specs.Int.Signed.{le_z}
use Rattle.std.proofs.lemmas.Int.{to_z-of_z}
use Rattle.bf_world.specs.Maps.{at}
use Rattle.desk_base.specs.Moments.{IsMoment}
use Rattle.rel_sources.specs.declared.scene.Scene.{Scene}
use Rattle.group_sample.specs.Due.{is_over}
use Rattle.group_sample.proofs.MeasureLemmas.{difference_fits, found_moment, moment_fits, over_is}
use Rattle.group_sample.proofs.moments.is_due.Goals as goal

pub overflow_sub-result : goal.overflow_sub-result
overflow_sub-result c =
    let moment : ℤ = c.scene.inside.moment in
    let last : ℤ = c.in-Some.last.now in
    let is : IsMoment last = found_moment c.as_str.result.now c.args.moments.now last c.requires c.in-Some.ensures in
    let F : ℤ → Type 0 = FitsSigned w64 in
    subst F (λ i. sym (to_z-of_z w64 moment (moment_fits moment c.scene.invariant.is_moment)) i -ℤ sym (to_z-of_z w64 last (moment_fits last is)) i)
    (difference_fits moment last c.scene.invariant.is_moment is)

pub returns-in-Some : goal.returns-in-Some
returns-in-Some c =
    let moment : ℤ = c.scene.inside.moment in
    let last : ℤ = c.in-Some.last.now in
    let period : ℤ = c.args.property.now.period in
    let is : IsMoment last = found_moment c.as_str.result.now c.args.moments.now last c.requires c.in-Some.ensures in
    let same : moment ≡ c.args.scene.now.moment = ap (λ (s : Scene). s.moment) c.scene.view_is in
    let apart : to_z w64 (of_z w64 moment) -ℤ to_z w64 (of_z w64 last) ≡ moment -ℤ last =
    (λ i. to_z-of_z w64 moment (moment_fits moment c.scene.invariant.is_moment) i -ℤ to_z-of_z w64 last (moment_fits last is) i) in
    let whole = to_z-of_z w64 (to_z w64 (of_z w64 moment) -ℤ to_z w64 (of_z w64 last)) (overflow_sub-result c) ∙ apart in
    let fits : FitsSigned w64 period = search rules in
    let found : Some last ≡ at c.args.property.now.name c.args.moments.now = c.in-Some.ensures ∙ ap (λ (k : List ℕ). at k c.args.moments.now) c.as_str.ensures in
    (λ i. le_z (to_z-of_z w64 period fits i) (whole i)) ∙ over_is last period moment ∙ ap (λ (o : Option ℤ). is_over o period moment) found
    ∙ ap (λ (z : ℤ). is_over (at c.args.property.now.name c.args.moments.now) period z) same
