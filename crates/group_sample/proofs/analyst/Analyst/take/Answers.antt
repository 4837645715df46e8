use Rattle.std.proofs.Common.{◌≡◌, ◌<◌, ℤ, Bool, true, false, List, inl, of_z, to_z, w64, refl, sym, subst, ◌∙◌}
use Rattle.std.specs.List.{list_any}
use Rattle.std.proofs.lemmas.Int.{to_z-of_z}
use Rattle.desk_base.specs.Moments.{IsMoment}
use Rattle.line_forms.specs.Numbers.{last_id}
use Rattle.group_text.specs.declared.property.Property.{Property}
use Rattle.group_sample.specs.Due.{AnalystState, due_of, is_due}
use Rattle.group_sample.specs.Samples.{HasSome}
use Rattle.group_sample.proofs.MeasureLemmas.{none_due, some_due}
use Rattle.group_sample.proofs.analyst.Analyst.take.Goals as goal

-- something is due, as what an analyst keeps says
some_is : (inside analyst : AnalystState) (moment : ℤ) (ps : List Property) (any : Bool) → inside ≡ analyst → any ≡ list_any (is_due inside.moments moment) ps → any ≡ true → inside.last < last_id
    → HasSome analyst (due_of analyst moment ps)
some_is inside analyst moment ps any same is due left =
    let A : AnalystState → Type 0 = λ a. list_any (is_due a.moments moment) ps ≡ true in
    let L : AnalystState → Type 0 = λ a. a.last < last_id in
    record { any = some_due (is_due analyst.moments moment) ps (subst A same (sym is ∙ due)); left = subst L same left }

pub returns-then-not-is_any_due-clause-takes : goal.returns-then-not-is_any_due-clause-takes
returns-then-not-is_any_due-clause-takes g c =
    let moment : ℤ = c.args.moment in
    let ps : List Property = c.args.properties.now in
    let A : AnalystState → Type 0 = λ a. list_any (is_due a.moments (to_z w64 (of_z w64 moment))) ps ≡ false in
    let M : ℤ → Type 0 = λ m. list_any (is_due c.args.self.now.moments m) ps ≡ false in
    let none : list_any (is_due c.args.self.now.moments moment) ps ≡ false =
    subst M (to_z-of_z w64 moment c.ranges.moment) (subst A c.self.view_is (sym c.is_any_due.ensures ∙ c.if-not-is_any_due.true)) in
    (inl (none_due (is_due c.args.self.now.moments moment) ps none), refl, refl)

pub sample-requires-clause-some : goal.sample-requires-clause-some
sample-requires-clause-some g c =
    some_is (record { computer = c.self.inside.computer; last = c.self.inside.last; moments = c.self.inside.moments }) c.args.self.now (to_z w64 (of_z w64 c.args.moment)) c.args.properties.now c.is_any_due.result
    c.self.view_is c.is_any_due.ensures c.if-not-is_any_due.false c.if-self-ge-LAST_ID.false

pub sample-requires-clause-moment : goal.sample-requires-clause-moment
sample-requires-clause-moment g c = subst IsMoment (sym (to_z-of_z w64 c.args.moment c.ranges.moment)) c.requires.moment

pub returns-clause-takes : goal.returns-clause-takes
returns-clause-takes g c =
    let H : ℤ → Type 0 = λ m. HasSome c.args.self.now (due_of c.args.self.now m c.args.properties.now) in (
      subst H (to_z-of_z w64 c.args.moment c.ranges.moment)
          (some_is (record { computer = c.self.inside.computer; last = c.self.inside.last; moments = c.self.inside.moments }) c.args.self.now (to_z w64 (of_z w64 c.args.moment)) c.args.properties.now c.is_any_due.result
          c.self.view_is c.is_any_due.ensures c.if-not-is_any_due.false c.if-self-ge-LAST_ID.false),
      c.in-Err.ensures.err,
    )
