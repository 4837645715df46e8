use Rattle.std.proofs.Common.{◌≡◌, ◌+◌, ◌<◌, List, filter, arith, sym, ap, subst, ◌∙◌}
use Rattle.line_forms.specs.Numbers.{last_id}
use Rattle.group_text.specs.declared.property.Property.{Property}
use Rattle.group_sample.specs.declared.sample.Sampled.{Sampled}
use Rattle.group_sample.specs.Due.{AnalystState, AreMoments, is_due, with_rows}
use Rattle.group_sample.specs.Rows.{IsRowOf}
use Rattle.group_sample.specs.Samples.{Measures}
use Rattle.group_sample.proofs.MeasureLemmas.{are_rows, rows_moments}
use Rattle.group_sample.proofs.analyst.Analyst.sample.Goals as goal

pub invariant_of-self : goal.invariant_of-self
invariant_of-self g c =
    let moment = c.args.scene.now.moment in
    let IsRow : Property → Sampled → Type 0 = IsRowOf (g.M.Machine.told c.args.machine.now).world moment c.args.scene.now.offset in
    let L : AnalystState → Type 0 = λ a. a.last < last_id in
    let left : c.self.inside.last < last_id = subst L (sym c.self.view_is) c.requires.some.left in
    let M : List Sampled → Type 0 = λ rows. AreMoments (with_rows rows c.self.inside.moments) in
    record {
      number = omega (arith, left);
      rows = subst AreMoments (sym c.in_ok-moments.ensures) (subst M (sym c.as_slice.ensures.value)
          (rows_moments IsRow moment (λ p row is. is.at_moment) c.requires.moment (filter (is_due c.self.inside.moments moment) c.args.properties.now) c.in_ok-measured.measured.rows.items
          c.in_ok-measured.measured.failed c.in_ok-measured.ensures.measures c.self.inside.moments c.self.invariant.rows));
    }

pub returns-clause-gives : goal.returns-clause-gives
returns-clause-gives g c =
    let moment = c.args.scene.now.moment in
    let IsRow : Property → Sampled → Type 0 = IsRowOf (g.M.Machine.told c.args.machine.now).world moment c.args.scene.now.offset in
    let failed = c.in_ok-measured.measured.failed in
    let D : AnalystState → Type 0 = λ a. Measures IsRow (filter (is_due a.moments moment) c.args.properties.now) c.in_ok-measured.measured.rows.items failed in
    let measured = subst D c.self.view_is c.in_ok-measured.ensures.measures in
    let R : List Sampled → Type 0 = λ rows. Measures IsRow (filter (is_due c.args.self.now.moments moment) c.args.properties.now) rows failed in
    let rows : R c.from_vec.result = subst R (sym c.from_vec.ensures) measured in
    let same : c.as_slice.result.now ≡ c.from_vec.result = c.as_slice.ensures.value ∙ sym c.from_vec.ensures in
    let after : c.in_ok-moments.moments ≡ with_rows c.from_vec.result c.args.self.now.moments = c.in_ok-moments.ensures ∙ (λ i. with_rows (same i) (c.self.view_is i).moments) in
    record {
      some = c.requires.some;
      computer = c.in_ok-computer.ensures ∙ ap (λ (a : AnalystState). a.computer) c.self.view_is;
      seq = ap (λ (a : AnalystState). a.last + 1) c.self.view_is;
      rows = rows;
      good = are_rows IsRow (λ p row is. is.property) (is_due c.args.self.now.moments moment) c.args.properties.now c.from_vec.result failed c.requires.properties rows;
      counts = c.in_ok-measured.ensures.counts;
      after_is = λ i. record { computer = (c.self.view_is i).computer; last = c.self.inside.last + 1; moments = after i };
    }
