use Rattle.std.proofs.Common.{◌≡◌, ◌∙◌, ◌-◌, ◌+◌, ◌<◌, ap, sym, subst, refl, arith, List, length, Some, None, SFits, w64}
use Rattle.std.proofs.lemmas.Int.{to_z-of_z}
use Rattle.act_rules.specs.declared.row.Row.{Row}
use Rattle.act_rules.specs.Rows.{IsRows, RowsState, with_last}
use Rattle.act_rules.proofs.RowLemmas.{rows_with_last, set_last, last_some}
use Rattle.act_rules.proofs.rows.Rows.end.Goals as goal

pub returns-clause-rows : goal.returns-clause-rows
returns-clause-rows c =
    let f : SFits w64 c.args.moment = c.ranges.moment in
    let rows : List Row = c.self.inside.list.items in
    let same = ap (λ (s : RowsState). s.rows) c.self.view_is in
    let change = λ (row : Row). record row { end = Some (c.args.moment, c.args.outcome); note = c.args.note } in
    let some : 0 < length rows = last_some rows (λ row. row.end ≡ None) (rw same c.requires.running) in
    let i : c.len-last.result - 1 + 1 ≡ length rows = omega (arith, c.len-last.ensures, some) in
    simp to_z-of_z (set_last rows (c.len-last.result - 1) c.index_mut-row.result.now change i (sym c.index_mut-row.ensures.value)
    ∙ ap (λ r. with_last r change) same)

pub invariant_of-self : goal.invariant_of-self
invariant_of-self c =
    let P : List Row → Type 0 = λ r. IsRows r in
    let same = ap (λ (s : RowsState). s.rows) c.self.view_is in
    subst P (sym (returns-clause-rows c)) (rows_with_last c.args.self.now.rows _ (λ row. refl) (λ row h. (h.0, c.requires.moment, h.2)) (rw (← same) c.self.invariant))
