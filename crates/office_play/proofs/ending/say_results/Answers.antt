use Rattle.std.proofs.Common.{◌≡◌, ◌<◌, ◌≤◌, ◌+◌, ◌^◌, List, ℕ, [], ◌∷◌, ◌++◌, length, take, arith, refl, sym, ap, subst, ◌∙◌}
use Rattle.std.specs.Prelude.{flat_map}
use Rattle.std.proofs.lemmas.List.{append_assoc, append-nil, length-take-le, take_all, take_more}
use Rattle.std.proofs.lemmas.List.Concat.{flat_map-append}
use Rattle.desk_keep.specs.declared.change.Change.{Change}
use Rattle.desk_keep.specs.declared.result_row.ResultRow.{ResultRow}
use Rattle.office_rules.specs.Endings.{results_of}
use Rattle.office_rules.specs.OfficeLines.{result_line}
use Rattle.office_play.specs.Ending.{IsSum}
use Rattle.office_play.proofs.EndLines.{few_results, results_listed, results_push}
use Rattle.office_play.proofs.ending.say_results.Goals as goal

pub loop-row-preserved : goal.loop-row-preserved
loop-row-preserved c =
    let so = c.loop-row.invariant in
    let items : List Change = c.as_slice-row-items.result.now in
    let at = c.loop-row.row-index in
    let row : Change = c.row-item.result in
    let kept : ResultRow = c.in-Result.kept in
    let out : List ℕ = c.args.out.now in
    let before : List ResultRow = results_of (take at items) in
    let within : at < length items = search (arith, c.loop-row-test.true) in
    let pushed : results_of (take (at + 1) items) ≡ before ++ kept ∷ [] =
    ap results_of (take_more items at row within ∙ ap (λ (r : Change). take at items ++ r ∷ []) (sym c.row-item.is ∙ c.in-Result.is)) ∙ results_push (take at items) kept in
    let lines : flat_map result_line (before ++ kept ∷ []) ≡ flat_map result_line before ++ result_line kept =
    flat_map-append result_line before (kept ∷ []) ∙ ap (λ l. flat_map result_line before ++ l) (append-nil (result_line kept)) in
    let few = few_results (take at items) in
    let front = length-take-le at items (omega (arith, within)) in
    let short : length before < 2 ^ 63 = omega (arith, few, front, within, c.as_slice-row-items.type_inv.1) in (
      c.in_ok-say_result.ensures ∙ ap (λ l. l ++ result_line kept) so.0 ∙ append_assoc out (flat_map result_line before) (result_line kept)
          ∙ ap (λ l. out ++ l) (sym lines) ∙ ap (λ l. out ++ flat_map result_line l) (sym pushed),
      subst (IsSum c.with_result-sum.result) (sym pushed) (c.with_result-sum.ensures before short so.1),
    )

pub returns-clause-lines : goal.returns-clause-lines
returns-clause-lines c =
    let items : List Change = c.as_slice-row-items.result.now in
    let past : length items ≤ c.loop-row.row-index = search (arith, c.loop-row-test.false) in
    let all : results_of items ≡ results_of c.args.keeper.now =
    ap results_of (c.as_slice-row-items.ensures ∙ c.in-Changes.ensures.lists.lists.2 c.args.keeper.now refl) ∙ results_listed c.args.keeper.now in
    c.loop-row.invariant.0
    ∙ ap (λ l. c.args.out.now ++ flat_map result_line l) (ap results_of (take_all c.loop-row.row-index items past) ∙ all)

pub returns-clause-sum : goal.returns-clause-sum
returns-clause-sum c =
    let items : List Change = c.as_slice-row-items.result.now in
    let past : length items ≤ c.loop-row.row-index = search (arith, c.loop-row-test.false) in
    let all : results_of items ≡ results_of c.args.keeper.now =
    ap results_of (c.as_slice-row-items.ensures ∙ c.in-Changes.ensures.lists.lists.2 c.args.keeper.now refl) ∙ results_listed c.args.keeper.now in
    subst (IsSum c.loop-row.sum) (ap results_of (take_all c.loop-row.row-index items past) ∙ all) c.loop-row.invariant.1
