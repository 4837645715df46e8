use Rattle.std.proofs.Common.{◌≡◌, List, ap, sym, subst, ◌∙◌}
use Rattle.std.specs.Prelude.{IsSomeAnd, IsTrue, ◌↔◌, Some}
use Rattle.fix_site.specs.declared.action.Action.{Action}
use Rattle.act_rules.specs.declared.row.Row.{Row}
use Rattle.agent_text.specs.Histories.{rows_at}
use Rattle.agent_attempt.specs.ReadBlocks.{shown_block}
use Rattle.agent_attempt.specs.ActionContents.{as_action}
use Rattle.agent_attempt.specs.Relevance.{MayBegin}
use Rattle.agent_state.proofs.RowsAt.{found_rows}
use Rattle.agent_core.proofs.kept_state.KeptState.may_try.Goals as goal

pub returns : goal.returns
returns c =
    let action : Action = c.in-Action.action in
    let rows = c.rows_of-rows.ensures.value ∙ found_rows c.rows_near.result (rows_at c.action.result.now.id c.args.marked.now) c.rows_near.ensures.value ∙ ap (λ (a : Action). rows_at a.id c.args.marked.now) c.action.ensures in
    let is : as_action (shown_block c.args.block.now) ≡ Some action = ap (λ b. as_action (shown_block b)) c.in-Action.is in
    subst (λ o. IsTrue c.may_begin.result ↔ IsSomeAnd o (λ (a : Action). MayBegin c.args.time.now a (rows_at a.id c.args.marked.now))) (sym is)
    (subst (λ (l : List Row). IsTrue c.may_begin.result ↔ MayBegin c.args.time.now action l) rows c.may_begin.ensures)
