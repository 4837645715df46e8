use Rattle.std.proofs.Common.{ap, ◌∙◌}
use Rattle.script_run.specs.Walks.{Rest}
use Rattle.script_run.proofs.Trees.{walk_if, weight_if}
use Rattle.script_run.proofs.todo.before.Goals as goal

pub returns-in-If-clause-walk : goal.returns-in-If-clause-walk
returns-in-If-clause-walk c = λ rest known more.
    ap (λ (r : Rest). r known more) (walk_if c.arms_show_each.ensures c.a_statement_shows_its_parts.ensures.choice c.args.statement c.in-If.arms c.in-If.other c.from.result.items rest c.in-If.is (c.from.ensures.0 ∙ c.into_vec.ensures))

pub returns-in-If-clause-weight : goal.returns-in-If-clause-weight
returns-in-If-clause-weight c = weight_if c.arms_show_each.ensures c.a_statement_shows_its_parts.ensures.choice c.args.statement c.in-If.arms c.in-If.other c.from.result.items c.in-If.is (c.from.ensures.0 ∙ c.into_vec.ensures)
