use Rattle.std.proofs.Common.{List, ◌∷◌, refl, ap, ◌∙◌}
use Rattle.script_run.specs.declared.todo.Todo.{Todo}
use Rattle.script_run.specs.declared.todo.Todo.TheVariants.{Statements}
use Rattle.script_run.specs.Asking.{known_in}
use Rattle.script_run.proofs.Opens.{opens}
use Rattle.script_run.proofs.run.Run.open.Goals as goal

pub returns-clause-stands : goal.returns-clause-stands
returns-clause-stands c =
    opens c.statements_show_each.ensures c.args.script c.args.parameters c.from-2.result.items (Statements c.from.result) c.from.result.items c.push_front.new.self.items c.in_ok-kept.kept.scene
    (c.from-2.ensures.0 ∙ c.into_vec-2.ensures)
    (c.in_ok-push_front.ensures.items ∙ ap (λ (l : List Todo). Statements c.from.result ∷ l) c.new-later.ensures.items)
    (λ rest. refl) (c.from.ensures.0 ∙ c.into_vec.ensures) (ap known_in c.in_ok-kept.ensures)
