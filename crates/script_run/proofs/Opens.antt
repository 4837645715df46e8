-- A run at its beginning does what its script does.
use Rattle.std.proofs.Common.{◌≡◌, List, [], ◌∷◌, sym, ap, ◌∙◌}
use Rattle.rel_sources.specs.declared.pair.Pair.{Pair}
use Rattle.rel_sources.specs.declared.scene.Scene.{Scene}
use Rattle.script_text.specs.declared.prefetch.Prefetch.{Prefetch}
use Rattle.script_text.specs.declared.script.Script.{Script}
use Rattle.script_text.specs.declared.tree.Statement.{Statement}
use Rattle.script_text.specs.Trees.{Statements, no_statements}
use Rattle.script_text.specs.Views.{shown_statements, statement_items}
use Rattle.script_text.specs.Readings.{shown_script}
use Rattle.script_run.specs.declared.todo.Todo.{Todo}
use Rattle.script_run.specs.Walks.{Known, Settled, Rest, ending}
use Rattle.script_run.specs.ScriptWalks.{walk_all, fetch_all, given_known, after}
use Rattle.script_run.specs.RunPlaces.{statements_walk, todo_walk, todos_walk}
use Rattle.script_run.specs.Asking.{known_in}
use Rattle.script_run.proofs.Trees.{StatementsShowEach, walk_listed}

pub opens : StatementsShowEach → (script : Script) (given : List Pair) (fetches : List Prefetch) (todo : Todo) (statements : List Statement) (later : List Todo) (scene : Scene) →
    fetches ≡ script.prefetches → later ≡ todo ∷ [] → ((rest : Rest) → todo_walk todo rest ≡ statements_walk statements rest) → statements ≡ statement_items script.statements → known_in scene ≡ given_known given →
    (more : List Settled) → after (shown_script script) given [] more ≡ fetch_all fetches (todos_walk later) (known_in scene) more
opens show_each script given fetches todo statements later scene f l t s k more =
    let whole : walk_all (shown_statements script.statements) ending ≡ todos_walk later =
    (ap (λ (x : Statements). walk_all x ending) (show_each script.statements)
    ∙ walk_listed no_statements (statement_items script.statements) ending
    ∙ ap (λ (x : List Statement). statements_walk x ending) (sym s)
    ∙ sym (t ending)
    ∙ ap todos_walk (sym l)) in
    ap (λ (w : Rest). fetch_all script.prefetches w (given_known given) more) whole
    ∙ ap (λ (x : List Prefetch). fetch_all x (todos_walk later) (given_known given) more) (sym f)
    ∙ ap (λ (x : Known). fetch_all fetches (todos_walk later) x more) (sym k)
