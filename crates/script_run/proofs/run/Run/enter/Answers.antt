use Rattle.std.proofs.Common.{refl, ap, ◌∙◌}
use Rattle.script_run.specs.Asking.{known_in}
use Rattle.script_run.specs.RunPlaces.{todo_walk}
use Rattle.script_run.specs.Weights.{todo_weight}
use Rattle.script_run.proofs.Choices.{pushed_first, entered_walk, entered_weight}
use Rattle.script_run.proofs.run.Run.enter.Goals as goal

pub returns : goal.returns
returns c =
    let self = c.args.self.now in
    let pushed = pushed_first _ _ _ _ c.push_front.ensures.items (c.push_front.ensures.succeeds c.requires.room) in
    record {
      walk = λ more.
          entered_walk c.statements_show_each.ensures self.place self.current c.replace-todo.result c.replace-todo.new.dest c.from-list.result.items self.later.items c.push_front.new.self.items c.args.body
          (known_in self.kept.scene) more c.requires.ready (λ rest. ap (λ t. todo_walk t rest) c.replace-todo.ensures.after) (c.from-list.ensures.0 ∙ c.into_vec.ensures) pushed c.replace-todo.ensures.value;
      weight =
          entered_weight c.statements_show_each.ensures self.place self.current c.replace-todo.result c.replace-todo.new.dest c.from-list.result.items self.later.items c.push_front.new.self.items c.args.body
          c.requires.ready (ap todo_weight c.replace-todo.ensures.after) (c.from-list.ensures.0 ∙ c.into_vec.ensures) pushed c.replace-todo.ensures.value;
      ready = c.requires.ready;
      kept = refl;
    }
