use Rattle.std.proofs.Common.{ap, ◌∙◌, None}
use Rattle.rel_grammar.specs.Trees.{body, no_tree}
use Rattle.rel_grammar.specs.Views.{shown}
use Rattle.rel_grammar.proofs.Shown.{shown-Body}
use Rattle.rel_grammar.proofs.make.enclosed.Goals as goal

pub returns : goal.returns
returns c = shown-Body c.args.place c.in_ok-new.field-0 None None ∙ ap (λ t. body c.args.place (shown t) no_tree no_tree) c.in_ok-new.ensures.ok
