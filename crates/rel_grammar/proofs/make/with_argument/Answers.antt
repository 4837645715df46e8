use Rattle.std.proofs.Common.{ap, ◌∙◌, None, Some}
use Rattle.rel_grammar.specs.Trees.{phrase, no_tree, a_tree}
use Rattle.rel_grammar.specs.Views.{shown}
use Rattle.rel_grammar.specs.Reads.{own_to}
use Rattle.rel_grammar.proofs.Shown.{shown-Phrase}
use Rattle.rel_grammar.proofs.make.with_argument.Goals as goal

pub returns : goal.returns
returns c =
    shown-Phrase (record { from = c.args.place.from; to = c.own_end.result }) c.args.words (Some c.in_ok-new.field-0) None None
    ∙ ap (λ n. phrase (record { from = c.args.place.from; to = n }) c.args.words (a_tree (shown c.in_ok-new.field-0.value)) no_tree no_tree) c.own_end.ensures
    ∙ ap (λ t. phrase (record { from = c.args.place.from; to = own_to (shown c.args.argument) }) c.args.words (a_tree (shown t)) no_tree no_tree) c.in_ok-new.ensures.ok
