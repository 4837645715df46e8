use Rattle.rel_grammar.specs.Answers.{IsTreeOf}
use Rattle.rel_grammar.specs.Views.{shown}
use Rattle.rel_eval.proofs.Untyped.{of_tree}
use Rattle.rel_eval.proofs.question.prepare.Goals as goal

pub returns : goal.returns
returns c =
    let read = c.in_ok-tree.ensures.found in
    let is : IsTreeOf c.args.text.now (shown c.in_ok-tree.tree) = record { tokens = c.in_ok-tokens.tokens; lexed = c.in_ok-tokens.ensures.tokens; question = read.0; sentence = read.1; shallow = read.2; tree_is = read.3 } in
    of_tree c.args.text.now (shown c.in_ok-tree.tree) c.prepare_tree.result is c.prepare_tree.ensures
