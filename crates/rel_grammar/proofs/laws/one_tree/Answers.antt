use Rattle.rel_grammar.proofs.OneTree.{tree_is_one}
use Rattle.rel_grammar.proofs.laws.one_tree.Goals as goal

pub returns : goal.returns
returns c = tree_is_one
