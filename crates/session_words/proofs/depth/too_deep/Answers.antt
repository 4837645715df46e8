use Rattle.std.proofs.Common.{◌∙◌}
use Rattle.rel_grammar.specs.Views.{shown}
use Rattle.session_words.proofs.Deepness.{in_is}
use Rattle.session_words.proofs.depth.too_deep.Goals as goal

pub returns : goal.returns
returns c = c.first_in.ensures ∙ in_is 0 (shown c.args.tree.now)
