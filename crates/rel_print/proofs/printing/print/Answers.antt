use Rattle.std.proofs.Common.{ap, ◌∙◌}
use Rattle.rel_grammar.specs.Views.{shown}
use Rattle.rel_print.specs.Written.{written}
use Rattle.rel_print.proofs.ReadsBack.{no_longer, reads_back}
use Rattle.rel_print.proofs.printing.print.Goals as goal

pub returns-clause-reads : goal.returns-clause-reads
returns-clause-reads c = λ source h. reads_back source c.write_tree.new.pen.text (shown c.args.tree.now) h (ap (λ p. p.text) (c.in_ok-write_tree.ensures ∙ ap (written (shown c.args.tree.now)) c.in_ok-pen.ensures))

pub returns-clause-no_longer : goal.returns-clause-no_longer
returns-clause-no_longer c = λ source h. no_longer source c.write_tree.new.pen.text (shown c.args.tree.now) h (ap (λ p. p.text) (c.in_ok-write_tree.ensures ∙ ap (written (shown c.args.tree.now)) c.in_ok-pen.ensures))
