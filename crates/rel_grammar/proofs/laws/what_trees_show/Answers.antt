use Rattle.rel_grammar.proofs.Shown.{shown-Phrase, links-out, parts-out}
use Rattle.rel_grammar.proofs.laws.what_trees_show.Goals as goal

pub returns-clause-name : goal.returns-clause-name
returns-clause-name c = shown-Phrase

pub returns-clause-links : goal.returns-clause-links
returns-clause-links c = links-out

pub returns-clause-parts : goal.returns-clause-parts
returns-clause-parts c = parts-out
