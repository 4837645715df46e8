use Rattle.rel_grammar.proofs.Shown.{shown-Phrase}
use Rattle.session_words.proofs.replace.Phrase.into_tree.Goals as goal

pub returns : goal.returns
returns c = shown-Phrase c.args.self.place c.args.self.words c.args.self.argument c.args.self.filter c.args.self.object
