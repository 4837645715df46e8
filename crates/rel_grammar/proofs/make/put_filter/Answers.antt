use Rattle.std.proofs.Common.{refl}
use Rattle.rel_grammar.specs.Views.{shown}
use Rattle.rel_grammar.proofs.Shown.{filter-Phrase, filter-Body, other-filter}
use Rattle.rel_grammar.proofs.make.put_filter.Goals as goal

pub returns-in-Phrase : goal.returns-in-Phrase
returns-in-Phrase c = filter-Phrase c.in-Phrase.place c.in-Phrase.words c.in-Phrase.argument c.in-Phrase.filter c.in-Phrase.object c.args.filter c.args.head c.args.filter.value c.in-Phrase.is refl

pub returns-in-Body : goal.returns-in-Body
returns-in-Body c = filter-Body c.in-Body.place c.in-Body.body c.in-Body.filter c.in-Body.object c.args.filter c.args.head c.args.filter.value c.in-Body.is refl

pub returns-in_default : goal.returns-in_default
returns-in_default c = other-filter c.args.head (shown c.args.filter.value) c.in_default.not-Phrase c.in_default.not-Body
