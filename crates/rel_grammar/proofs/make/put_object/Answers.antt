use Rattle.std.proofs.Common.{refl}
use Rattle.rel_grammar.specs.Views.{shown}
use Rattle.rel_grammar.proofs.Shown.{object-Phrase, object-Body, other-object}
use Rattle.rel_grammar.proofs.make.put_object.Goals as goal

pub returns-in-Phrase : goal.returns-in-Phrase
returns-in-Phrase c = object-Phrase c.in-Phrase.place c.in-Phrase.words c.in-Phrase.argument c.in-Phrase.filter c.in-Phrase.object c.args.object c.args.head c.args.object.value c.in-Phrase.is refl

pub returns-in-Body : goal.returns-in-Body
returns-in-Body c = object-Body c.in-Body.place c.in-Body.body c.in-Body.filter c.in-Body.object c.args.object c.args.head c.args.object.value c.in-Body.is refl

pub returns-in_default : goal.returns-in_default
returns-in_default c = other-object c.args.head (shown c.args.object.value) c.in_default.not-Phrase c.in_default.not-Body
