use Rattle.rel_grammar.specs.Views.{shown}
use Rattle.rel_grammar.proofs.Naming.{casts_none, casts_some}
use Rattle.rel_grammar.proofs.words.casts.Goals as goal

pub returns-in_ok-cast-in-Some : goal.returns-in_ok-cast-in-Some
returns-in_ok-cast-in-Some c = λ x e. casts_some x _ (shown c.args.first) c.in-Some.list _ (shown c.in_ok-cast-in-Some.field-0) e ((rw c.in-Some.is at c.in_ok-list.ensures) x) c.in_ok-cast-in-Some.ensures

pub returns-in-None : goal.returns-in-None
returns-in-None c = λ x e. casts_none x _ (shown c.args.first) e (rw c.in-None.is at c.in_ok-list.ensures)
