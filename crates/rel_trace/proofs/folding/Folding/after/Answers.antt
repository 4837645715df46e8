-- The value that comes goes on as `go_on` says.
use Rattle.rel_trace.specs.Folds.{more}
use Rattle.rel_trace.specs.Ones.{fold_left}
use Rattle.rel_trace.specs.Scopes.{lent}
use Rattle.rel_trace.proofs.Folds.{folding-goes}
use Rattle.rel_trace.proofs.Follows.{given-failed}
use Rattle.rel_trace.proofs.folding.Folding.after.Goals as goal

pub returns-in-Given-clause-goes : goal.returns-in-Given-clause-goes
returns-in-Given-clause-goes c = λ l l' t t' h.
    folding-goes c.args.self.now.fold c.args.self.now.place c.args.self.now.held c.take.result c.args.self.now.done (lent c.args.separator) c.in-Given.value c.args.step c.go_on.result
    (fold_left c.go_on.new.self (lent c.args.separator) t') l l' t t' c.requires c.take.ensures.value c.in-Given.is
    (c.go_on.ensures.goes (more c.args.self.now.fold (lent c.args.separator) c.take.result c.in-Given.value) (lent c.args.separator) l t' c.more-worked.ensures) h

pub returns-in-Given-clause-failed : goal.returns-in-Given-clause-failed
returns-in-Given-clause-failed c = given-failed c.args.step c.in-Given.value c.go_on.result c.in-Given.is c.go_on.ensures.failed

pub returns-in-Given-clause-room : goal.returns-in-Given-clause-room
returns-in-Given-clause-room c = λ r h. c.go_on.ensures.room r
