use Rattle.session_words.proofs.Rewritings.{no_rewriting, some_rewriting}
use Rattle.session_words.proofs.rewriting.rewriting_of.Goals as goal

pub returns-in-Some : goal.returns-in-Some
returns-in-Some c = some_rewriting c.args.words.now c.rows.result.now c.row_of.result c.in-Some.row c.rows.ensures c.in-Some.is c.row_of.ensures

pub returns-in-None : goal.returns-in-None
returns-in-None c = no_rewriting c.args.words.now c.rows.result.now c.row_of.result c.rows.ensures c.in-None.is c.row_of.ensures
