use Rattle.rel_lexer.proofs.Closing.{takes_comment, open_comment_fault}
use Rattle.rel_lexer.proofs.comment.read_comment.Goals as goal

pub returns-in-Some : goal.returns-in-Some
returns-in-Some c = takes_comment c.args.bytes.now c.in-Some.rest.now c.in-Some.ensures

pub returns-in-None : goal.returns-in-None
returns-in-None c = open_comment_fault c.args.at c.args.bytes.now c.of_bytes.result c.in-None.ensures c.of_bytes.ensures
