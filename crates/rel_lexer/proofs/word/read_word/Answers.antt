use Rattle.rel_lexer.proofs.Taking.{takes_word}
use Rattle.rel_lexer.proofs.word.read_word.Goals as goal

pub returns : goal.returns
returns c = λ at. rw c.in_ok-lower_case.ensures (takes_word c.args.bytes.now c.split_run.result.0.now c.split_run.result.1.now c.requires c.split_run.ensures)
