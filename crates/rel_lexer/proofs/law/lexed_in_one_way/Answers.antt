use Rattle.rel_lexer.proofs.OneAnswer.{one_answer}
use Rattle.rel_lexer.proofs.law.lexed_in_one_way.Goals as goal

pub returns : goal.returns
returns c = one_answer c.args.text.now
