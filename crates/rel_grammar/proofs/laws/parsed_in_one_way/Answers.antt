use Rattle.rel_grammar.proofs.OneAnswer.{one_answer}
use Rattle.rel_grammar.proofs.laws.parsed_in_one_way.Goals as goal

pub returns : goal.returns
returns c = one_answer
