use Rattle.rel_lexer.proofs.WordLemmas.{word_utf8}
use Rattle.rel_lexer.proofs.word.lower_case.Goals as goal

pub unreachable-requires : goal.unreachable-requires
unreachable-requires c = c.in-Err.ensures.cases.0 (word_utf8 c.args.word.now c.requires)
