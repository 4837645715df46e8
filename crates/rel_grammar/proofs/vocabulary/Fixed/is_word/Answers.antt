use Rattle.rel_grammar.proofs.WordShapes.{reserved_test, helper_test}
use Rattle.rel_grammar.proofs.vocabulary.Fixed.is_word.Goals as goal

pub returns-in-Reserved : goal.returns-in-Reserved
returns-in-Reserved c = rw c.in-Reserved.is (reserved_test c.args.word.now c.spelling.result.now c.in-Reserved.reserved c.eq.result c.eq.ensures c.spelling.ensures)

pub returns-in-Helper : goal.returns-in-Helper
returns-in-Helper c = rw c.in-Helper.is (helper_test c.args.word.now c.spelling-in-Helper.result.now c.in-Helper.helper c.eq-in-Helper.result c.eq-in-Helper.ensures c.spelling-in-Helper.ensures)
