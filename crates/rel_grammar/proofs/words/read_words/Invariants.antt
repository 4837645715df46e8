use Rattle.std.proofs.Common.{◌≡◌, length}
use Rattle.rel_grammar.specs.Shapes.{AnyWord, word_spelling, all_shaped}
use Rattle.rel_grammar.specs.Reads.{WordsRead}
use Rattle.rel_grammar.proofs.words.read_words.Given as goal

abbrev pub invariant-loop-last : goal.invariant-loop-last
invariant-loop-last l = (w : AnyWord) → l.fn.first ≡ word_spelling w → WordsRead w l.fn.place (all_shaped l.fn.rest) l.text l.place (all_shaped l.left)

abbrev pub decreases-loop-last : goal.decreases-loop-last
decreases-loop-last l = length (all_shaped l.left)
