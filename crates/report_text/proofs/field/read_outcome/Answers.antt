use Rattle.std.proofs.lemmas.Bool.{iff_false}
use Rattle.report_text.proofs.FieldLemmas.{no_word}
use Rattle.report_text.proofs.field.read_outcome.Goals as goal

pub returns : goal.returns
returns c = λ value _ e. no_word c.args.word.now
    (iff_false c.is_word.ensures c.if-is_word.false) (iff_false c.is_word-2.ensures c.if-is_word-2.false) (iff_false c.is_word-3.ensures c.if-is_word-3.false) value e
