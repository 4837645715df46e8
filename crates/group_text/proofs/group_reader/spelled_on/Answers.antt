use Rattle.group_text.proofs.TestLines.{no_word}
use Rattle.group_text.proofs.group_reader.spelled_on.Goals as goal

pub returns-in_default-after_word-2 : goal.returns-in_default-after_word-2
returns-in_default-after_word-2 c = no_word c.args.line.now c.in_default.ensures c.in_default-after_word.ensures c.in_default-after_word-2.ensures
