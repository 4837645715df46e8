use Rattle.office_text.proofs.TextLemmas.{cut_text}
use Rattle.office_text.proofs.text_reader.take_text.Goals as goal

pub returns-then-not-taken : goal.returns-then-not-taken
returns-then-not-taken c = cut_text c.args.last c.args.lines.now c.take_to.new.lines c.in_ok-taken.taken.text c.in_ok-taken.taken.ended c.if-not-taken.true c.in_ok-taken.ensures
