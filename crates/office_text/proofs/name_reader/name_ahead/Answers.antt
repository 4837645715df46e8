use Rattle.office_text.proofs.NameLemmas.{name_found}
use Rattle.office_text.proofs.name_reader.name_ahead.Goals as goal

pub returns : goal.returns
returns c = name_found c.args.word.now c.in_ok-rest_ahead.field-0.now c.in_ok-rest_ahead.ensures.0 c.args.lines.now c.read_name.result c.in_ok-rest_ahead.ensures.1 c.read_name.ensures
