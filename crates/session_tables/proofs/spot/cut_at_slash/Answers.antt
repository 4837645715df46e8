use Rattle.session_tables.proofs.Spots.{cut_text}
use Rattle.session_tables.proofs.spot.cut_at_slash.Goals as goal

pub returns : goal.returns
returns c = cut_text c.args.text.now c.split_once.result c.split_once.ensures.cases
