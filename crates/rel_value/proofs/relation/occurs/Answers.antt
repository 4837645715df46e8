use Rattle.std.proofs.lemmas.Str.Pattern.{contains_text}
use Rattle.rel_value.proofs.Relations.{occurs-is}
use Rattle.rel_value.proofs.relation.occurs.Goals as goal

pub returns : goal.returns
returns c =
    occurs-is c.args.part.now c.args.text.now c.contains.result (contains_text c.contains.result c.args.part.now c.args.text.now c.contains.ensures.cases)
