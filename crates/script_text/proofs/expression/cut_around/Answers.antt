use Rattle.std.proofs.lemmas.Str.{IsCharBoundary-after_ascii}
use Rattle.script_text.proofs.expression.cut_around.Goals as goal

pub split_at-requires-2 : goal.split_at-requires-2
split_at-requires-2 c = IsCharBoundary-after_ascii c.args.text.now c.args.at c.utf8.text c.requires.at_byte c.requires.ascii
