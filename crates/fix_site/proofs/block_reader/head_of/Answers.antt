use Rattle.std.specs.Prelude.{decimal}
use Rattle.line_forms.specs.Numbers.{IsId}
use Rattle.line_forms.proofs.Passing.{not_spelled}
use Rattle.fix_site.proofs.block_reader.head_of.Goals as goal

pub returns-in_default-read_id : goal.returns-in_default-read_id
returns-in_default-read_id c = λ id more is e.
    not_spelled IsId decimal c.args.lines.now c.args.word.now c.in-Some.field.now c.in-Some.ensures.0 c.in-Some.ensures.1 c.in_default-read_id.ensures id more is e
