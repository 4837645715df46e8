use Rattle.std.specs.Prelude.{codes}
use Rattle.hex.specs.Hex.{encode_lower}
use Rattle.line_forms.proofs.Passing.{takes_rest}
use Rattle.fix_site.proofs.site_reader.take_digest.Goals as goal

pub returns : goal.returns
returns c =
    ((c.in_ok-digest.ensures.0.0, c.in_ok-digest.ensures.0.1), takes_rest c.args.lines.now c.skip_line.new.self (codes "digest") c.in_ok-rest_ahead.field-0.now (encode_lower c.in_ok-digest.digest) c.in_ok-rest_ahead.ensures.0 c.in_ok-rest_ahead.ensures.1 c.in_ok-digest.ensures.0.2 c.skip_line.ensures)
