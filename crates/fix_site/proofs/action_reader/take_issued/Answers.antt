use Rattle.std.proofs.Common.{rules, SFits, w64}
use Rattle.std.specs.Prelude.{codes}
use Rattle.std.specs.Fmt.{signed_decimal}
use Rattle.std.proofs.lemmas.Int.{to_z-of_z}
use Rattle.line_forms.proofs.Passing.{takes_rest}
use Rattle.fix_site.proofs.action_reader.take_issued.Goals as goal

pub returns : goal.returns
returns c =
    let fits : SFits w64 c.in_ok-issued.issued = search rules in
    simp to_z-of_z (c.in_ok-issued.ensures.0.0, takes_rest c.args.lines.now c.skip_line.new.self (codes "issued") c.in_ok-rest_ahead.field-0.now (signed_decimal c.in_ok-issued.issued) c.in_ok-rest_ahead.ensures.0 c.in_ok-rest_ahead.ensures.1 c.in_ok-issued.ensures.0.1 c.skip_line.ensures)
