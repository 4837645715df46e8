use Rattle.std.proofs.Common.{Bool, subst}
use Rattle.line_forms.specs.Readers.{TakesExactly}
use Rattle.world_text.specs.Readings.{end_line}
use Rattle.world_text.proofs.PassLemmas.{body_unended}
use Rattle.world_text.proofs.read.read_body.Goals as goal

pub returns-then-not-take_exactly : goal.returns-then-not-take_exactly
returns-then-not-take_exactly c =
    let P : Bool → Type 0 = λ b. TakesExactly end_line c.read_rows.new.lines c.take_exactly.new.self b in
    let r = c.in_ok-read_rows.ensures in
    body_unended c.args.draft.now c.read_rows.new.draft c.read_rows.new.draft c.args.lines.now c.read_rows.new.lines c.take_exactly.new.self r.0 r.2
    (subst P c.if-not-take_exactly.true c.take_exactly.ensures)
