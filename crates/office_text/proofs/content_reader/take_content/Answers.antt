use Rattle.std.proofs.Common.{Bool, subst}
use Rattle.std.specs.Prelude.{codes}
use Rattle.line_forms.specs.Readers.{TakesExactly}
use Rattle.office_text.proofs.TextLemmas.{cut_content, whole_content}
use Rattle.office_text.proofs.content_reader.take_content.Goals as goal

pub returns-then-not-take_exactly : goal.returns-then-not-take_exactly
returns-then-not-take_exactly c =
    let T : Bool → Type 0 = TakesExactly (codes "end") c.take_content_lines.new.lines c.take_exactly.new.self in
    let missing = subst T c.if-not-take_exactly.true c.take_exactly.ensures in
    cut_content c.args.lines.now c.take_content_lines.new.lines c.take_exactly.new.self c.in_ok-content.content c.in_ok-content.ensures missing.0 missing.1

pub returns : goal.returns
returns c =
    let T : Bool → Type 0 = TakesExactly (codes "end") c.take_content_lines.new.lines c.take_exactly.new.self in
    whole_content c.args.lines.now c.take_content_lines.new.lines c.take_exactly.new.self c.in_ok-content.content c.in_ok-content.ensures (subst T c.if-not-take_exactly.false c.take_exactly.ensures)
