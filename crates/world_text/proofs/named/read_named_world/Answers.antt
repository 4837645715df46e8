use Rattle.std.proofs.Common.{ℕ, true, sym, ap, subst}
use Rattle.line_forms.specs.BadLines.{AnswersBadLine}
use Rattle.line_forms.specs.LineStates.{LineState}
use Rattle.world_text.specs.Texts.{AreNamedLines}
use Rattle.world_text.specs.Readings.{HasOtherName}
use Rattle.world_text.proofs.NamedLemmas.{named_read, other_named}
use Rattle.world_text.proofs.named.read_named_world.Goals as goal

pub returns-then-has_other_name : goal.returns-then-has_other_name
returns-then-has_other_name c =
    let Other : LineState → Type 0 = λ s. HasOtherName c.args.name.now s c.has_other_name.new.lines true in
    subst (λ (n : ℕ). AnswersBadLine (AreNamedLines c.args.name.now) c.args.text.now n) (sym c.number.ensures)
    (other_named c.args.name.now c.args.text.now c.has_other_name.new.lines c.requires (subst Other c.new-lines.ensures c.if-has_other_name.ensures))

pub returns : goal.returns
returns c =
    named_read c.args.name.now c.args.text.now c.new-lines.result c.has_other_name.new.lines c.read_world.result c.requires (ap (λ (s : LineState). s.lines) c.new-lines.ensures)
    c.if-has_other_name.ensures c.read_world.ensures
