use Rattle.std.proofs.Common.{ℕ, refl, sym, subst, ◌∙◌}
use Rattle.std.specs.Prelude.{codes, decimal}
use Rattle.line_forms.proofs.Passing.{not_spelled, takes_rest}
use Rattle.line_forms.proofs.PlainLemmas.{id_one}
use Rattle.std.proofs.lemmas.Bool.{iff_false}
use Rattle.fix_site.specs.Blocks.{HasFixlet}
use Rattle.fix_site.specs.Readings.{IsComponent}
use Rattle.fix_site.proofs.content_reader.take_component.Goals as goal

pub returns-then-not-has_fixlet : goal.returns-then-not-has_fixlet
returns-then-not-has_fixlet c =
    let P : ℕ → Type 0 = HasFixlet c.args.blocks.now in (
      refl,
      not_spelled (IsComponent c.args.blocks.now) decimal c.args.lines.now (codes "component") c.in_ok-rest_ahead.field-0.now c.in_ok-rest_ahead.ensures.0 c.in_ok-rest_ahead.ensures.1
          (λ v is e. iff_false c.has_fixlet.ensures c.if-not-has_fixlet.true (subst P (id_one v c.in_ok-id.id is.0 c.in_ok-id.ensures.0 (sym e ∙ c.in_ok-id.ensures.1)) is.1)),
    )

pub returns : goal.returns
returns c = (
  (c.in_ok-id.ensures.0, c.has_fixlet.ensures.0 c.if-not-has_fixlet.false),
  takes_rest c.args.lines.now c.skip_line.new.self (codes "component") c.in_ok-rest_ahead.field-0.now (decimal c.in_ok-id.id) c.in_ok-rest_ahead.ensures.0 c.in_ok-rest_ahead.ensures.1 c.in_ok-id.ensures.1 c.skip_line.ensures,
)
