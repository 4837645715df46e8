use Rattle.std.proofs.Common.{◌∷◌, ap, ◌∙◌, arith}
use Rattle.line_forms.specs.Contents as held
use Rattle.fix_site.proofs.content_reader.take_script_line.Goals as goal

pub returns : goal.returns
returns c = (
  record { good = c.in_ok-line.ensures.0.0; few = omega arith; short = omega arith },
  c.skip_line.ensures (held.content_line c.in_ok-line.line.now) c.in_ok-line_ahead.ensures.0 (c.in_ok-line_ahead.ensures.1 ∙ ap (λ l. l ∷ c.in_ok-line_ahead.ensures.0) c.in_ok-line.ensures.0.1),
)
