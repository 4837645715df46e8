use Rattle.std.proofs.Common.{◌∙◌, ap}
use Rattle.std.proofs.lemmas.Bool.Decides.{Decides-like}
use Rattle.line_forms.specs.Paths.{IsPartText}
use Rattle.bf_world.specs.Paths.{is_part}
use Rattle.bf_world.proofs.PathTests.{part-Decides, read-test}
use Rattle.bf_world.proofs.path.is_part.Goals as goal

pub returns : goal.returns
returns c =
    let text = c.as_bytes.result.now in
    let decides = Decides-like _ (λ h. (c.as_bytes.ensures.utf8, h)) (λ h. h.1) (part-Decides text) in
    c.is_some.ensures ∙ read-test IsPartText (is_part text) text c.read_part.result decides c.read_part.ensures ∙ ap is_part c.as_bytes.ensures.value
