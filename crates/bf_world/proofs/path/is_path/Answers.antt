use Rattle.std.proofs.Common.{◌∙◌, ap}
use Rattle.line_forms.specs.Paths.{IsPath}
use Rattle.bf_world.specs.Paths.{is_path}
use Rattle.bf_world.proofs.PathTests.{path-Decides, read-test}
use Rattle.bf_world.proofs.path.is_path.Goals as goal

pub returns : goal.returns
returns c =
    let text = c.as_bytes.result.now in
    c.is_some.ensures ∙ read-test IsPath (is_path text) text c.read_path.result (path-Decides c.a_path_is_its_parts.ensures.parts c.a_path_is_its_parts.ensures.rootless text) c.read_path.ensures ∙ ap is_path c.as_bytes.ensures.value
