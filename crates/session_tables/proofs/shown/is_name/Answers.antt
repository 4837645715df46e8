use Rattle.std.proofs.Common.{◌∙◌, ap}
use Rattle.line_forms.specs.Names.{IsName}
use Rattle.session_tables.specs.Paths.{is_name}
use Rattle.session_tables.proofs.Parts.{read-test}
use Rattle.session_tables.proofs.Naming.{name-Decides}
use Rattle.session_tables.proofs.shown.is_name.Goals as goal

pub returns : goal.returns
returns c =
    let text = c.as_bytes.result.now in
    c.is_some.ensures ∙ read-test IsName (is_name text) text c.read_name.result (name-Decides text) c.read_name.ensures ∙ ap is_name c.as_bytes.ensures.value
