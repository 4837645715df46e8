use Rattle.script_text.specs.Forms.{form, kind_form}
use Rattle.script_text.proofs.FormLemmas.{carried}
use Rattle.script_text.proofs.command.read_kind.Goals as goal

pub returns : goal.returns
returns c = carried (form c.args.kind) (kind_form c.args.kind) c.args.text.now c.in_ok-after_words.field-0.now c.read_form.result c.in_ok-after_words.ensures c.read_form.ensures
