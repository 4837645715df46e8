use Rattle.script_text.proofs.ItemLemmas.{name_absent}
use Rattle.script_text.proofs.fields.quoted_name.Goals as goal

pub returns-in-None : goal.returns-in-None
returns-in-None c = name_absent c.args.text.now c.in-Some.inner.now c.split_run.result.0.now c.split_run.result.1.now c.in-Some.ensures c.split_run.ensures c.in-None.ensures
