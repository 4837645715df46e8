use Rattle.std.proofs.Common.{◌∙◌, sym}
use Rattle.session_tables.proofs.Spots.{action_there, no_action}
use Rattle.session_tables.proofs.spot.action_spot.Goals as goal

pub returns-in-Some : goal.returns-in-Some
returns-in-Some c = action_there c.args.id.now c.in-Some.id c.in-Some.ensures.0 (sym c.as_bytes.ensures.value ∙ c.in-Some.ensures.1)

pub returns-in-None : goal.returns-in-None
returns-in-None c = no_action c.args.id.now (λ id is e. c.in-None.ensures id is (c.as_bytes.ensures.value ∙ e))
