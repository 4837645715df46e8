use Rattle.server_text.proofs.Refusing.{no_action}
use Rattle.server_text.proofs.reading.read_issued.Goals as goal

pub returns-in-Err : goal.returns-in-Err
returns-in-Err c = no_action c.args.text.now c.unread_action.result (c.unread_action.ensures c.args.text.now c.in-Err.ensures)
