use Rattle.server_core.proofs.Talking.{call_told}
use Rattle.server_core.proofs.server.Server.answer.Goals as goal

pub returns-in-Ok-clause-answers : goal.returns-in-Ok-clause-answers
returns-in-Ok-clause-answers g c =
    call_told c.args.self.now.limits c.args.request.now c.in-Ok.reply (g.K.Keeper.told c.args.keeper.now).rows (g.K.Keeper.told c.answered.new.keeper).rows c.in-Ok.ensures.sound c.in-Ok.ensures.answers
