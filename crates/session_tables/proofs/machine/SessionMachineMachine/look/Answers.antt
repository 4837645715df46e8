use Rattle.std.proofs.Common.{◌∷◌, []}
use Rattle.session_tables.proofs.LookLemmas.{look_answered, look_failed, look_forgotten}
use Rattle.session_tables.proofs.machine.SessionMachineMachine.look.Goals as goal

pub returns-in-Ok : goal.returns-in-Ok
returns-in-Ok g c =
    look_answered (g.K.Keeper.told c.args.self.now.keeper.now) (g.K.Keeper.told c.show.new.keeper) c.args.self.now.looked.now c.push.new.self
    (c.args.self.now.keeper.ghost_name ∷ c.args.self.now.looked.ghost_name ∷ []) c.args.key.now c.in-Ok.answer c.in-Ok.ensures.learns c.in-Ok.ensures.good c.in-Ok.ensures.ascending
    c.push.ensures

pub returns-in-Err-Keeper : goal.returns-in-Err-Keeper
returns-in-Err-Keeper g c =
    look_failed (g.K.Keeper.told c.args.self.now.keeper.now) (g.K.Keeper.told c.show.new.keeper) c.args.self.now.looked.now
    (c.args.self.now.keeper.ghost_name ∷ c.args.self.now.looked.ghost_name ∷ []) c.args.key.now (rw c.in-Err-Keeper.field-0-is at c.in-Err-Keeper.ensures.learns)

pub returns-in-Err-Memory : goal.returns-in-Err-Memory
returns-in-Err-Memory g c =
    look_forgotten (g.K.Keeper.told c.args.self.now.keeper.now) (g.K.Keeper.told c.show.new.keeper) c.args.self.now.looked.now
    (c.args.self.now.keeper.ghost_name ∷ c.args.self.now.looked.ghost_name ∷ []) c.args.key.now (rw c.in-Err-Memory.field-0-is at c.in-Err-Memory.ensures.learns)
