use Rattle.agent_core.specs.Inside.{state_of}
use Rattle.agent_core.specs.Devices.{devices}
use Rattle.agent_core.proofs.Flowing.{last_done, last_failed, last_memory}
use Rattle.agent_core.proofs.kept_state.KeptState.save_last.Goals as goal

pub returns-in-Done-clause-saves : goal.returns-in-Done-clause-saves
returns-in-Done-clause-saves g c machine =
    let old = g.P.Pocket.told c.args.pocket.now in
    let new = g.P.Pocket.told c.save_in.new.pocket in
    last_done c.args.would (state_of c.args.self.now) (state_of c.save_in.new.self) (devices machine old) c.save_in.result new c.in-Done.is c.save_in.ensures.kept.saves c.save_in.ensures.kept.state

pub returns-in-Failed-clause-saves : goal.returns-in-Failed-clause-saves
returns-in-Failed-clause-saves g c machine =
    let old = g.P.Pocket.told c.args.pocket.now in
    let new = g.P.Pocket.told c.save_in.new.pocket in
    last_failed c.args.would (state_of c.args.self.now) (state_of c.save_in.new.self) (devices machine old) c.save_in.result new c.in-Failed.is c.save_in.ensures.kept.saves c.save_in.ensures.kept.state

pub returns-in-Memory-clause-saves : goal.returns-in-Memory-clause-saves
returns-in-Memory-clause-saves g c machine =
    let old = g.P.Pocket.told c.args.pocket.now in
    let new = g.P.Pocket.told c.save_in.new.pocket in
    last_memory c.args.would (state_of c.args.self.now) (state_of c.save_in.new.self) (devices machine old) c.save_in.result new c.in-Memory.is c.save_in.ensures.kept.saves c.save_in.ensures.kept.state
