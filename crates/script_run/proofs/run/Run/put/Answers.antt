use Rattle.std.proofs.Common.{rules, SFits, w64, ℤ, subst, refl, false}
use Rattle.bf_machine.specs.Acts.{ActsOn}
use Rattle.bf_world.specs.declared.command.Command.TheVariants.{Place}
use Rattle.script_run.specs.declared.place.Place.TheVariants.{Placing}
use Rattle.script_run.proofs.Moves.{act_without_memory, acts_at, act_step, step_from, memory_step}
use Rattle.script_run.proofs.run.Run.put.Goals as goal

pub returns-in-Memory : goal.returns-in-Memory
returns-in-Memory g c =
    let self = c.args.self.now in
    memory_step (Placing c.args.line c.args.name c.args.bytes) self _ _ _ tt
    (record { stands = c.before-in-Memory.ensures c.args.name c.args.bytes refl; current = refl; later = refl; scene = refl })
    (act_without_memory _ (Place c.args.name c.args.bytes) _ _ c.in-Memory.ensures)

pub returns-in_default : goal.returns-in_default
returns-in_default g c =
    let self = c.args.self.now in
    let fits : SFits w64 c.moment.result = search rules in
    step_from (Placing c.args.line c.args.name c.args.bytes) self _ _ _ _ refl
    (act_step c.args.line 2 _ self c.act.result _ _ false (Place c.args.name c.args.bytes) _ _ c.acted.ensures c.in_default.not-Memory (subst (λ (m : ℤ). ActsOn m (Place c.args.name c.args.bytes) (g.M.Machine.told c.args.machine.now) c.act.result (g.M.Machine.told c.act.new.self)) c.moment.ensures.same
    (acts_at c.moment.result (Place c.args.name c.args.bytes) _ c.act.result _ fits c.act.ensures)))
