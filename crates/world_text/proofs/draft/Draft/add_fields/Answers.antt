use Rattle.std.proofs.Common.{ap}
use Rattle.world_text.specs.declared.draft.Draft.{Draft}
use Rattle.world_text.proofs.AddLemmas.{thing_to, thing_fails}
use Rattle.world_text.proofs.draft.Draft.add_fields.Goals as goal

pub returns-in-Ok-clause-adds : goal.returns-in-Ok-clause-adds
returns-in-Ok-clause-adds c =
    thing_to c.args.kind c.args.self.now c.settle.new.self.world c.args.rest.now (record { world = c.add_thing.new.world; pending = c.in-Ok.pending }) c.in_default.not-Gives
    (ap (λ (d : Draft). d.world) c.in_ok-settle.ensures) c.in-Ok.ensures.adds

pub returns-in-Err-clause-adds : goal.returns-in-Err-clause-adds
returns-in-Err-clause-adds c =
    thing_fails c.args.kind c.args.self.now c.args.self.now c.settle.new.self.world c.add_thing.new.world c.args.rest.now c.in-Err.fault c.in_default.not-Gives
    (ap (λ (d : Draft). d.world) c.in_ok-settle.ensures) c.in-Err.ensures.adds
