use Rattle.desk_base.specs.Moments.{IsMoment}
use Rattle.bf_world.proofs.SoundLemmas.{sound-put}
use Rattle.bf_world.proofs.world.World.set_setting.Goals as goal

pub invariant_of-self : goal.invariant_of-self
invariant_of-self c =
    let i = c.self.invariant in
    record {
      version = i.version;
      offset = i.offset;
      moment = i.moment;
      paths = i.paths;
      nodes = i.nodes;
      packages = i.packages;
      settings = sound-put (λ s. IsMoment s.date) c.args.name.now c.args.setting c.self.inside.settings c.put.new.self c.put.result i.settings c.requires c.put.ensures.ok c.put.ensures.err;
      programs = i.programs;
      started = i.started;
    }
