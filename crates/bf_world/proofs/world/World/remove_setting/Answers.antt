use Rattle.desk_base.specs.Moments.{IsMoment}
use Rattle.bf_world.proofs.SoundLemmas.{sound-without}
use Rattle.bf_world.proofs.world.World.remove_setting.Goals as goal

pub invariant_of-self : goal.invariant_of-self
invariant_of-self c =
    let i = c.self.invariant in
    record {
      version = i.version;
      offset = i.offset;
      moment = i.moment;
      paths = i.paths;
      nodes = i.nodes;
      packages = i.packages;
      settings = sound-without (λ s. IsMoment s.date) c.args.name.now c.self.inside.settings c.remove.new.self i.settings c.remove.ensures.entries;
      programs = i.programs;
      started = i.started;
    }
