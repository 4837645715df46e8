use Rattle.line_forms.specs.Versions.{IsVersion}
use Rattle.bf_world.proofs.SoundLemmas.{sound-put}
use Rattle.bf_world.proofs.world.World.set_package.Goals as goal

pub invariant_of-self : goal.invariant_of-self
invariant_of-self c =
    let i = c.self.invariant in
    record {
      version = i.version;
      offset = i.offset;
      moment = i.moment;
      paths = i.paths;
      nodes = i.nodes;
      packages = sound-put IsVersion c.args.name.now c.args.version c.self.inside.packages c.put.new.self c.put.result i.packages c.requires c.put.ensures.ok c.put.ensures.err;
      settings = i.settings;
      programs = i.programs;
      started = i.started;
    }
