use Rattle.bf_world.specs.Sound.{IsSoundProgram}
use Rattle.bf_world.proofs.SoundLemmas.{sound-put}
use Rattle.bf_world.proofs.world.World.set_program.Goals as goal

pub invariant_of-self : goal.invariant_of-self
invariant_of-self c =
    let i = c.self.invariant in
    record {
      version = i.version;
      offset = i.offset;
      moment = i.moment;
      paths = i.paths;
      nodes = i.nodes;
      packages = i.packages;
      settings = i.settings;
      programs = sound-put IsSoundProgram c.args.line.now c.args.program c.self.inside.programs c.put.new.self c.put.result i.programs c.requires c.put.ensures.ok c.put.ensures.err;
      started = i.started;
    }
