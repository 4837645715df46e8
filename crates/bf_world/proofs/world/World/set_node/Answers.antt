use Rattle.line_forms.specs.Paths.{IsPath}
use Rattle.bf_world.specs.Sound.{IsSoundNode}
use Rattle.bf_world.proofs.SoundLemmas.{keys-put, sound-put}
use Rattle.bf_world.proofs.world.World.set_node.Goals as goal

pub invariant_of-self : goal.invariant_of-self
invariant_of-self c =
    let i = c.self.invariant in
    record {
      version = i.version;
      offset = i.offset;
      moment = i.moment;
      paths = keys-put IsPath c.args.path.now c.args.node c.self.inside.paths c.put.new.self c.put.result i.paths c.requires.path c.put.ensures.ok c.put.ensures.err;
      nodes = sound-put IsSoundNode c.args.path.now c.args.node c.self.inside.paths c.put.new.self c.put.result i.nodes c.requires.sound c.put.ensures.ok c.put.ensures.err;
      packages = i.packages;
      settings = i.settings;
      programs = i.programs;
      started = i.started;
    }
