use Rattle.line_forms.specs.Paths.{IsPath}
use Rattle.bf_world.specs.Sound.{IsSoundNode}
use Rattle.bf_world.proofs.SoundLemmas.{keys-without, sound-without}
use Rattle.bf_world.proofs.world.World.remove_node.Goals as goal

pub invariant_of-self : goal.invariant_of-self
invariant_of-self c =
    let i = c.self.invariant in
    record {
      version = i.version;
      offset = i.offset;
      moment = i.moment;
      paths = keys-without IsPath c.args.path.now c.self.inside.paths c.remove.new.self i.paths c.remove.ensures.entries;
      nodes = sound-without IsSoundNode c.args.path.now c.self.inside.paths c.remove.new.self i.nodes c.remove.ensures.entries;
      packages = i.packages;
      settings = i.settings;
      programs = i.programs;
      started = i.started;
    }
