use Rattle.bf_world.proofs.GoodLemmas.{good-answer}
use Rattle.bf_world.proofs.OrderLemmas.{answer-ascends}
use Rattle.bf_world.proofs.world.World.look.Goals as goal

pub returns-clause-good : goal.returns-clause-good
returns-clause-good c = good-answer c.args.self.now c.is_sound.ensures.sound c.args.key.now c.answer.result c.answer.ensures

pub returns-clause-ascending : goal.returns-clause-ascending
returns-clause-ascending c = answer-ascends c.args.self.now c.is_sound.ensures.maps c.args.key.now c.answer.result c.answer.ensures
