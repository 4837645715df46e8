use Rattle.std.proofs.Common.{refl, subst, sym}
use Rattle.bf_world.specs.declared.key.Key.TheVariants as key
use Rattle.bf_world.specs.Answers.{HasAscendingNames, IsGoodAnswer}
use Rattle.bf_world.specs.Places.{node_at}
use Rattle.bf_world.specs.Shown.{read_of, shown}
use Rattle.session_tables.specs.Worlds.{tables_world}
use Rattle.session_tables.proofs.Goodness.{read_ascends, read_good}
use Rattle.session_tables.proofs.Learning.{learned_of}
use Rattle.session_tables.proofs.look.read.Goals as goal

pub returns-clause-learns : goal.returns-clause-learns
returns-clause-learns g c =
    learned_of (λ rows. node_at (tables_world rows) c.args.path.now) (λ rows. shown (tables_world rows) (key.Read c.args.path.now)) read_of
    (g.K.Keeper.told c.args.keeper.now) (g.K.Keeper.told c.node_at.new.keeper) c.in_ok-node_at.field-0 c.read_of.result c.in_ok-node_at.ensures.learns
    c.read_of.ensures (λ rows. refl)

pub returns-clause-good : goal.returns-clause-good
returns-clause-good g c = subst IsGoodAnswer (sym c.read_of.ensures) (read_good c.in_ok-node_at.field-0)

pub returns-clause-ascending : goal.returns-clause-ascending
returns-clause-ascending g c = subst HasAscendingNames (sym c.read_of.ensures) (read_ascends c.in_ok-node_at.field-0)
