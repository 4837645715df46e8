use Rattle.std.proofs.Common.{rules}
use Rattle.desk_keep.specs.Tables.{AreRows}
use Rattle.desk_keep.proofs.Answering.{if_told}
use Rattle.desk_keep.proofs.Putting.{AreRows-tried}
use Rattle.desk_keep.proofs.sure.SureKeeperKeeper.apply.Goals as goal

pub invariant_of-self : goal.invariant_of-self
invariant_of-self c = AreRows-tried c.put_all.result c.args.batch.now _ c.put_all.new.rows c.requires c.self.invariant c.put_all.ensures.ok c.put_all.ensures.err

pub returns-clause-puts : goal.returns-clause-puts
returns-clause-puts c = record {
  applies = search rules;
  good = if_told c.put_all.new.rows AreRows
      (AreRows-tried c.put_all.result c.args.batch.now _ c.put_all.new.rows c.requires c.self.invariant c.put_all.ensures.ok c.put_all.ensures.err);
  counts = search rules;
}
