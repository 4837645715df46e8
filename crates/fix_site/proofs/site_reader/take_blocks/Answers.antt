use Rattle.std.proofs.Common.{Option, Ok, refl, subst}
use Rattle.fix_site.specs.declared.block.Block.{Block}
use Rattle.fix_site.specs.Readings.{TakesBlock}
use Rattle.fix_site.proofs.BlockLists.{block_more, blocks_over}
use Rattle.fix_site.proofs.site_reader.take_blocks.Goals as goal

pub loop-blocks-preserved : goal.loop-blocks-preserved
loop-blocks-preserved c =
    let P : Option Block → Type 0 = λ o. TakesBlock c.args.name.now c.loop-blocks.blocks c.loop-blocks.lines c.take_block.new.lines (Ok o) in
    let taken = block_more c.args.name.now c.args.lines.now c.loop-blocks.lines c.take_block.new.lines c.loop-blocks.blocks c.loop-blocks.blocks c.in_ok-blocks.blocks c.in-Some.block
    c.loop-blocks.invariant.good c.loop-blocks.invariant.passes refl c.in_ok-blocks.ensures (subst P c.in-Some.is c.in_ok-block.ensures) in
    record { good = taken.0; passes = taken.1 }

pub returns : goal.returns
returns c =
    let P : Option Block → Type 0 = λ o. TakesBlock c.args.name.now c.loop-blocks.blocks c.loop-blocks.lines c.take_block.new.lines (Ok o) in
    blocks_over c.args.name.now c.args.lines.now c.loop-blocks.lines c.take_block.new.lines c.loop-blocks.blocks c.loop-blocks.blocks c.into_blocks.result
    c.loop-blocks.invariant.good c.loop-blocks.invariant.passes refl c.into_blocks.ensures (subst P c.in_default.is c.in_ok-block.ensures)
