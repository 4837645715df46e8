use Rattle.std.proofs.Common.{length}
use Rattle.std.specs.Prelude.{flat_map}
use Rattle.line_forms.specs.Readers.{Passes}
use Rattle.fix_site.specs.Blocks.{AreBlocks, block_lines}
use Rattle.fix_site.proofs.site_reader.take_blocks.Given as goal

-- the lines of the blocks so far were taken
abbrev pub invariant-loop-blocks : goal.invariant-loop-blocks
invariant-loop-blocks l = record {
  good : AreBlocks l.name l.blocks;
  passes : Passes l.initial.lines l.lines (flat_map block_lines l.blocks);
}

abbrev pub decreases-loop-blocks : goal.decreases-loop-blocks
decreases-loop-blocks l = length l.lines.lines
