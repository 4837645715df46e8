use Rattle.std.proofs.Common.{◌≡◌, ◌+◌, take, length}
use Rattle.std.specs.Prelude.{flat_map}
use Rattle.fix_site.specs.Blocks.{block_lines}
use Rattle.fix_site.specs.Pieces.{blocks_pieces}
use Rattle.fix_site.proofs.piece_list.pieces.Given as goal

-- the blocks so far were gone over
abbrev pub invariant-loop-block : goal.invariant-loop-block
invariant-loop-block l = record {
  items : l.block-items ≡ l.site.blocks;
  pieces : l.list.pieces.items ≡ blocks_pieces 2 (take l.block-index l.block-items);
  line : l.list.line ≡ 2 + length (flat_map block_lines (take l.block-index l.block-items));
}
