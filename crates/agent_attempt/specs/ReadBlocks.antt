-- Blocks whose texts were read, as the blocks that they are.
use Rattle.std.specs.Prelude.{ℕ}
use Rattle.fix_site.specs.declared.block.Block.{Block}
use Rattle.fix_site.specs.declared.block.Block.TheVariants as block
use Rattle.fix_site.specs.Blocks.{block_id}
use Rattle.agent_attempt.specs.declared.read_block.ReadBlock.{ReadBlock}
use Rattle.agent_attempt.specs.declared.read_block.ReadBlock.TheVariants as read

-- the block that was read
abbrev pub shown_block : ReadBlock → Block
shown_block (read.Fixlet fixlet) = block.Fixlet fixlet
shown_block (read.Baseline baseline) = block.Baseline baseline
shown_block (read.Action action) = block.Action action

abbrev pub read_id : ReadBlock → ℕ
read_id b = block_id (shown_block b)
