-- Blocks whose relevance was read. Only private functions cite these definitions.
use Rattle.std.specs.Prelude.{◌≡◌, ℕ, List, []}
use Rattle.fix_site.specs.declared.block.Block.{Block}
use Rattle.fix_site.specs.declared.block.Block.TheVariants as block
use Rattle.fix_site.specs.Blocks.{IsBlock}
use Rattle.agent_attempt.specs.declared.asked_block.AskedBlock.{AskedBlock}

-- the questions of a block's relevance; an action has none
abbrev pub block_relevance : Block → List (List ℕ)
block_relevance (block.Fixlet fixlet) = fixlet.relevance
block_relevance (block.Baseline baseline) = baseline.relevance
block_relevance (block.Action action) = []

-- a block that a site can have, and its clauses
pub record IsAsked (asked : AskedBlock) : Type 0 where
  pub good : IsBlock asked.block
  pub clauses : asked.relevance ≡ block_relevance asked.block
