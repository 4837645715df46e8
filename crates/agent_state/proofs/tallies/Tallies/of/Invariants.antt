use Rattle.std.proofs.Common.{map, take}
use Rattle.std.specs.List.{filter_map}
use Rattle.agent_attempt.specs.ReadBlocks.{shown_block}
use Rattle.agent_attempt.specs.ActionContents.{as_action}
use Rattle.agent_state.specs.Lookups.{TalliesStand}
use Rattle.agent_state.proofs.tallies.Tallies.of.Given as goal

-- the tallies so far are those of the actions so far
abbrev pub invariant-loop-block : goal.invariant-loop-block
invariant-loop-block l = TalliesStand l.list.items (filter_map as_action (map shown_block (take l.block-index l.blocks))) l.histories
