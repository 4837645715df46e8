use Rattle.std.proofs.Common.{◌≡◌, ◌++◌, map, All}
use Rattle.std.specs.Vec.Iter.{into_iter_items}
use Rattle.agent_attempt.specs.AskedBlocks.{IsAsked}
use Rattle.agent_attempt.proofs.read_blocks.ReadBlocks.read.Given as goal

-- those that are read so far, and those that are left, are all
abbrev pub invariant-loop-block : goal.invariant-loop-block
invariant-loop-block l =
    (l.done ++ map (λ one. one.block) (into_iter_items l.block-iterator) ≡ l.fn.blocks) × All IsAsked (into_iter_items l.block-iterator)
