use Rattle.std.proofs.Common.{◌++◌, ◌∷◌, [], map, All, ap, subst, sym, ◌∙◌, arith}
use Rattle.std.specs.Vec.Iter.{into_iter_items}
use Rattle.agent_attempt.specs.declared.asked_block.AskedBlock.{AskedBlock}
use Rattle.agent_attempt.specs.AskedBlocks.{IsAsked}
use Rattle.agent_attempt.proofs.OneByOne.{done_all, done_more, first_good, others_good}
use Rattle.agent_attempt.proofs.read_blocks.ReadBlocks.read.Goals as goal

pub loop-block-init : goal.loop-block-init
loop-block-init c =
    let same = c.into_iter-block-iterator.ensures.into_iter_gives.0 in (
      ap (λ l. l ++ map (λ (one : AskedBlock). one.block) (into_iter_items c.into_iter-block-iterator.result)) c.new-done.ensures
          ∙ ap (map (λ (one : AskedBlock). one.block)) same ∙ c.in_ok-asked.ensures.blocks,
      subst (All IsAsked) (sym same) c.in_ok-asked.ensures.asked,
    )

pub read-requires : goal.read-requires
read-requires c = first_good IsAsked (into_iter_items c.loop-block.block-iterator) c.in-Some.block (into_iter_items c.next.new.self) c.in-Some.ensures.steps.0 c.loop-block.invariant.1

pub loop-block-preserved : goal.loop-block-preserved
loop-block-preserved c =
    let left = into_iter_items c.loop-block.block-iterator in
    let later = into_iter_items c.next.new.self in (
      done_more (λ (one : AskedBlock). one.block) c.loop-block.done c.in_ok-done.done left c.args.blocks c.in-Some.block later c.in-Some.ensures.steps.0
          (c.in_ok-done.ensures ∙ ap (λ b. c.loop-block.done ++ b ∷ []) c.in_ok-read.ensures) c.loop-block.invariant.0,
      others_good IsAsked left c.in-Some.block later c.in-Some.ensures.steps.0 c.loop-block.invariant.1,
    )

pub returns : goal.returns
returns c =
    done_all (λ (one : AskedBlock). one.block) c.loop-block.done (into_iter_items c.loop-block.block-iterator) c.args.blocks (omega (arith, c.in-None.ensures.steps.0)) c.loop-block.invariant.0
