use Rattle.std.proofs.Common.{◌++◌, map, All, ap, subst, sym, ◌∙◌, arith}
use Rattle.std.specs.Vec.Iter.{into_iter_items}
use Rattle.std.proofs.lemmas.List.Elements.{All-nil, All-push}
use Rattle.fix_site.specs.Blocks.{IsBlock}
use Rattle.agent_attempt.specs.declared.asked_block.AskedBlock.{AskedBlock}
use Rattle.agent_attempt.specs.AskedBlocks.{IsAsked}
use Rattle.agent_attempt.proofs.OneByOne.{all_done, kept_more, next_good}
use Rattle.agent_attempt.proofs.asked_block.ask_blocks.Goals as goal

pub loop-block-init : goal.loop-block-init
loop-block-init c = (
  ap (λ l. map (λ (one : AskedBlock). one.block) l ++ into_iter_items c.into_iter-block-iterator.result) c.new-asked.ensures.items
      ∙ c.into_iter-block-iterator.ensures.into_iter_gives.0 ∙ c.into_vec-block-items.ensures,
  subst (All IsAsked) (sym c.new-asked.ensures.items) (All-nil IsAsked),
)

pub read-requires : goal.read-requires
read-requires c =
    next_good (map (λ (one : AskedBlock). one.block) c.loop-block.asked.items) (into_iter_items c.loop-block.block-iterator) c.args.blocks IsBlock c.in-Some.block (into_iter_items c.next.new.self) c.in-Some.ensures.steps.0
    c.loop-block.invariant.0 c.requires

pub loop-block-preserved : goal.loop-block-preserved
loop-block-preserved c =
    let more = c.in_ok-push.ensures.items in (
      kept_more (λ (one : AskedBlock). one.block) c.loop-block.asked.items c.push.new.self.items (into_iter_items c.loop-block.block-iterator) c.args.blocks c.in_ok-one.one c.in-Some.block (into_iter_items c.next.new.self)
          c.in-Some.ensures.steps.0 more c.in_ok-one.ensures.1 c.loop-block.invariant.0,
      subst (All IsAsked) (sym more) (All-push IsAsked c.loop-block.asked.items c.in_ok-one.one c.loop-block.invariant.1 c.in_ok-one.ensures.0),
    )

pub returns : goal.returns
returns c = record {
  asked = c.loop-block.invariant.1;
  blocks = all_done (map (λ (one : AskedBlock). one.block) c.loop-block.asked.items) (into_iter_items c.loop-block.block-iterator) c.args.blocks (omega (arith, c.in-None.ensures.steps.0)) c.loop-block.invariant.0;
}
