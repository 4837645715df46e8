use Rattle.std.proofs.Common.{◌≡◌, ◌+◌, ◌<◌, ◌≤◌, List, [], ◌∷◌, ◌++◌, length, map, take, ap, sym, subst, ◌∙◌, arith}
use Rattle.std.specs.List.{cons_option, filter_map}
use Rattle.std.specs.List.Sorted.{IsStrictlyIncreasing}
use Rattle.std.proofs.lemmas.List.{take_all}
use Rattle.fix_site.specs.declared.action.Action.{Action}
use Rattle.agent_attempt.specs.declared.read_block.ReadBlock.{ReadBlock}
use Rattle.agent_attempt.specs.ReadBlocks.{shown_block}
use Rattle.agent_attempt.specs.ActionContents.{as_action}
use Rattle.agent_state.specs.declared.tallies.ActionTally.{ActionTally}
use Rattle.agent_state.specs.Lookups.{TalliesStand}
use Rattle.agent_state.proofs.SiteActions.{action_id, actions_more, actions_same}
use Rattle.agent_state.proofs.TallyLists.{same_ids, stand_more}
use Rattle.agent_state.proofs.tallies.Tallies.of.Goals as goal

abbrev actions_in : List ReadBlock → List Action
actions_in blocks = filter_map as_action (map shown_block blocks)

pub loop-block-preserved : goal.loop-block-preserved
loop-block-preserved c =
    let blocks = c.args.blocks.now in
    let hs = c.args.histories.now in
    let i = c.loop-block.block-index in
    let action : Action = c.in-Action.action in
    let inside : i < length blocks = omega (arith, c.loop-block-test.true) in
    let t : ActionTally = record { action = c.action.result.now.id; retries = c.action-in-loop-block.result.now.rules.retries; tally = c.standing.result } in
    let longer : actions_in (take (i + 1) blocks) ≡ actions_in (take i blocks) ++ action ∷ [] =
    actions_more blocks i c.block-item.result inside c.block-item.is ∙ ap (λ b. actions_in (take i blocks) ++ cons_option (as_action (shown_block b)) []) c.in-Action.is in
    subst (λ (x : List ActionTally × List Action). TalliesStand x.0 x.1 hs) (λ j. (sym c.in_ok-push.ensures.items j, sym longer j))
    (stand_more c.loop-block.list.items (actions_in (take i blocks)) hs t action (ap action_id c.action.ensures) (ap (λ (a : Action). a.rules.retries) c.action-in-loop-block.ensures) c.standing.ensures
    c.loop-block.invariant)

pub loop-block-preserved-in_default : goal.loop-block-preserved-in_default
loop-block-preserved-in_default c =
    let blocks = c.args.blocks.now in
    let i = c.loop-block.block-index in
    let inside : i < length blocks = omega (arith, c.loop-block-test.true) in
    subst (λ l. TalliesStand c.loop-block.list.items l c.args.histories.now) (sym (actions_same blocks i c.block-item.result inside c.block-item.is c.in_default.not-Action)) c.loop-block.invariant

pub invariant_of-result : goal.invariant_of-result
invariant_of-result c =
    let blocks = c.args.blocks.now in
    let hs = c.args.histories.now in
    let items = c.loop-block.list.items in
    let all : length blocks ≤ c.loop-block.block-index = omega (arith, c.loop-block-test.false) in
    let stand : TalliesStand items (actions_in blocks) hs = subst (λ l. TalliesStand items (actions_in l) hs) (take_all c.loop-block.block-index blocks all) c.loop-block.invariant in
    subst IsStrictlyIncreasing (sym (same_ids items (actions_in blocks) hs stand)) c.requires.ascending
