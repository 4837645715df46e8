use Rattle.std.proofs.Common.{◌<◌, length, get_or, refl, ap, ◌∙◌, arith}
use Rattle.std.proofs.lemmas.List.{take_all}
use Rattle.agent_attempt.specs.Attempts.{numbered}
use Rattle.agent_attempt.specs.ActionContents.{fixlets_at}
use Rattle.agent_attempt.proofs.Components.{group_more}
use Rattle.agent_attempt.proofs.attempt.group.Goals as goal

pub loop-id-preserved : goal.loop-id-preserved
loop-id-preserved c =
    let ids = c.components-id-items.result.now in
    let below : c.loop-id.id-index < length ids = omega arith in
    group_more ids c.args.site.now.blocks c.loop-id.id-index (get_or ids c.loop-id.id-index 0) c.loop-id.parts.items c.add_part.new.parts.items below refl c.loop-id.invariant c.in_ok-add_part.ensures

pub returns : goal.returns
returns c =
    let ids = c.components-id-items.result.now in
    c.loop-id.invariant ∙ ap (λ l. numbered 1 (fixlets_at l c.args.site.now.blocks)) (take_all c.loop-id.id-index ids (omega arith) ∙ c.components-id-items.ensures)
