use Rattle.std.proofs.Common.{◌∙◌, None, subst}
use Rattle.std.specs.Slice.{IsItemAt}
use Rattle.agent_attempt.specs.FoundContents.{FindsBlock}
use Rattle.agent_attempt.proofs.Places.{finds_at, finds_none}
use Rattle.agent_attempt.proofs.read_blocks.ReadBlocks.get.Goals as goal

pub returns-in-Some : goal.returns-in-Some
returns-in-Some c =
    subst (λ bs. FindsBlock c.args.id bs c.get-in-Some.result) c.self.view_is
    (finds_at c.args.id _ c.in-Some.place.now c.get-in-Some.result (c.in-Some.ensures.value ∙ c.self.invariant c.args.id)
    (subst (λ bs. IsItemAt bs c.in-Some.place.now c.get-in-Some.result) c.as_slice.ensures.value c.get-in-Some.ensures.lookup))

pub returns-in-None : goal.returns-in-None
returns-in-None c = subst (λ bs. FindsBlock c.args.id bs None) c.self.view_is (finds_none c.args.id _ (c.in-None.ensures.value ∙ c.self.invariant c.args.id))
