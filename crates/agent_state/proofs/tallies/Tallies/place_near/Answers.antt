use Rattle.std.proofs.Common.{Some, ap, sym, subst, ◌∙◌}
use Rattle.std.specs.Slice.{IsItemAt}
use Rattle.agent_state.proofs.TallyLists.{id_of}
use Rattle.agent_state.proofs.tallies.Tallies.place_near.Goals as goal

pub returns : goal.returns
returns c =
    let item = subst (λ items. IsItemAt items c.args.place (Some c.in-Some.kept)) (c.as_slice.ensures.value ∙ c.self.view_is) c.in-Some.ensures.lookup in
    (item.3.0, λ d. ap id_of (sym (item.3.1 d)) ∙ c.if-kept-action.true)
