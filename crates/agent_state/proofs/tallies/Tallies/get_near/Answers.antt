use Rattle.std.proofs.Common.{◌≡◌, List, get_or, map, ap, subst, ◌∙◌}
use Rattle.std.specs.List.Sorted.{IsStrictlyIncreasing}
use Rattle.agent_state.specs.declared.tallies.ActionTally.{ActionTally}
use Rattle.line_forms.proofs.Rising.{rises_from_increasing}
use Rattle.agent_state.proofs.TallyLists.{finds_none, finds_there, id_of}
use Rattle.agent_state.proofs.tallies.Tallies.get_near.Goals as goal

pub returns-in-Ok : goal.returns-in-Ok
returns-in-Ok c =
    let ts = c.args.self.now in
    let t : ActionTally = c.index.result.now in
    let up = rises_from_increasing id_of ts (subst (λ (l : List ActionTally). IsStrictlyIncreasing (map id_of l)) c.self.view_is c.self.invariant) in
    let at : t ≡ get_or ts c.in-Ok.place t = c.index.ensures ∙ ap (λ (l : List ActionTally). get_or l c.in-Ok.place t) c.self.view_is in
    finds_there c.args.action c.in-Ok.place ts t up c.in-Ok.ensures.0 at (ap id_of at ∙ c.in-Ok.ensures.1 t)

pub returns-in-Err : goal.returns-in-Err
returns-in-Err c = finds_none c.args.action c.args.self.now c.in-Err.ensures
