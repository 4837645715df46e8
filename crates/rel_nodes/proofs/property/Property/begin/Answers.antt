-- A walk that has begun gives what the property's row says.
use Rattle.std.proofs.Common.{arith, refl, sym, ap, ◌∙◌}
use Rattle.bf_machine.proofs.Looking.{OnlyLooks-refl}
use Rattle.rel_inspect.specs.Left.{left}
use Rattle.rel_inspect.specs.Props.{prop}
use Rattle.rel_inspect.specs.Facets.{offered}
use Rattle.rel_trace.specs.declared.step.Step.TheVariants.{Quiet}
use Rattle.rel_trace.specs.Scopes.{lent, seen}
use Rattle.rel_nodes.specs.Meaning.{placed}
use Rattle.rel_nodes.specs.Core.{asked_for, property_whole}
use Rattle.rel_nodes.proofs.Going.{went_same}
use Rattle.rel_nodes.proofs.Walked.{values_le}
use Rattle.rel_nodes.proofs.property.Property.begin.Goals as goal

pub returns-in-Ok-clause-steps : goal.returns-in-Ok-clause-steps
returns-in-Ok-clause-steps c = λ s room view.
    let r = c.args.self.now in
    let x = offered c.asked_for-argument.result in
    let y = offered c.asked_for-object.result in
    rw c.requires (rw c.put.ensures (record {
      goes = λ w h.
          let begun = ap (λ k. placed r.head (left k w s)) c.new.ensures
          ∙ ap (placed r.head) (c.in-Ok.ensures.left w s)
          ∙ ap (λ v. placed r.head (prop r.id v y w s)) c.asked_for-argument.ensures.same
          ∙ ap (λ v. placed r.head (prop r.id (asked_for r.argument (lent c.args.scope.now.argument)) v w s)) c.asked_for-object.ensures.same in
          went_same view.looked view.looked (property_whole w s r.id r.argument r.object r.head (seen c.args.scope.now)) (placed r.head (left c.new.result.walk w s)) Quiet refl (λ m. (sym begun, refl));
      cause = refl;
      as_room = tt;
      falls = omega (arith, values_le c.new.result.walk);
      looks = OnlyLooks-refl view;
    }))
