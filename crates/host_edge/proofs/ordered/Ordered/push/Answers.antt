use Rattle.std.proofs.Common.{◌≡◌, List, subst, sym}
use Rattle.bf_world.specs.declared.answer.Entry.{Entry}
use Rattle.host_edge.specs.Ordered.{AreEntries, CanFollow}
use Rattle.host_edge.proofs.Following.{entries-push}
use Rattle.host_edge.proofs.ordered.Ordered.push.Goals as goal

pub invariant_of-self : goal.invariant_of-self
invariant_of-self c =
    let entries : c.self.inside.entries.items ≡ c.args.self.now = c.self.view_is in
    let follows : CanFollow c.self.inside.entries.items c.args.entry =
    subst (λ (es : List Entry). CanFollow es c.args.entry) (sym entries) (c.can_take.ensures c.if-can_take.true) in
    subst AreEntries (sym c.in_ok-push.ensures.items) (entries-push c.self.inside.entries.items c.args.entry c.self.invariant follows)
