use Rattle.std.proofs.Common.{◌≡◌, ℕ, ◌-◌, List, length, IsTrue, Some, subst, sym, ◌∙◌}
use Rattle.std.specs.Prelude.{slice_get}
use Rattle.std.specs.Ordering.{is_lt}
use Rattle.line_forms.specs.Paths.{IsPart}
use Rattle.bf_world.specs.declared.answer.Entry.{Entry}
use Rattle.bf_world.specs.Maps.{byte_order}
use Rattle.host_edge.specs.Ordered.{AreEntries}
use Rattle.host_edge.proofs.Following.{above-last}
use Rattle.host_edge.proofs.ordered.Ordered.can_take.Goals as goal

pub returns-in-Some-last : goal.returns-in-Some-last
returns-in-Some-last c = λ lt.
    let name = c.args.entry.now.name in
    let last = c.in-Some-last.last.now in
    let text : c.as_bytes.result.now ≡ name = c.as_bytes.ensures.value ∙ c.as_str.ensures in
    let part : IsPart name = subst IsPart text c.in-Some.ensures.0.1 in
    let compared = subst (λ o. IsTrue (is_lt o)) c.cmp.ensures (subst IsTrue c.is_lt.ensures lt) in
    let above_it = subst (λ (n : List ℕ). IsTrue (is_lt (byte_order n c.as_str-in-Some-last-2.result.now))) c.as_str-in-Some-last.ensures compared in
    let above : IsTrue (is_lt (byte_order last.name name)) = subst (λ (n : List ℕ). IsTrue (is_lt (byte_order last.name n))) c.as_str-in-Some-last-2.ensures above_it in
    let entries : c.self.inside.entries.items ≡ c.args.self.now = c.self.view_is in
    let found : slice_get c.args.self.now (length c.args.self.now - 1) ≡ Some last =
    subst (λ (es : List Entry). slice_get es (length es - 1) ≡ Some last) (c.deref.ensures.value ∙ entries) (sym c.in-Some-last.ensures.value) in
    let are : AreEntries c.args.self.now = subst AreEntries entries c.self.invariant in
    (part, above-last c.args.self.now last name found above are.1)
