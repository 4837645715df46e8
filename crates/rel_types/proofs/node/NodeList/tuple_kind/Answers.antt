use Rattle.std.proofs.Common.{arith, ◌∙◌, length, sym, ap, Some, map, take, drop, ◌-◌}
use Rattle.rel_value.specs.Plain.{more_kinds, no_kinds}
use Rattle.rel_value.specs.Views.{kinded, shown_kind, shown_kinds}
use Rattle.rel_types.specs.Plans.{kind_of}
use Rattle.rel_types.specs.Views.{shown_node}
use Rattle.rel_types.proofs.NodeLists.{rest_all, tuple_shown, no_tuple_shown, kind-shown}
use Rattle.rel_types.proofs.node.NodeList.tuple_kind.Goals as goal

pub returns-in_default : goal.returns-in_default
returns-in_default c = no_tuple_shown c.args.self.now c.as_slice.result.now c.as_slice.ensures.value (λ h. omega (arith, h, c.in_default.len_below))

pub returns-in_ok-with_kinds-in-len2-up : goal.returns-in_ok-with_kinds-in-len2-up
returns-in_ok-with_kinds-in-len2-up c =
    ap Some c.tuple_of.ensures
    ∙ tuple_shown c.args.self.now c.as_slice.result.now c.first-item.result c.second-item.result (shown_kinds c.in_ok-with_kinds-in-len2-up.field-0) c.as_slice.ensures.value (omega (arith, c.in-len2-up.len_at_least)) c.first-item.is c.second-item.is
    (c.in_ok-with_kinds-in-len2-up.ensures
    ∙ ap (λ k. kinded k (map (λ n. kind_of (shown_node n)) (take (length c.as_slice.result.now - 2) (drop 2 c.as_slice.result.now))))
    (c.in_ok-kinds-in-len2-up.ensures
    ∙ ap (λ a. more_kinds (more_kinds no_kinds a) (shown_kind c.in_ok-copy-in-len2-up-2.field-0)) (c.in_ok-copy-in-len2-up.ensures ∙ sym (kind-shown c.first-item.result))
    ∙ ap (λ b. more_kinds (more_kinds no_kinds (kind_of (shown_node c.first-item.result))) b) (c.in_ok-copy-in-len2-up-2.ensures ∙ sym (kind-shown c.second-item.result)))
    ∙ ap (λ ys. kinded (more_kinds (more_kinds no_kinds (kind_of (shown_node c.first-item.result))) (kind_of (shown_node c.second-item.result))) (map (λ n. kind_of (shown_node n)) ys)) (rest_all c.as_slice.result.now))
