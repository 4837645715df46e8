-- Parts that mean the same may stand for one another.
use Rattle.std.proofs.Common.{◌≡◌, ap, ◌∙◌}
use Rattle.std.proofs.lemmas.Result.{IfOk-weaker}
use Rattle.std.specs.Result.{IfOk}
use Rattle.std.specs.declared.alloc.Global.{Global}
use Rattle.std.specs.declared.boxed.Box.{Box}
use Rattle.std.specs.declared.result.Result.{Result}
use Rattle.rel_trace.specs.Trace.{Trace}
use Rattle.rel_trace.specs.Scopes.{Around}
use Rattle.rel_trace.specs.Ones.{OneKind, one_whole}
use Rattle.rel_trace.specs.Twos.{TwoKind, two_whole}
use Rattle.rel_trace.specs.Choices.{choice_whole}
use Rattle.rel_nodes.specs.declared.node.Node.{Node}
use Rattle.rel_nodes.specs.Core.{Core, one_core, two_core, choice_core, core, Alike}
use Rattle.rel_nodes.specs.Nodes.{boxed_shape, shape}

pub alike_same : (c d : Core) → c ≡ d → Alike c d
alike_same c d e w s a = ap (λ x. core w s x a) e

pub alike_trans : (c d e : Core) → Alike c d → Alike d e → Alike c e
alike_trans c d e h g w s a = h w s a ∙ g w s a

pub alike_one : (k : OneKind) (c d : Core) → Alike c d → Alike (one_core k c) (one_core k d)
alike_one k c d h w s a = ap (one_whole k a s.offset) (h w s a)

pub alike_two : (k : TwoKind) (c c' d d' : Core) → Alike c c' → Alike d d' → Alike (two_core k c d) (two_core k c' d')
alike_two k c c' d d' h g w s a =
    ap (λ t. two_whole k t (core w s d) a) (h w s a)
    ∙ ap (λ (f : Around → Trace). two_whole k (core w s c' a) f a) (λ i e. g w s e i)

pub alike_choice : (c c' d d' e e' : Core) → Alike c c' → Alike d d' → Alike e e' → Alike (choice_core c d e) (choice_core c' d' e')
alike_choice c c' d d' e e' h g k w s a =
    ap (λ t. choice_whole t (core w s d) (core w s e) a) (h w s a)
    ∙ ap (λ (f : Around → Trace). choice_whole (core w s c' a) f (core w s e) a) (λ i x. g w s x i)
    ∙ ap (λ (f : Around → Trace). choice_whole (core w s c' a) (core w s d') f a) (λ i x. k w s x i)

-- a node that is made, if there is memory: it means the same as another part does
pub on_alike : {E : Type 0} (r : Result (Box Node Global) E) (c d : Core) → IfOk r (λ n. Alike (boxed_shape n) c) → Alike c d → IfOk r (λ n. Alike (boxed_shape n) d)
on_alike r c d h k = IfOk-weaker r (λ n. Alike (boxed_shape n) c) (λ n. Alike (boxed_shape n) d) (λ n g. alike_trans (boxed_shape n) c d g k) h

pub on_same : {E : Type 0} (r : Result (Box Node Global) E) (c d : Core) → IfOk r (λ n. boxed_shape n ≡ c) → Alike c d → IfOk r (λ n. Alike (boxed_shape n) d)
on_same r c d h k = IfOk-weaker r (λ n. boxed_shape n ≡ c) (λ n. Alike (boxed_shape n) d) (λ n e. alike_trans (boxed_shape n) c d (alike_same (boxed_shape n) c e) k) h

pub on_node : {E : Type 0} (r : Result (Box Node Global) E) (node : Node) (d : Core) → IfOk r (λ n. n.value ≡ node) → Alike (shape node) d → IfOk r (λ n. Alike (boxed_shape n) d)
on_node r node d h k =
    IfOk-weaker r (λ n. n.value ≡ node) (λ n. Alike (boxed_shape n) d)
    (λ n e. alike_trans (boxed_shape n) (shape node) d (alike_same (boxed_shape n) (shape node) (ap shape e)) k) h
