-- Parameters that are gone through.
use Rattle.std.proofs.Common.{◌≡◌, ℕ, ◌+◌, ◌<◌, true, false, cond, List, length, get_or, drop, Some, ap, ◌∙◌}
use Rattle.std.specs.Str.{bytes_eq}
use Rattle.rel_sources.specs.declared.pair.Pair.{Pair}
use Rattle.rel_sources.specs.Scenes.{value_of}
use Rattle.rel_sources.proofs.Listed.{taken-at}

-- the parameter is the one of this name
pub named-here : (name : List ℕ) (ps : List Pair) (i : ℕ) (p : Pair) → i < length ps → p ≡ get_or ps i p → bytes_eq p.name name ≡ true → value_of name (drop i ps) ≡ Some p.value
named-here name ps i p below is same =
    ap (value_of name) (taken-at ps i p below is) ∙ ap (λ b. cond b (Some p.value) (value_of name (drop (i + 1) ps))) same

-- or it has another name
pub named-later : (name : List ℕ) (ps : List Pair) (i : ℕ) (p : Pair) → i < length ps → p ≡ get_or ps i p → bytes_eq p.name name ≡ false → value_of name (drop i ps) ≡ value_of name (drop (i + 1) ps)
named-later name ps i p below is other =
    ap (value_of name) (taken-at ps i p below is) ∙ ap (λ b. cond b (Some p.value) (value_of name (drop (i + 1) ps))) other
