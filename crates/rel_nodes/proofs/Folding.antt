-- Aggregates without an argument don't look at the argument around them.
use Rattle.std.proofs.Common.{◌≡◌, refl, ap, ◌∙◌, Option, Some}
use Rattle.rel_lexer.specs.declared.place.Place.{Place}
use Rattle.rel_value.specs.Plain.{Plain, PlainKind, intervals}
use Rattle.rel_types.specs.declared.head.Aggregate.{Aggregate}
use Rattle.rel_types.specs.declared.head.Aggregate.TheVariants as of
use Rattle.rel_types.specs.Plans.{no_node}
use Rattle.rel_trace.specs.declared.fold.Fold.{Fold}
use Rattle.rel_trace.specs.Trace.{Stop, Error, Look, Turn, Give, Trace, Ends, After}
use Rattle.rel_trace.specs.Folds.{more, onward, folded}
use Rattle.rel_nodes.specs.Meaning.{fold_of, sum_of}

-- a fold that makes the same of each value gives the same
pub same_folded : (f : Fold) (x y : Option Plain) (p : Place) → ((held : Option Plain) (v : Plain) → more f x held v ≡ more f y held v) → (held : Option Plain) (t : Trace) → folded f x p held t ≡ folded f y p held t
same_folded f x y p same held (Ends Stop) = refl
same_folded f x y p same held (Ends (Error k q)) = refl
same_folded f x y p same held (After (Look q k) t) = ap (After (Look q k)) (same_folded f x y p same held t)
same_folded f x y p same held (After (Turn q) t) = ap (After (Turn q)) (same_folded f x y p same held t)
same_folded f x y p same held (After (Give v) t) =
    ap (λ o. onward f p o (λ h. folded f x p (Some h) t)) (same held v)
    ∙ ap (λ (rest : Plain → Trace). onward f p (more f y held v) rest) (λ i h. same_folded f x y p same (Some h) t i)

sum_same : (k : PlainKind) (x y held : Option Plain) (v : Plain) → more (sum_of k) x held v ≡ more (sum_of k) y held v
sum_same intervals x y held v = refl
sum_same k x y held v = refl

pub unargued : (g : Aggregate) (k : PlainKind) (x y held : Option Plain) (v : Plain) → more (fold_of g k no_node) x held v ≡ more (fold_of g k no_node) y held v
unargued of.Number k x y held v = refl
unargued of.Sum k x y held v = sum_same k x y held v
unargued of.Maximum k x y held v = refl
unargued of.Minimum k x y held v = refl
unargued of.Conjunction k x y held v = refl
unargued of.Disjunction k x y held v = refl
unargued of.Concatenation k x y held v = refl
