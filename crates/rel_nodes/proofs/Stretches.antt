-- Stretches of a trace, one after another, and looks that grow. Other crates may cite these lemmas.
use Rattle.std.proofs.Common.{◌≡◌, List, [], ◌∷◌, ◌++◌, refl, sym, ap, subst, ◌∙◌}
use Rattle.std.proofs.lemmas.List.{append-nil, append_assoc}
use Rattle.std.specs.declared.option.Option.{Option}
use Rattle.std.specs.declared.option.Option.TheVariants.{Some, None}
use Rattle.bf_machine.specs.Told.{Grows}
use Rattle.bf_world.specs.declared.key.Key.{Key}
use Rattle.rel_trace.specs.Trace.{Event, Look, Turn, Give, Trace, After}
use Rattle.rel_nodes.specs.Steps.{gives, keys, prepend}

pub prepend_append : (es fs : List Event) (t : Trace) → prepend (es ++ fs) t ≡ prepend es (prepend fs t)
prepend_append [] fs t = refl
prepend_append (e ∷ es) fs t = ap (After e) (prepend_append es fs t)

pub keys_append : (es fs : List Event) → keys (es ++ fs) ≡ keys es ++ keys fs
keys_append [] fs = refl
keys_append (Look p k ∷ es) fs = ap (λ x. k ∷ x) (keys_append es fs)
keys_append (Turn p ∷ es) fs = keys_append es fs
keys_append (Give v ∷ es) fs = keys_append es fs

pub gives_append : (es fs : List Event) → gives (es ++ fs) ≡ gives es ++ gives fs
gives_append [] fs = refl
gives_append (Look p k ∷ es) fs = gives_append es fs
gives_append (Turn p ∷ es) fs = gives_append es fs
gives_append (Give v ∷ es) fs = ap (λ x. v ∷ x) (gives_append es fs)

-- known looks that don't grow
pub grows_none : (l : Option (List Key)) → Grows l l []
grows_none None = refl
grows_none (Some xs) = sym (append-nil xs)

-- known looks that grow twice
pub grows_grows : (a b c : Option (List Key)) (m n : List Key) → Grows a b m → Grows b c n → Grows a c (m ++ n)
grows_grows None b c m n p q = subst (λ (x : Option (List Key)). Grows x c n) p q
grows_grows (Some x) None c m n p q = absurd p
grows_grows (Some x) (Some y) None m n p q = absurd q
grows_grows (Some x) (Some y) (Some z) m n p q = q ∙ ap (λ l. l ++ n) p ∙ append_assoc x m n
