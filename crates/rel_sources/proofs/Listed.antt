-- A list that is gone through.
use Rattle.std.proofs.Common.{◌≡◌, ℕ, ◌+◌, ◌<◌, List, ◌∷◌, length, get_or, drop, map, Ok, Err, IfOk, sym, ap, ◌∙◌}
use Rattle.std.specs.declared.result.Result.{Result}
use Rattle.std.proofs.lemmas.List.{at_drop_more, drop-map}
use Rattle.rel_sources.specs.Traces.{Item}

-- what holds of a good answer
pub ok-more : {T E : Type 0} (r : Result T E) (P Q : T → Type 0) → ((v : T) → P v → Q v) → IfOk r P → IfOk r Q
ok-more (Ok v) P Q more h = more v h
ok-more (Err e) P Q more h = tt

pub taken-at : {A : Type 0} (xs : List A) (i : ℕ) (x : A) → i < length xs → x ≡ get_or xs i x → drop i xs ≡ x ∷ drop (i + 1) xs
taken-at xs i x below is = at_drop_more (λ l. l) xs i x below ∙ ap (λ y. y ∷ drop (i + 1) xs) (sym is)

-- the item of the member at a place
pub member-at : {A : Type 0} (items : List Item) (f : A → Item) (xs : List A) (i : ℕ) (x : A) (item : Item) → items ≡ map f xs → i < length xs → x ≡ get_or xs i x → item ≡ f x → drop i items ≡ item ∷ drop (i + 1) items
member-at items f xs i x item all below is same =
    ap (drop i) all ∙ drop-map f i xs ∙ ap (map f) (taken-at xs i x below is) ∙ ap (λ y. y ∷ map f (drop (i + 1) xs)) (sym same)
    ∙ ap (λ l. item ∷ l) (sym (drop-map f (i + 1) xs) ∙ ap (drop (i + 1)) (sym all))
