-- Where a part stands in a text.
use Rattle.std.proofs.Common.{◌≡◌, ℕ, zero, suc, ◌+◌, ◌-◌, ◌<◌, ◌≤◌, Bool, true, false, cond, nat_eq, ◌||◌, MatchBool, is_some, List, [], ◌∷◌, ◌++◌, length, drop, Some, None, refl, sym, ap, ◌∙◌, arith, length-drop, length-append}
use Rattle.std.specs.declared.option.Option.{Option}
use Rattle.std.specs.Option.{option_map, MatchOption}
use Rattle.std.specs.List.{starts_with}
use Rattle.std.specs.Str.Pattern.{FindsText, RFindsText, HasTextAt, LacksTextAt, MatchBeginsAt, HasMatch}
use Rattle.std.proofs.lemmas.Bool.Decides.{Decides-eqb}
use Rattle.std.proofs.lemmas.Slice.Eq.{starts_is}
use Rattle.rel_value.specs.Signs.{occurs}
use Rattle.rel_sources.specs.Rows.{item_of, part_at, first_item, last_item}
use Rattle.rel_sources.specs.Words.{place_or, first_place, or_front, last_place}

stands : (part text rest : List ℕ) → text ≡ part ++ rest → starts_with nat_eq text part ≡ true
stands part text rest e = (starts_is Decides-eqb text part (starts_with nat_eq text part) refl).1 rest e

not-true : (b : Bool) → (b ≡ true → ⊥) → b ≡ false
not-true true lack = absurd (lack refl)
not-true false lack = refl

lacks : (part text : List ℕ) → LacksTextAt part text 0 → starts_with nat_eq text part ≡ false
lacks part text lack =
    not-true (starts_with nat_eq text part) (λ is. lack (drop (length part) text) ((starts_is Decides-eqb text part (starts_with nat_eq text part) refl).0 is))

place-here : (part text rest : List ℕ) (later : Option ℕ) → text ≡ part ++ rest → place_or part text later ≡ Some 0
place-here part text rest later e = ap (λ b. cond b (Some 0) later) (stands part text rest e)

place-later : (part text : List ℕ) (later : Option ℕ) → LacksTextAt part text 0 → place_or part text later ≡ later
place-later part text later lack = ap (λ b. cond b (Some 0) later) (lacks part text lack)

-- a part that stands nowhere
abbrev pub Nowhere : List ℕ → List ℕ → Type 0
Nowhere part text = (i : ℕ) → i ≤ length text → LacksTextAt part text i

nowhere-tail : (part : List ℕ) (x : ℕ) (xs : List ℕ) → Nowhere part (x ∷ xs) → Nowhere part xs
nowhere-tail part x xs lack = λ i below. lack (suc i) (omega arith)

pub first-none : (part text : List ℕ) → Nowhere part text → first_place part text ≡ None
first-none part [] lack = place-later part [] None (lack 0 (omega arith))
first-none part (x ∷ xs) lack =
    place-later part (x ∷ xs) (option_map suc (first_place part xs)) (lack 0 (omega arith)) ∙ ap (option_map suc) (first-none part xs (nowhere-tail part x xs lack))

pub first-at : (part text : List ℕ) (i : ℕ) (rest : List ℕ) → ((k : ℕ) → k < i → LacksTextAt part text k) → drop i text ≡ part ++ rest → i ≤ length text → first_place part text ≡ Some i
first-at part [] zero rest lack e below = place-here part [] rest None e
first-at part (x ∷ xs) zero rest lack e below = place-here part (x ∷ xs) rest (option_map suc (first_place part xs)) e
first-at part [] (suc i) rest lack e below = absurd (let most : suc i ≤ 0 = below in omega arith)
first-at part (x ∷ xs) (suc i) rest lack e below =
    place-later part (x ∷ xs) (option_map suc (first_place part xs)) (lack 0 (omega arith))
    ∙ ap (option_map suc) (first-at part xs i rest (λ k less. lack (suc k) (omega arith)) e (omega arith))

pub last-none : (part text : List ℕ) → Nowhere part text → last_place part text ≡ None
last-none part [] lack = place-later part [] None (lack 0 (omega arith))
last-none part (x ∷ xs) lack =
    ap (or_front part (x ∷ xs)) (last-none part xs (nowhere-tail part x xs lack)) ∙ place-later part (x ∷ xs) None (lack 0 (omega arith))

pub last-at : (part text : List ℕ) (i : ℕ) (rest : List ℕ) → ((k : ℕ) → i < k → k ≤ length text → LacksTextAt part text k) → drop i text ≡ part ++ rest → i ≤ length text → last_place part text ≡ Some i
last-at part [] zero rest lack e below = place-here part [] rest None e
last-at part [] (suc i) rest lack e below = absurd (let most : suc i ≤ 0 = below in omega arith)
last-at part (x ∷ xs) zero rest lack e below =
    ap (or_front part (x ∷ xs)) (last-none part xs (λ i less. lack (suc i) (omega arith) (omega arith))) ∙ place-here part (x ∷ xs) rest None e
last-at part (x ∷ xs) (suc i) rest lack e below =
    ap (or_front part (x ∷ xs)) (last-at part xs i rest (λ k less most. lack (suc k) (omega arith) (omega arith)) e (omega arith))

-- a part that isn't empty stands inside
pub inside : (part text : List ℕ) (i j : ℕ) → 0 < length part → HasTextAt part text i j → i + length part ≤ length text
inside part text i j some at =
    let split : length (drop i text) ≡ length part + length (drop j text) = ap length at.split ∙ length-append part (drop j text) in
    let left : length (drop i text) ≡ length text - i = length-drop i text in
    omega arith

-- what a search from the left finds is the leftmost place
pub found-first : (part text : List ℕ) (r : Option ℕ) → 0 < length part → MatchOption r (FindsText part text None) (MatchBeginsAt (FindsText part) text) → first_place part text ≡ r
found-first part text None some lack = first-none part text lack
found-first part text (Some i) some at =
    first-at part text i (drop at.0 text) at.1.0 at.1.1.split (let below = inside part text i at.0 some at.1.1 in omega arith)

-- what a search from the right finds is the rightmost place
pub found-last : (part text : List ℕ) (r : Option ℕ) → 0 < length part → MatchOption r (RFindsText part text None) (MatchBeginsAt (RFindsText part) text) → last_place part text ≡ r
found-last part text None some lack = last-none part text lack
found-last part text (Some i) some at =
    last-at part text i (drop at.0 text) at.1.0 at.1.1.split (let below = inside part text i at.0 some at.1.1 in omega arith)

-- the item of a part that was looked for
pub first-item-is : (part text : List ℕ) (r : Option ℕ) → 0 < length part → MatchOption r (FindsText part text None) (MatchBeginsAt (FindsText part) text) → first_item part text ≡ item_of (option_map (part_at part text) r)
first-item-is [] text r some found = absurd (let never : 0 < 0 = some in omega arith)
first-item-is (x ∷ xs) text r some found = ap (λ p. item_of (option_map (part_at (x ∷ xs) text) p)) (found-first (x ∷ xs) text r some found)

pub last-item-is : (part text : List ℕ) (r : Option ℕ) → 0 < length part → MatchOption r (RFindsText part text None) (MatchBeginsAt (RFindsText part) text) → last_item part text ≡ item_of (option_map (part_at part text) r)
last-item-is [] text r some found = absurd (let never : 0 < 0 = some in omega arith)
last-item-is (x ∷ xs) text r some found = ap (λ p. item_of (option_map (part_at (x ∷ xs) text) p)) (found-last (x ∷ xs) text r some found)

some-map : (o : Option ℕ) → is_some (option_map suc o) ≡ is_some o
some-map None = refl
some-map (Some n) = refl

some-or : (b : Bool) (o : Option ℕ) (c : Bool) → c ≡ is_some o → (b || c) ≡ is_some (cond b (Some 0) (option_map suc o))
some-or true o c e = refl
some-or false o c e = e ∙ sym (some-map o)

some-here : (b : Bool) → b ≡ is_some {T = ℕ} (cond b (Some 0) None)
some-here true = refl
some-here false = refl

-- a part occurs where it has a place
occurs-place : (part text : List ℕ) → occurs part text ≡ is_some (first_place part text)
occurs-place part [] = some-here (starts_with nat_eq [] part)
occurs-place part (x ∷ xs) = some-or (starts_with nat_eq (x ∷ xs) part) (first_place part xs) (occurs part xs) (occurs-place part xs)

-- what a test for a part answers
pub contains-is : (part text : List ℕ) (r : Bool) → MatchBool r (HasMatch (FindsText part) text) (FindsText part text None) → r ≡ occurs part text
contains-is part text true at =
    sym (occurs-place part text ∙ ap is_some (first-at part text at.0 (drop at.1 text) at.2.0 at.2.1.split (omega (arith, at.3, at.4))))
contains-is part text false lack = sym (occurs-place part text ∙ ap is_some (first-none part text lack))
