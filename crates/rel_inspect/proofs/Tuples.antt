-- The parts of a tuple of the code, and that they are sound.
use Rattle.std.proofs.Common.{◌≡◌, ℕ, ◌<◌, ◌≤◌, ℤ, pos, negsuc, true, false, nat_lt, nat_abs, int_lt, length, get_or, List, [], ◌∷◌, ◌++◌, map, All, IfSome, Bor, Some, None, refl, sym, ap, subst, ◌∙◌, append_assoc, arith}
use Rattle.std.specs.declared.option.Option.{Option}
use Rattle.std.specs.Option.{option_map, option_copied}
use Rattle.std.proofs.lemmas.Option.{same_Some, slice_get-map, slice_get_read, slice_get_past}
use Rattle.std.proofs.lemmas.Bool.Decides.{nat_tests}
use Rattle.std.proofs.lemmas.List.Elements.{All-nil, All-cons, All-head, All-tail, All-append}
use Rattle.std.proofs.lemmas.List.{append-nil}
use Rattle.rel_value.specs.declared.value.Value.{Value}
use Rattle.rel_value.specs.declared.value.Values.{Values}
use Rattle.rel_value.specs.declared.value.Value.TheFolds.{fold_out-Values}
use Rattle.rel_value.specs.Plain.{Plain, tuple, Parts, no_parts, more_parts}
use Rattle.rel_value.specs.Views.{value_step, values_step, shown, shown_parts, value_items, parted}
use Rattle.rel_value.specs.Operands.{IsSound, AreSound}
use Rattle.rel_inspect.specs.Offered.{part_list, parts_in}
use Rattle.rel_sources.specs.Rows.{part_numbered, item_of}
use Rattle.rel_sources.specs.Traces.{once}
use Rattle.rel_inspect.specs.Props.{with}
use Rattle.rel_inspect.specs.Facets.{IsSoundOffer}

list-parted : (ps : Parts) (vs : List Plain) → part_list (parted ps vs) ≡ part_list ps ++ vs
list-parted ps [] = sym (append-nil (part_list ps))
list-parted ps (v ∷ vs) = list-parted (more_parts ps v) vs ∙ append_assoc (part_list ps) (v ∷ []) vs

-- the parts of a tuple, from the first
pub parts-are : (l : Values) → part_list (shown_parts l) ≡ map shown (value_items l)
parts-are l = ap part_list (fold_out-Values Plain Parts value_step values_step l) ∙ list-parted no_parts (map shown (value_items l))

-- ---- soundness

sound-list : (ps : Parts) → AreSound ps → All IsSound (part_list ps)
sound-list no_parts h = All-nil IsSound
sound-list (more_parts ps v) h = All-append IsSound (part_list ps) (v ∷ []) (sound-list ps h.0) (All-cons IsSound v [] h.1 (All-nil IsSound))

sound-offer : (o : Option Plain) (vs : List Plain) → IsSoundOffer o → Some vs ≡ parts_in o → All IsSound vs
sound-offer (Some (tuple ps)) vs h e = subst (λ (l : List Plain). All IsSound l) (sym (same_Some vs (part_list ps) e)) (sound-list ps h)
sound-offer _ vs h e = cc

sound-shown : (vs : List Value) → All IsSound (map shown vs) → All (λ (v : Value). IsSound (shown v)) vs
sound-shown [] h = All-nil (λ (v : Value). IsSound (shown v))
sound-shown (v ∷ vs) h =
    All-cons (λ (x : Value). IsSound (shown x)) v vs (All-head IsSound (shown v) (map shown vs) h) (sound-shown vs (All-tail IsSound (shown v) (map shown vs) h))

-- the parts of a sound tuple are sound
pub sound-parts : (o : Option Plain) (vs : List Value) → IsSoundOffer o → Some (map shown vs) ≡ parts_in o → All (λ (v : Value). IsSound (shown v)) vs
sound-parts o vs h e = sound-shown vs (sound-offer o (map shown vs) h e)

-- the parts that an object offers
pub offer-sound : (o : Option Plain) (parts : Option (Bor (List Value))) → IsSoundOffer o → option_map (map shown) (option_copied parts) ≡ parts_in o → IfSome parts (λ ps. All (λ (v : Value). IsSound (shown v)) ps.now)
offer-sound o None h e = tt
offer-sound o (Some b) h e = sound-parts o b.now h e

below : (a b : ℕ) → true ≡ nat_lt a b → a < b
below a b e = grind (arith, nat_tests)

beyond : (a b : ℕ) → false ≡ nat_lt a b → b ≤ a
beyond a b e = grind (arith, nat_tests)

-- the part of a number that is in the tuple
pub part-there : (z : ℤ) (vs : List Value) (v : Value) → int_lt z (pos 0) ≡ false → true ≡ nat_lt (nat_abs z) (length vs) → v ≡ get_or vs (nat_abs z) v → part_numbered z (map shown vs) ≡ Some (shown v)
part-there (pos k) vs v some inside is =
    slice_get-map shown vs k ∙ ap (option_map shown) (slice_get_read vs (length vs) k v refl (below k (length vs) inside) is)
part-there (negsuc k) vs v some inside is = cc

-- and of one that isn't
pub part-absent : (z : ℤ) (vs : List Value) → int_lt z (pos 0) ≡ false → false ≡ nat_lt (nat_abs z) (length vs) → part_numbered z (map shown vs) ≡ None
part-absent (pos k) vs some outside = slice_get-map shown vs k ∙ ap (option_map shown) (slice_get_past vs k (beyond k (length vs) outside))
part-absent (negsuc k) vs some outside = cc

-- what the row gives
pub part-row : (number : Option ℤ) (parts : Option (List Value)) (n : ℤ) (vs : List Value) (r : Option Plain) → number ≡ Some n → parts ≡ Some vs → part_numbered n (map shown vs) ≡ r
    → with number (λ n. with (option_map (map shown) parts) (λ ps. once (item_of (part_numbered n ps)))) ≡ once (item_of r)
part-row number parts n vs r e f g =
    ap (λ (x : Option ℤ). with x (λ n. with (option_map (map shown) parts) (λ ps. once (item_of (part_numbered n ps))))) e
    ∙ ap (λ (x : Option (List Value)). with (option_map (map shown) x) (λ ps. once (item_of (part_numbered n ps)))) f
    ∙ ap (λ (x : Option Plain). once (item_of x)) g
