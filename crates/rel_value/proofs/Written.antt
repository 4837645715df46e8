-- Tuples as they are written.
use Rattle.std.proofs.Common.{◌≡◌, ℕ, zero, suc, ◌+◌, ◌<◌, ◌≤◌, ℤ, List, [], ◌∷◌, ◌++◌, length, take, drop, get_or, map, Err, refl, sym, ap, subst, ◌∙◌, arith, append_assoc, length-append}
use Rattle.std.proofs.lemmas.List.{take_more, take-append-drop, map-append}
use Rattle.rel_value.specs.declared.value.Value.{Value}
use Rattle.rel_value.specs.Operands.{IsSound, AreSound}
use Rattle.rel_value.specs.declared.fault.ValueFault.{ValueFault}
use Rattle.rel_value.specs.declared.fault.ValueFault.TheVariants.{DivideByZero, OutOfRange, Absent, TextTooLong, Memory}
use Rattle.rel_value.specs.Outcomes.{Writes}
use Rattle.rel_value.specs.Plain.{Plain, Parts, no_parts, more_parts}
use Rattle.rel_value.specs.Texts.{text_of, texts_of, comma_after, enclosed}
use Rattle.rel_value.specs.Views.{shown, parted}
use Rattle.rel_value.proofs.Shown.{parts-pushed}

comma-after : (l : Parts) (x : Plain) (xs : List Plain) → comma_after (parted l (x ∷ xs)) ≡ 44 ∷ 32 ∷ []
comma-after l x [] = refl
comma-after l x (y ∷ ys) = comma-after (more_parts l x) y ys

-- what is written before the part at such an index
pub comma-first : (xs : List Value) (i : ℕ) → i ≤ 0 → [] ≡ comma_after (parted no_parts (map shown (take i xs)))
comma-first xs zero none = refl
comma-first xs (suc i) none = absurd (omega arith)

pub comma-more : (xs : List Value) (i : ℕ) → 0 < i → i < length xs → 44 ∷ 32 ∷ [] ≡ comma_after (parted no_parts (map shown (take i xs)))
comma-more [] i some below = absurd (omega arith)
comma-more (x ∷ xs) zero some below = absurd (omega arith)
comma-more (x ∷ xs) (suc i) some below = sym (comma-after no_parts (shown x) (map shown (take i xs)))

-- one more part is written
pub part-written : (start out comma dotted more : List ℕ) (offset : ℤ) (xs : List Value) (i : ℕ) (v : Value) → out ≡ start ++ texts_of offset (parted no_parts (map shown (take i xs))) → i < length xs → v ≡ get_or xs i v → comma ≡ comma_after (parted no_parts (map shown (take i xs))) → dotted ≡ out ++ comma → more ≡ dotted ++ enclosed (shown v) (text_of offset (shown v)) → more ≡ start ++ texts_of offset (parted no_parts (map shown (take (i + 1) xs)))
part-written start out comma dotted more offset xs i v e below is c d m =
    let before : Parts = parted no_parts (map shown (take i xs)) in
    let text : List ℕ = enclosed (shown v) (text_of offset (shown v)) in
    let longer : take (i + 1) xs ≡ take i xs ++ v ∷ [] = take_more xs i v below ∙ ap (λ x. take i xs ++ x ∷ []) (sym is) in
    let pushed : parted no_parts (map shown (take (i + 1) xs)) ≡ more_parts before (shown v) = ap (λ l. parted no_parts (map shown l)) longer ∙ parts-pushed (take i xs) v in
    let together : ((start ++ texts_of offset before) ++ comma_after before) ++ text ≡ start ++ ((texts_of offset before ++ comma_after before) ++ text) = simp append_assoc in
    m ∙ ap (λ l. l ++ text) d ∙ ap (λ l. (l ++ comma) ++ text) e ∙ ap (λ l. ((start ++ texts_of offset before) ++ l) ++ text) c ∙ together ∙ ap (λ l. start ++ texts_of offset l) (sym pushed)

texts-grow : (offset : ℤ) (l : Parts) (xs : List Plain) → length (texts_of offset l) ≤ length (texts_of offset (parted l xs))
texts-grow offset l [] = omega arith
texts-grow offset l (x ∷ xs) =
    let t : List ℕ = enclosed x (text_of offset x) in
    omega (arith, texts-grow offset (more_parts l x) xs, length-append (texts_of offset l ++ comma_after l) t, length-append (texts_of offset l) (comma_after l))

parted-append : (l : Parts) (xs ys : List Plain) → parted l (xs ++ ys) ≡ parted (parted l xs) ys
parted-append l [] ys = refl
parted-append l (x ∷ xs) ys = parted-append (more_parts l x) xs ys

front-shorter : (offset : ℤ) (xs : List Value) (i : ℕ) → length (texts_of offset (parted no_parts (map shown (take i xs)))) ≤ length (texts_of offset (parted no_parts (map shown xs)))
front-shorter offset xs i =
    let cut : parted no_parts (map shown xs) ≡ parted (parted no_parts (map shown (take i xs))) (map shown (drop i xs)) =
    ap (λ l. parted no_parts (map shown l)) (sym (take-append-drop i xs)) ∙ ap (parted no_parts) (map-append shown (take i xs) (drop i xs)) ∙ parted-append no_parts (map shown (take i xs)) (map shown (drop i xs)) in
    let P : Parts → Type 0 = λ p. length (texts_of offset (parted no_parts (map shown (take i xs)))) ≤ length (texts_of offset p) in
    subst P (sym cut) (texts-grow offset (parted no_parts (map shown (take i xs))) (map shown (drop i xs)))

-- what is too long so far is too long
pub too-long : (start out : List ℕ) (offset : ℤ) (xs : List Value) (i : ℕ) → out ≡ start ++ texts_of offset (parted no_parts (map shown (take i xs))) → 1048576 < length out → 1048576 < length start + length (texts_of offset (parted no_parts (map shown xs)))
too-long start out offset xs i e long =
    omega (arith, ap (length {A = ℕ}) e, length-append start (texts_of offset (parted no_parts (map shown (take i xs)))), front-shorter offset xs i)

pub part-too-long : (start out comma dotted : List ℕ) (offset : ℤ) (xs : List Value) (i : ℕ) (v : Value) → out ≡ start ++ texts_of offset (parted no_parts (map shown (take i xs))) → i < length xs → v ≡ get_or xs i v → comma ≡ comma_after (parted no_parts (map shown (take i xs))) → dotted ≡ out ++ comma → 1048576 < length dotted + length (enclosed (shown v) (text_of offset (shown v))) → 1048576 < length start + length (texts_of offset (parted no_parts (map shown xs)))
part-too-long start out comma dotted offset xs i v e below is c d long =
    let text : List ℕ = enclosed (shown v) (text_of offset (shown v)) in
    too-long start (dotted ++ text) offset xs (i + 1) (part-written start out comma dotted (dotted ++ text) offset xs i v e below is c d refl) (omega (arith, length-append dotted text))

-- a fault at a part is one at the list
pub fault-moves : (a e s t n : List ℕ) (fault : ValueFault) → (1048576 < length a + length e → 1048576 < length s + length t) → Writes {A = Unit {0}} a e n (Err fault) → Writes {A = Unit {0}} s t n (Err fault)
fault-moves a e s t n TextTooLong long w = long w
fault-moves a e s t n DivideByZero long w = w
fault-moves a e s t n OutOfRange long w = w
fault-moves a e s t n Absent long w = w
fault-moves a e s t n Memory long w = w

-- each part of a sound list is sound
sound-before : (l : Parts) (xs : List Value) → AreSound (parted l (map shown xs)) → AreSound l
sound-before l [] h = h
sound-before l (x ∷ xs) h = (sound-before (more_parts l (shown x)) xs h).0

pub sound-part : (l : Parts) (xs : List Value) (i : ℕ) (v : Value) → AreSound (parted l (map shown xs)) → i < length xs → v ≡ get_or xs i v → IsSound (shown v)
sound-part l [] i v h below is = absurd (omega arith)
sound-part l (x ∷ xs) zero v h below is = let P : Value → Type 0 = λ w. IsSound (shown w) in subst P (sym is) (sound-before (more_parts l (shown x)) xs h).1
sound-part l (x ∷ xs) (suc i) v h below is = sound-part (more_parts l (shown x)) xs i v h (omega arith) is
