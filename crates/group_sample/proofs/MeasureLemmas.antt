-- What is measured of properties, one after another, and the moments of their rows.
use Rattle.std.proofs.Common.{ℕ, suc, ◌≡◌, ◌+◌, ◌^◌, ◌<◌, ◌≤◌, ℤ, pos, negsuc, ◌+ℤ◌, ◌-ℤ◌, ◌≤ℤ◌, Bool, true, false, ◌||◌, cond, inl, inr, List, [], ◌∷◌, ◌++◌, map, length, filter, take, drop, get_or, ◌-◌, Option, Some, IfSome, bytes_eq, refl, sym, ap, subst, ◌∙◌, arith, append-nil, w64, FitsSigned}
use Rattle.std.specs.Prelude.{int_le}
use Rattle.std.specs.Int.Signed.{le_z}
use Rattle.std.proofs.lemmas.Int.{ints}
use Rattle.std.specs.List.{AllByRecursion, IsDistinct, list_any}
use Rattle.std.specs.declared.cmp.Ordering.{Ordering}
use Rattle.std.specs.declared.cmp.Ordering.TheVariants.{Less, Equal, Greater}
use Rattle.std.specs.Ordering.{match_ordering}
use Rattle.std.proofs.lemmas.Bool.{true≢false, or_parts}
use Rattle.std.proofs.Math.Seq.{drop-cons}
use Rattle.std.proofs.lemmas.List.{length-take-le}
use Rattle.std.proofs.lemmas.List.Elements.{All-cons, All-head, All-tail, All-get_or, filter_more}
use Rattle.std.proofs.lemmas.Map.Entries.{All-lookup}
use Rattle.std.specs.BTreeMap.{is_at}
use Rattle.bf_world.specs.Maps.{at, byte_order, put}
use Rattle.bf_machine.specs.Rises.{CountsFailed}
use Rattle.bf_machine.proofs.Telling.{CountsFailed-more, CountsFailed-one}
use Rattle.desk_base.specs.Counts.{Rose}
use Rattle.desk_base.specs.Moments.{IsMoment}
use Rattle.group_text.specs.declared.property.Property.{Property}
use Rattle.group_text.specs.Properties.{AreProperties, IsQuestion, names_of}
use Rattle.group_sample.specs.declared.sample.Sampled.{Sampled}
use Rattle.group_sample.specs.Due.{AreMoments, CanBeMeasured, with_rows}
use Rattle.group_sample.specs.Samples.{AreRows, Measures}

-- ---- one property more
pub measured_more : (IsRow : Property → Sampled → Type 0) (done : List Property) (p : Property) (rows : List Sampled) (row : Sampled) (failed : ℕ) → Measures IsRow done rows failed → IsRow p row
    → Measures IsRow (done ++ p ∷ []) (rows ++ row ∷ []) failed
measured_more IsRow [] p rows row failed so is = inl (row, [], ap (λ l. l ++ row ∷ []) so.0, is, (refl, so.1))
measured_more IsRow (d ∷ done) p rows row failed (inl (first, more, e, has, rest)) is =
    inl (first, more ++ row ∷ [], ap (λ l. l ++ row ∷ []) e, has, measured_more IsRow done p more row failed rest is)
measured_more IsRow (d ∷ done) p rows row failed (inr (fewer, e, rest)) is = inr (fewer, e, measured_more IsRow done p rows row fewer rest is)

pub measured_none : (IsRow : Property → Sampled → Type 0) (done : List Property) (p : Property) (rows : List Sampled) (failed more : ℕ) → Measures IsRow done rows failed → more ≡ failed + 1 → Measures IsRow (done ++ p ∷ []) rows more
measured_none IsRow [] p rows failed more so is = inr (0, omega (arith, so.1, is), (so.0, refl))
measured_none IsRow (d ∷ done) p rows failed more (inl (first, others, e, has, rest)) is = inl (first, others, e, has, measured_none IsRow done p others failed more rest is)
measured_none IsRow (d ∷ done) p rows failed more (inr (fewer, e, rest)) is = inr (fewer + 1, omega (arith, e, is), measured_none IsRow done p rows fewer (fewer + 1) rest refl)

-- one more of the properties that are looked at, which is measured if it passes
pub measured_next : (IsRow : Property → Sampled → Type 0) (test : Property → Bool) (ps : List Property) (i : ℕ) (p : Property) (rows more : List Sampled) (failed fails : ℕ) → i < length ps → p ≡ get_or ps i p
    → Measures IsRow (filter test (take i ps)) rows failed → ((done : List Property) → Measures IsRow done rows failed → Measures IsRow (done ++ filter test (p ∷ [])) more fails)
    → Measures IsRow (filter test (take (i + 1) ps)) more fails
measured_next IsRow test ps i p rows more failed fails within is so step =
    let Q : List Property → Type 0 = λ l. Measures IsRow l more fails in
    let whole : filter test (take (i + 1) ps) ≡ filter test (take i ps) ++ filter test (p ∷ []) = filter_more test ps i p within ∙ ap (λ (q : Property). filter test (take i ps) ++ cond (test q) (q ∷ []) []) (sym is) in
    subst Q (sym whole) (step (filter test (take i ps)) so)

-- ---- the rows of properties of distinct names
rows_apart : (IsRow : Property → Sampled → Type 0) → ((p : Property) (row : Sampled) → IsRow p row → row.property ≡ p.name) → (name : List ℕ) (ps : List Property) (rows : List Sampled) (failed : ℕ) → Measures IsRow ps rows failed
    → AllByRecursion (λ other. bytes_eq name other ≡ false) (names_of ps) → AllByRecursion (λ other. bytes_eq name other ≡ false) (map (λ (row : Sampled). row.property) rows)
rows_apart IsRow named name [] rows failed so apart =
    let P : List Sampled → Type 0 = λ rs. AllByRecursion (λ other. bytes_eq name other ≡ false) (map (λ (row : Sampled). row.property) rs) in
    subst P (sym so.0) tt
rows_apart IsRow named name (p ∷ ps) rows failed (inl (row, more, e, is, rest)) apart =
    let P : List Sampled → Type 0 = λ rs. AllByRecursion (λ other. bytes_eq name other ≡ false) (map (λ (row : Sampled). row.property) rs) in
    subst P (sym e) (ap (λ n. bytes_eq name n) (named p row is) ∙ apart.0, rows_apart IsRow named name ps more failed rest apart.1)
rows_apart IsRow named name (p ∷ ps) rows failed (inr (fewer, e, rest)) apart = rows_apart IsRow named name ps rows fewer rest apart.1

pub rows_distinct : (IsRow : Property → Sampled → Type 0) → ((p : Property) (row : Sampled) → IsRow p row → row.property ≡ p.name) → (ps : List Property) (rows : List Sampled) (failed : ℕ) → Measures IsRow ps rows failed
    → IsDistinct bytes_eq (names_of ps) → IsDistinct bytes_eq (map (λ (row : Sampled). row.property) rows)
unfolding IsDistinct
rows_distinct IsRow named [] rows failed so distinct =
    let P : List Sampled → Type 0 = λ rs. IsDistinct bytes_eq (map (λ (row : Sampled). row.property) rs) in
    subst P (sym so.0) tt
rows_distinct IsRow named (p ∷ ps) rows failed (inl (row, more, e, is, rest)) distinct =
    let P : List Sampled → Type 0 = λ rs. IsDistinct bytes_eq (map (λ (row : Sampled). row.property) rs) in
    let A : List ℕ → Type 0 = λ n. AllByRecursion (λ other. bytes_eq n other ≡ false) (names_of ps) in
    subst P (sym e) (rows_apart IsRow named row.property ps more failed rest (subst A (sym (named p row is)) distinct.0), rows_distinct IsRow named ps more failed rest distinct.1)
rows_distinct IsRow named (p ∷ ps) rows failed (inr (fewer, e, rest)) distinct = rows_distinct IsRow named ps rows fewer rest distinct.1

pub rows_few : (IsRow : Property → Sampled → Type 0) (ps : List Property) (rows : List Sampled) (failed : ℕ) → Measures IsRow ps rows failed → length rows + failed ≡ length ps
rows_few IsRow [] rows failed so = let none : length rows ≡ 0 = ap (length {A = Sampled}) so.0 in omega (arith, so.1)
rows_few IsRow (p ∷ ps) rows failed (inl (row, more, e, is, rest)) =
    let count : length rows ≡ suc (length more) = ap (length {A = Sampled}) e in let k = rows_few IsRow ps more failed rest in omega arith
rows_few IsRow (p ∷ ps) rows failed (inr (fewer, e, rest)) = let k = rows_few IsRow ps rows fewer rest in omega (arith, e)

-- ---- some of the properties
apart_some : (test : Property → Bool) (name : List ℕ) (ps : List Property) → AllByRecursion (λ other. bytes_eq name other ≡ false) (names_of ps) → AllByRecursion (λ other. bytes_eq name other ≡ false) (names_of (filter test ps))
apart_some test name [] apart = tt
apart_some test name (p ∷ ps) apart = by (test p) (apart_some test name ps apart.1)
  where
    by : (b : Bool) → AllByRecursion (λ other. bytes_eq name other ≡ false) (names_of (filter test ps)) → AllByRecursion (λ other. bytes_eq name other ≡ false) (names_of (cond b (p ∷ filter test ps) (filter test ps)))
    by true rest = (apart.0, rest)
    by false rest = rest

pub distinct_some : (test : Property → Bool) (ps : List Property) → IsDistinct bytes_eq (names_of ps) → IsDistinct bytes_eq (names_of (filter test ps))
unfolding IsDistinct
distinct_some test [] distinct = tt
distinct_some test (p ∷ ps) distinct = by (test p) (distinct_some test ps distinct.1)
  where
    by : (b : Bool) → IsDistinct bytes_eq (names_of (filter test ps)) → IsDistinct bytes_eq (names_of (cond b (p ∷ filter test ps) (filter test ps)))
    by true rest = (apart_some test p.name ps distinct.0, rest)
    by false rest = rest

pub fewer_some : (test : Property → Bool) (ps : List Property) → length (filter test ps) ≤ length ps
fewer_some test [] = omega arith
fewer_some test (p ∷ ps) = by (test p) (fewer_some test ps)
  where
    by : (b : Bool) → length (filter test ps) ≤ length ps → length (cond b (p ∷ filter test ps) (filter test ps)) ≤ suc (length ps)
    by true le = omega arith
    by false le = omega arith

-- fewer failed than there are properties
pub failed_few : (IsRow : Property → Sampled → Type 0) (test : Property → Bool) (ps : List Property) (i : ℕ) (rows : List Sampled) (failed : ℕ) → length ps < 2 ^ 32 → i < length ps → Measures IsRow (filter test (take i ps)) rows failed
    → failed < 2 ^ 32 - 1
failed_few IsRow test ps i rows failed few within so =
    let count = rows_few IsRow (filter test (take i ps)) rows failed so in
    let le = fewer_some test (take i ps) in
    let front : length (take i ps) ≡ i = length-take-le i ps (omega arith) in
    omega arith

-- the rows of a sample
pub are_rows : (IsRow : Property → Sampled → Type 0) → ((p : Property) (row : Sampled) → IsRow p row → row.property ≡ p.name) → (test : Property → Bool) (ps : List Property) (rows : List Sampled) (failed : ℕ) → CanBeMeasured ps
    → Measures IsRow (filter test ps) rows failed → AreRows rows
are_rows IsRow named test ps rows failed can so =
    let count = rows_few IsRow (filter test ps) rows failed so in
    let le = fewer_some test ps in
    record { few = omega (arith, can.few); distinct = rows_distinct IsRow named (filter test ps) rows failed so (distinct_some test ps can.good.distinct) }

-- ---- whether one is due
pub none_due : {X : Type 0} (test : X → Bool) (xs : List X) → list_any test xs ≡ false → filter test xs ≡ []
none_due test [] e = refl
none_due test (x ∷ xs) e = let parts = or_parts (test x) (list_any test xs) e in ap (λ b. cond b (x ∷ filter test xs) (filter test xs)) parts.0 ∙ none_due test xs parts.1

pub some_due : {X : Type 0} (test : X → Bool) (xs : List X) → list_any test xs ≡ true → 0 < length (filter test xs)
some_due test [] e = absurd (true≢false (sym e))
some_due test (x ∷ xs) e = by (test x) e (some_due test xs)
  where
    by : (b : Bool) → (b || list_any test xs) ≡ true → (list_any test xs ≡ true → 0 < length (filter test xs)) → 0 < length (cond b (x ∷ filter test xs) (filter test xs))
    by true e rest = omega arith
    by false e rest = rest e

-- ---- the moments of rows
put_moment : (name : List ℕ) (moment : ℤ) (moments : List (List ℕ × ℤ)) → IsMoment moment → AreMoments moments → AreMoments (put name moment moments)
put_moment name moment [] is are = All-cons (λ (entry : List ℕ × ℤ). IsMoment entry.1) (name, moment) [] is are
put_moment name moment (e ∷ es) is are = by (byte_order name e.0) (put_moment name moment es is (All-tail P e es are))
  where
    P : List ℕ × ℤ → Type 0
    P entry = IsMoment entry.1

    by : (r : Ordering) → AreMoments (put name moment es) → AreMoments (match_ordering r ((name, moment) ∷ e ∷ es) ((e.0, moment) ∷ es) (e ∷ put name moment es))
    by Less rest = All-cons P (name, moment) (e ∷ es) is are
    by Equal rest = All-cons P (e.0, moment) es is (All-tail P e es are)
    by Greater rest = All-cons P e (put name moment es) (All-head P e es are) rest

pub rows_moments : (IsRow : Property → Sampled → Type 0) (moment : ℤ) → ((p : Property) (row : Sampled) → IsRow p row → row.moment ≡ moment) → IsMoment moment → (ps : List Property) (rows : List Sampled) (failed : ℕ)
    → Measures IsRow ps rows failed → (moments : List (List ℕ × ℤ)) → AreMoments moments → AreMoments (with_rows rows moments)
rows_moments IsRow moment at is [] rows failed so moments are =
    let P : List Sampled → Type 0 = λ rs. AreMoments (with_rows rs moments) in subst P (sym so.0) are
rows_moments IsRow moment at is (p ∷ ps) rows failed (inl (row, more, e, has, rest)) moments are =
    let P : List Sampled → Type 0 = λ rs. AreMoments (with_rows rs moments) in
    let M : ℤ → Type 0 = IsMoment in
    subst P (sym e) (rows_moments IsRow moment at is ps more failed rest (put row.property row.moment moments) (put_moment row.property row.moment moments (subst M (sym (at p row has)) is) are))
rows_moments IsRow moment at is (p ∷ ps) rows failed (inr (fewer, e, rest)) moments are = rows_moments IsRow moment at is ps rows fewer rest moments are

-- the moment of a last row is one
pub found_moment : (name : List ℕ) (moments : List (List ℕ × ℤ)) (last : ℤ) → AreMoments moments → Some last ≡ at name moments → IsMoment last
found_moment name moments last are e =
    let P : Option ℤ → Type 0 = λ o. IfSome o IsMoment in
    subst P (sym e) (All-lookup IsMoment (is_at (byte_order name)) moments are)

-- with the rows that are left it comes to the same
pub row_next : (rows : List Sampled) (i : ℕ) (row : Sampled) (after new moments : List (List ℕ × ℤ)) → i < length rows → row ≡ get_or rows i row → new ≡ put row.property row.moment after
    → with_rows (drop i rows) after ≡ with_rows rows moments → with_rows (drop (i + 1) rows) new ≡ with_rows rows moments
row_next rows i row after new moments within is putting so =
    let next : suc i ≡ i + 1 = omega arith in
    let first : drop i rows ≡ row ∷ drop (i + 1) rows = drop-cons rows i row within ∙ (λ k. sym is k ∷ drop (next k) rows) in
    ap (with_rows (drop (i + 1) rows)) putting ∙ ap (λ l. with_rows l after) (sym first) ∙ so

-- a property has a question
pub question_at : (ps : List Property) (i : ℕ) (p : Property) → i < length ps → p ≡ get_or ps i p → AreProperties ps → IsQuestion p.question
question_at ps i p within is are =
    let P : Property → Type 0 = λ q. IsQuestion q.question in
    subst P (sym is) (All-get_or P ps i p within are.questions)

-- ---- one property
-- one that isn't due
pub not_due : (IsRow : Property → Sampled → Type 0) (test : Property → Bool) (p : Property) (rows : List Sampled) (failed : ℕ) → test p ≡ false → (done : List Property) → Measures IsRow done rows failed
    → Measures IsRow (done ++ filter test (p ∷ [])) rows failed
not_due IsRow test p rows failed due done so =
    let Q : List Property → Type 0 = λ l. Measures IsRow l rows failed in
    subst Q (sym (ap (λ b. done ++ cond b (p ∷ []) []) due ∙ append-nil done)) so

-- one that has its row
pub has_row : (IsRow : Property → Sampled → Type 0) (test : Property → Bool) (p : Property) (rows more : List Sampled) (row : Sampled) (failed : ℕ) → test p ≡ true → IsRow p row → more ≡ rows ++ row ∷ [] → (done : List Property)
    → Measures IsRow done rows failed → Measures IsRow (done ++ filter test (p ∷ [])) more failed
has_row IsRow test p rows more row failed due is put done so =
    let Q : List Property → Type 0 = λ l. Measures IsRow l more failed in
    let R : List Sampled → Type 0 = λ l. Measures IsRow (done ++ p ∷ []) l failed in
    subst Q (sym (ap (λ b. done ++ cond b (p ∷ []) []) due)) (subst R (sym put) (measured_more IsRow done p rows row failed so is))

-- one at whose question a look failed
pub has_failed : (IsRow : Property → Sampled → Type 0) (test : Property → Bool) (p : Property) (rows : List Sampled) (failed more : ℕ) → test p ≡ true → more ≡ failed + 1 → (done : List Property) → Measures IsRow done rows failed
    → Measures IsRow (done ++ filter test (p ∷ [])) rows more
has_failed IsRow test p rows failed more due is done so =
    let Q : List Property → Type 0 = λ l. Measures IsRow l rows more in
    subst Q (sym (ap (λ b. done ++ cond b (p ∷ []) []) due)) (measured_none IsRow done p rows failed more so is)

-- the count of faults behind it
pub none_failed : (failed first old new : ℕ) → CountsFailed failed first old → new ≡ old → CountsFailed failed first new
none_failed failed first old new so same = let C : ℕ → Type 0 = CountsFailed failed first in subst C (sym same) so

pub one_failed : (failed first old new : ℕ) → CountsFailed failed first old → Rose old new → CountsFailed (failed + 1) first new
one_failed failed first old new so rose = CountsFailed-more failed 1 first old new so (CountsFailed-one old new rose)

-- ---- numbers with a sign
pub moment_fits : (moment : ℤ) → IsMoment moment → FitsSigned w64 moment
moment_fits (pos n) h = record { sfits = omega (arith, ints, h.1) }
moment_fits (negsuc n) h = absurd (omega (arith, ints, h.0))

fits_between : (z : ℤ) → negsuc (2 ^ 63 - 1) ≤ℤ z → z ≤ℤ pos (2 ^ 63 - 1) → FitsSigned w64 z
fits_between (pos n) low high = record { sfits = omega (arith, ints, high) }
fits_between (negsuc n) low high = record { sfits = omega (arith, ints, low) }

pub difference_fits : (a b : ℤ) → IsMoment a → IsMoment b → FitsSigned w64 (a -ℤ b)
difference_fits a b is also = fits_between (a -ℤ b) (omega (arith, ints, is.0, is.1, also.0, also.1)) (omega (arith, ints, is.0, is.1, also.0, also.1))

-- a period is over at a moment where as much time has gone by
pub over_is : (last period moment : ℤ) → le_z period (moment -ℤ last) ≡ int_le (last +ℤ period) moment
over_is last period moment = grind (arith, ints)
