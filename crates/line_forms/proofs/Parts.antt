-- Parts of texts: sets of lists of lines, one behind another, and where the lines ahead go on with none. Other crates may cite these
-- lemmas.
use Rattle.std.proofs.Common.{ℕ, ◌≡◌, List, [], ◌∷◌, ◌++◌, Bool, true, false, refl, sym, ap, subst, ◌∙◌, ◌⊎◌, inl, inr, append_assoc, append-nil}
use Rattle.std.proofs.lemmas.List.{append_cancel_left}
use Rattle.line_forms.specs.LineStates.{LineState}
use Rattle.line_forms.specs.BadLines.{Begins}
use Rattle.line_forms.specs.Readers.{AreLinesOf, StopsAt, IsNotAhead, IsStuck, Passes, TakesExactly}
use Rattle.line_forms.proofs.Passing.{cons_head, cons_tail, passes_none, passes_then}

-- lists of lines
abbrev pub Lines : Type 0
Lines = List (List ℕ)

-- two lists that begin one list: one of them begins the other
abbrev pub Splits : Lines → Lines → Lines → Lines → Type 0
Splits a b c d =
    ((x : Lines) × (c ≡ a ++ x) × (b ≡ x ++ d)) ⊎ ((y : Lines) × (a ≡ c ++ y) × (d ≡ y ++ b))

splits_cons : (x : List ℕ) (a b c d : Lines) → Splits a b c d → Splits (x ∷ a) b (x ∷ c) d
splits_cons x a b c d (inl h) = inl (h.0, ap (λ l. x ∷ l) h.1, h.2)
splits_cons x a b c d (inr h) = inr (h.0, ap (λ l. x ∷ l) h.1, h.2)

pub splits : (a b c d : Lines) → a ++ b ≡ c ++ d → Splits a b c d
splits [] b c d h = inl (c, refl, h)
splits (x ∷ a) b [] d h = inr (x ∷ a, refl, sym h)
splits (x ∷ a) b (y ∷ c) d h =
    let same : x ≡ y = cons_head x y (a ++ b) (c ++ d) h in
    let P : List ℕ → Type 0 = λ z. Splits (x ∷ a) b (z ∷ c) d in
    subst P same (splits_cons x a b c d (splits a b c d (cons_tail x y (a ++ b) (c ++ d) h)))

-- the value that is spelled is known by its lines, whatever follows
abbrev pub IsOneWay : {V : Type 0} → (V → Type 0) → (V → Lines) → Type 0
IsOneWay {V} Is lines_of =
    (v w : V) (x y : Lines) → Is v → Is w → lines_of v ++ x ≡ lines_of w ++ y → v ≡ w

-- what follows the same value's lines is the same
pub rest_same : {V : Type 0} (lines_of : V → Lines) (v w : V) (x y : Lines) → v ≡ w → lines_of v ++ x ≡ lines_of w ++ y → x ≡ y
rest_same lines_of v w x y same h =
    append_cancel_left (lines_of v) x y (h ∙ ap (λ u. lines_of u ++ y) (sym same))

-- a value's lines and then those of a set that goes by the value
abbrev pub Then : {V : Type 0} → (V → Type 0) → (V → Lines) → (V → Lines → Type 0) → Lines → Type 0
Then {V} Is lines_of After lines = (v : V) × (rest : Lines) × Is v × After v rest × (lines ≡ lines_of v ++ rest)

-- the set has some lines
abbrev pub HasSome : (Lines → Type 0) → Type 0
HasSome AreGood = (lines : Lines) × AreGood lines

-- lines that begin a value's and hold those of another are that other's
pub covers : {V : Type 0} (Is : V → Type 0) (lines_of : V → Lines) (before y : Lines) (v : V) → IsOneWay Is lines_of → Begins (AreLinesOf Is lines_of) before → Is v → before ≡ lines_of v ++ y → AreLinesOf Is lines_of before
covers Is lines_of before y v one (more, (w, fine, e)) is h =
    let long : lines_of v ++ (y ++ more) ≡ lines_of w ++ [] = sym (append_assoc (lines_of v) y more) ∙ ap (λ l. l ++ more) (sym h) ∙ e ∙ sym (append-nil (lines_of w)) in
    let same = one v w (y ++ more) [] is fine long in
    let empty : y ++ more ≡ [] = rest_same lines_of v w (y ++ more) [] same long in
    (v, is, h ∙ ap (λ l. lines_of v ++ l) (first_empty y more empty) ∙ append-nil (lines_of v))
  where
    first_empty : (y more : Lines) → y ++ more ≡ [] → y ≡ []
    first_empty [] more h = refl
    first_empty (x ∷ y) more h = cc

-- these lines hold those of no value
abbrev pub HoldsNone : {V : Type 0} → (V → Type 0) → (V → Lines) → Lines → Type 0
HoldsNone {V} Is lines_of before = (v : V) (y : Lines) → Is v → before ≡ lines_of v ++ y → ⊥

-- where a part doesn't go on, the lines so far hold no value of it
pub holds_none : {V : Type 0} (Is : V → Type 0) (lines_of : V → Lines) (before : Lines) (state : LineState) → IsOneWay Is lines_of → StopsAt (AreLinesOf Is lines_of) before state → HoldsNone Is lines_of before
holds_none Is lines_of before state one stops v y is e = stops.unfinished (covers Is lines_of before y v one stops.begins is e)

-- and the line ahead goes on with no value of it
pub no_value_ahead : {V : Type 0} (Is : V → Type 0) (lines_of : V → Lines) (before : Lines) (state : LineState) (line : List ℕ) (more rest : Lines) (v : V) (tail : Lines) → HoldsNone Is lines_of before →
    StopsAt (AreLinesOf Is lines_of) before state → state.lines ≡ line ∷ more → Is v → Splits before (line ∷ rest) (lines_of v) tail → ⊥
no_value_ahead Is lines_of before state line more rest v tail none stops is_ahead is (inl ([], e, h)) =
    stops.unfinished (v, is, sym (append-nil before) ∙ sym e)
no_value_ahead Is lines_of before state line more rest v tail none stops is_ahead is (inl (x ∷ xs, e, h)) =
    let same : line ≡ x = cons_head line x rest (xs ++ tail) h in
    stops.ahead line more is_ahead (xs, (v, is, append_assoc before (line ∷ []) xs ∙ ap (λ l. before ++ l ∷ xs) same ∙ sym e))
no_value_ahead Is lines_of before state line more rest v tail none stops is_ahead is (inr (y, e, h)) = none v y is e

-- the first part doesn't go on, and so nothing does
pub stops_first : {V : Type 0} (Is : V → Type 0) (lines_of : V → Lines) (After : V → Lines → Type 0) (before : Lines) (state : LineState) → IsOneWay Is lines_of →
    ((v : V) → Is v → HasSome (After v)) → StopsAt (AreLinesOf Is lines_of) before state → StopsAt (Then Is lines_of After) before state
stops_first {V} Is lines_of After before state one some stops = record {
  begins = begin stops.begins;
  unfinished = λ (v, rest, is, after, e). none v rest is e;
  ahead = λ line more is_ahead (rest, (v, tail, is, after, e)).
      no_value_ahead Is lines_of before state line more rest v tail none stops is_ahead is (splits before (line ∷ rest) (lines_of v) tail (sym (append_assoc before (line ∷ []) rest) ∙ e));
}
  where
    none : HoldsNone Is lines_of before
    none = holds_none Is lines_of before state one stops

    begin : Begins (AreLinesOf Is lines_of) before → Begins (Then Is lines_of After) before
    begin (more, (v, is, e)) =
        let s = some v is in
        (more ++ s.0, (v, s.0, is, s.1, sym (append_assoc before more s.0) ∙ ap (λ l. l ++ s.0) e))

-- a part stands whole, and behind it nothing goes on
pub stops_behind : {V : Type 0} (Is : V → Type 0) (lines_of : V → Lines) (After : V → Lines → Type 0) (v : V) (before : Lines) (state : LineState) → IsOneWay Is lines_of → Is v →
    StopsAt (After v) before state → StopsAt (Then Is lines_of After) (lines_of v ++ before) state
stops_behind {V} Is lines_of After v before state one is stops = record {
  begins = begin stops.begins;
  unfinished = λ (w, rest, fine, after, e). stops.unfinished (after_same w rest before fine after e);
  ahead = λ line more is_ahead (rest, (w, tail, fine, after, e)).
      stops.ahead line more is_ahead (rest, after_same w tail ((before ++ line ∷ []) ++ rest) fine after (shift line rest ∙ e));
}
  where
    begin : Begins (After v) before → Begins (Then Is lines_of After) (lines_of v ++ before)
    begin (more, after) = (more, (v, before ++ more, is, after, append_assoc (lines_of v) before more))

    shift : (line : List ℕ) (rest : Lines) → lines_of v ++ ((before ++ line ∷ []) ++ rest) ≡ ((lines_of v ++ before) ++ line ∷ []) ++ rest
    shift line rest = sym (append_assoc (lines_of v) (before ++ line ∷ []) rest) ∙ ap (λ l. l ++ rest) (sym (append_assoc (lines_of v) before (line ∷ [])))

    after_same : (w : V) (rest mine : Lines) → Is w → After w rest → lines_of v ++ mine ≡ lines_of w ++ rest → After v mine
    after_same w rest mine fine after e =
        let same = one v w mine rest is fine e in
        let P : V → Type 0 = λ u. After u mine in
        let Q : Lines → Type 0 = λ l. After w l in
        subst P (sym same) (subst Q (sym (rest_same lines_of v w mine rest same e)) after)

-- the same set in other words
pub stops_same : (S T : Lines → Type 0) (before : Lines) (state : LineState) → ((lines : Lines) → S lines → T lines) → ((lines : Lines) → T lines → S lines) → StopsAt S before state → StopsAt T before state
stops_same S T before state there back stops = record {
  begins = (stops.begins.0, there (before ++ stops.begins.0) stops.begins.1);
  unfinished = λ good. stops.unfinished (back before good);
  ahead = λ line more is_ahead (rest, good). stops.ahead line more is_ahead (rest, back ((before ++ line ∷ []) ++ rest) good);
}

-- one line
abbrev pub single : {V : Type 0} → (V → List ℕ) → V → Lines
single line_of v = line_of v ∷ []

pub stops_line : {V : Type 0} (Is : V → Type 0) (line_of : V → List ℕ) (v : V) (state : LineState) → Is v → IsNotAhead Is line_of state → StopsAt (AreLinesOf Is (single line_of)) [] state
stops_line {V} Is line_of v state is none = record {
  begins = (single line_of v, (v, is, refl));
  unfinished = λ (w, fine, e). nothing (line_of w) e;
  ahead = λ line more is_ahead (rest, (w, fine, e)).
      let same : line ≡ line_of w = cons_head line (line_of w) rest [] e in
      none w more fine (is_ahead ∙ ap (λ l. l ∷ more) same);
}
  where
    nothing : (line : List ℕ) → [] ≡ line ∷ [] → ⊥
    nothing line e = cc

-- a line that no two values share is known, whatever follows
pub one_way-line : {V : Type 0} (Is : V → Type 0) (line_of : V → List ℕ) → ((v w : V) → Is v → Is w → line_of v ≡ line_of w → v ≡ w) → IsOneWay Is (single line_of)
one_way-line Is line_of one v w x y is fine e = one v w is fine (cons_head (line_of v) (line_of w) x y e)

-- ---- where a part stops, all stops
pub stuck_first : {V : Type 0} (Is : V → Type 0) (lines_of : V → Lines) (After : V → Lines → Type 0) (old new : LineState) → IsOneWay Is lines_of →
    ((v : V) → Is v → HasSome (After v)) → IsStuck (AreLinesOf Is lines_of) old new → IsStuck (Then Is lines_of After) old new
stuck_first Is lines_of After old new one some (before, passes, stops) = (before, passes, stops_first Is lines_of After before new one some stops)

-- or behind it
pub stuck_behind : {V : Type 0} (Is : V → Type 0) (lines_of : V → Lines) (After : V → Lines → Type 0) (v : V) (old mid new : LineState) → IsOneWay Is lines_of → Is v → Passes old mid (lines_of v) →
    IsStuck (After v) mid new → IsStuck (Then Is lines_of After) old new
stuck_behind Is lines_of After v old mid new one is first (before, passes, stops) =
    (lines_of v ++ before, passes_then old mid new (lines_of v) before first passes, stops_behind Is lines_of After v before new one is stops)

-- the same of a set in other words
pub stuck_same : (S T : Lines → Type 0) (old new : LineState) → ((lines : Lines) → S lines → T lines) → ((lines : Lines) → T lines → S lines) → IsStuck S old new → IsStuck T old new
stuck_same S T old new there back (before, passes, stops) = (before, passes, stops_same S T before new there back stops)

-- a line that isn't ahead
pub stuck_line : {V : Type 0} (Is : V → Type 0) (line_of : V → List ℕ) (v : V) (old new : LineState) → Is v → (new ≡ old) × IsNotAhead Is line_of old → IsStuck (AreLinesOf Is (single line_of)) old new
stuck_line Is line_of v old new is none =
    let P : LineState → Type 0 = λ s. IsStuck (AreLinesOf Is (single line_of)) old s in
    subst P (sym none.0) ([], passes_none old, stops_line Is line_of v old is none.1)

-- the one line that can stand there
abbrev pub Only : List ℕ → Lines → Type 0
Only line lines = lines ≡ line ∷ []

-- that line isn't ahead
pub stuck_only : (line : List ℕ) (old new : LineState) → TakesExactly line old new false → IsStuck (Only line) old new
stuck_only line old new none =
    let P : LineState → Type 0 = λ s. IsStuck (Only line) old s in
    let U : Unit {0} → Type 0 = λ u. Unit {0} in
    subst P (sym none.0) (
      [],
      passes_none old,
      stops_same (AreLinesOf U (single (λ u. line))) (Only line) [] old (λ lines h. h.2) (λ lines h. (tt, tt, h))
          (stops_line U (λ u. line) tt old tt (λ u more _ e. none.1 more e)),
    )

-- a line was taken
pub was_taken : (line : List ℕ) (old new : LineState) (a : Bool) → TakesExactly line old new a → a ≡ true → TakesExactly line old new true
was_taken line old new true h _ = h
was_taken line old new false h e = cc

-- a line wasn't taken, and so the cursor stays
pub not_taken : (line : List ℕ) (old new : LineState) (a : Bool) → TakesExactly line old new a → a ≡ false → TakesExactly line old new false
not_taken line old new false h _ = h
not_taken line old new true h e = cc

-- the second of two lines was taken
pub second_taken : (first second : List ℕ) (old mid new : LineState) (a b : Bool) → TakesExactly first old mid a → a ≡ false → TakesExactly second mid new b → b ≡ true → Passes old new (second ∷ [])
second_taken first second old mid new false true h _ k _ = let P : LineState → Type 0 = λ s. Passes s new (second ∷ []) in subst P h.0 k
second_taken first second old mid new false false h _ k e = cc
second_taken first second old mid new true b h e k _ = cc
