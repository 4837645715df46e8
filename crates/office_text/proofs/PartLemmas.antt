-- Parts of an office text that are taken up to their `end` and read by themselves: they are read again, and where they stop.
use Rattle.std.proofs.Common.{ℕ, zero, suc, ◌≡◌, ◌≢◌, ◌+◌, ◌-◌, ◌^◌, ◌<◌, ◌≤◌, min, List, [], ◌∷◌, ◌++◌, length, take, drop, Bool, true, false, refl, sym, ap, subst, ◌∙◌, arith, inl, inr, All, append_assoc, append-nil, length-append}
use Rattle.std.proofs.lemmas.List.{take-append-drop, take_all, length-take-le}
use Rattle.std.proofs.lemmas.List.Elements.{All-nil, All-cons, All-head, All-tail}
use Rattle.line_forms.specs.BadLines.{Begins, AnswersBadLine, IsFirstBadLine}
use Rattle.line_forms.specs.LineStates.{LineState, lines_of, unended_of}
use Rattle.line_forms.specs.Lines.{IsLine, lines_text}
use Rattle.line_forms.specs.Readers.{Passes, StopsAt}
use Rattle.line_forms.proofs.BadLines.{Begins-good}
use Rattle.line_forms.proofs.Passing.{cons_head}
use Rattle.office_text.specs.declared.text_reader.Last.TheVariants as last
use Rattle.office_text.specs.OrderLines.{EndsAt, IsEnd}
use Rattle.office_text.specs.OrderReadings.{HaveEnded, IsInText}
use Rattle.office_text.proofs.Fronts.{Lines, nothing, ends_not_among, ends_same}

all_left : {V : Type 0} (P : V → Type 0) (xs ys : List V) → All P (xs ++ ys) → All P xs
all_left P [] ys all = All-nil P
all_left P (x ∷ xs) ys all = All-cons P x xs (All-head P x (xs ++ ys) all) (all_left P xs ys (All-tail P x (xs ++ ys) all))

all_right : {V : Type 0} (P : V → Type 0) (xs ys : List V) → All P (xs ++ ys) → All P ys
all_right P [] ys all = all
all_right P (x ∷ xs) ys all = all_right P xs ys (All-tail P x (xs ++ ys) all)

-- what the laws on the lines of a text say
abbrev pub HaveLines : Type 0
HaveLines = (text : List ℕ) → All IsLine (lines_of text)

abbrev pub AreReadAgain : Type 0
AreReadAgain = (lines : Lines) (unended : List ℕ) → All IsLine lines → IsLine unended → lines_of (lines_text lines ++ unended) ≡ lines

abbrev pub IsUnendedAgain : Type 0
IsUnendedAgain = (lines : Lines) (unended : List ℕ) → All IsLine lines → IsLine unended → unended_of (lines_text lines ++ unended) ≡ unended

-- these lines are read again from their text
pub record IsAgain (lines : Lines) : Type 0 where
  pub lines_are : lines_of (lines_text lines) ≡ lines
  pub unended_is : unended_of (lines_text lines) ≡ []

-- as those that are ahead of a cursor in a text are
pub ahead_again : HaveLines → AreReadAgain → IsUnendedAgain → (old new : LineState) (lines : Lines) → IsInText old → Passes old new lines → IsAgain lines
ahead_again have again unended old new lines (text, before, stands) more =
    let e : lines_of text ≡ before ++ (lines ++ new.lines) = stands.lines ∙ ap (λ l. before ++ l) more.0 in
    let A : Lines → Type 0 = All IsLine in
    let all : All IsLine lines = all_left IsLine lines new.lines (all_right IsLine before (lines ++ new.lines) (subst A e (have text))) in
    let none : IsLine [] = All-nil (λ byte. byte ≢ 10) in
    record {
      lines_are = ap lines_of (sym (append-nil (lines_text lines))) ∙ again lines [] all none;
      unended_is = ap unended_of (sym (append-nil (lines_text lines))) ∙ unended lines [] all none;
    }

-- a cursor that went on in a text stands in it
pub in_text : (old new : LineState) (lines : Lines) → IsInText old → Passes old new lines → IsInText new
in_text old new lines (text, before, stands) passes = (text, before ++ lines, passes.1 text before stands)

-- a cursor behind some of the lines that are ahead
abbrev pub behind : LineState → Lines → Lines → LineState
behind mid xs ys = record { lines = ys; unended = mid.unended; number = min (mid.number + length xs) (2 ^ 32 - 1) }

pub passes_on : (mid : LineState) (xs ys : Lines) → mid.lines ≡ xs ++ ys → Passes mid (behind mid xs ys) xs
passes_on mid xs ys e = (
  e,
  λ text before stands. record {
    lines = stands.lines ∙ ap (λ l. before ++ l) e ∙ sym (append_assoc before xs ys);
    unended = stands.unended;
    number = let n : mid.number ≡ min (length before + 1) (2 ^ 32 - 1) = stands.number in omega (arith, n, length-append before xs);
  },
)

-- the number of the line that is ahead of it
number_on : (mid : LineState) (L : Lines) (k n first answer : ℕ) → IsInText mid → 1 ≤ k → k ≤ length L + 1 → n ≡ min k (2 ^ 32 - 1) → first ≡ mid.number →
    answer ≡ min (first + (n - 1)) (2 ^ 32 - 1) → answer ≡ min (mid.number + length (take (k - 1) L)) (2 ^ 32 - 1)
number_on mid L k n first answer (text, before, stands) some most n_is first_is is =
    let low : mid.number ≡ min (length before + 1) (2 ^ 32 - 1) = stands.number in
    let long : length (take (k - 1) L) ≡ k - 1 = length-take-le (k - 1) L (omega arith) in
    omega (arith, low, long)

take_next : (n : ℕ) (L : Lines) (l : List ℕ) (rest more : Lines) → n < length L → drop n L ++ more ≡ l ∷ rest → take (suc n) L ≡ take n L ++ l ∷ []
take_next zero [] l rest more h e = absurd (omega (arith, h))
take_next zero (x ∷ L) l rest more h e = ap (λ z. z ∷ []) (cons_head x l (L ++ more) rest e)
take_next (suc n) [] l rest more h e = absurd (omega (arith, h))
take_next (suc n) (x ∷ L) l rest more h e = ap (λ z. x ∷ z) (take_next n L l rest more (omega (arith, h)) e)

-- lines of such a set end with `end` and have it nowhere else
abbrev pub EndOnce : (Lines → Type 0) → Type 0
EndOnce Are = (lines : Lines) → Are lines → EndsAt IsEnd lines

-- where lines of the set stop, which were taken up to `end`
part_stops : (Are : Lines → Type 0) (L : Lines) (mid new : LineState) (ended : Bool) (k : ℕ) → EndOnce Are → IsAgain L → HaveEnded last.End new L ended → IsFirstBadLine Are (lines_text L) k →
    StopsAt Are (take (k - 1) L) (behind mid (take (k - 1) L) (drop (k - 1) L ++ new.lines))
part_stops Are L mid new ended k ends again have bad = record {
  begins = subst (λ l. Begins Are (take (k - 1) l)) again.lines_are bad.before;
  unfinished = λ good. whole ended have good;
  ahead = λ line more e goes. wrong line more e goes;
}
  where
    split : take (k - 1) L ++ drop (k - 1) L ≡ L
    split = take-append-drop (k - 1) L

    -- all lines aren't of the set
    not_all : Are L → ⊥
    not_all good = elim bad.wrong [
      | inl w ↦ w.1 (subst (λ l. Begins Are (take k l)) (sym again.lines_are) (Begins-good Are L k good))
      | inr w ↦ w.1 (again.unended_is, subst Are (sym again.lines_are) good)
    ]

    whole : (b : Bool) → HaveEnded last.End new L b → Are (take (k - 1) L) → ⊥
    whole true h good =
        let e : L ≡ take (k - 1) L = ends_same IsEnd (take (k - 1) L) L (drop (k - 1) L) [] (ends (take (k - 1) L) good) h (split ∙ sym (append-nil L)) in
        not_all (subst Are (sym e) good)
    whole false h good = ends_not_among IsEnd (take (k - 1) L) (drop (k - 1) L) L (ends (take (k - 1) L) good) h.0 (sym split)

    -- behind all lines none is ahead, or the last one was among them
    none_behind : (b : Bool) (line : List ℕ) (more : Lines) → HaveEnded last.End new L b → new.lines ≡ line ∷ more → Begins Are (L ++ line ∷ []) → ⊥
    none_behind true line more h e (rest, good) =
        let long : L ++ (line ∷ rest) ≡ ((L ++ line ∷ []) ++ rest) ++ [] = sym (append-nil ((L ++ line ∷ []) ++ rest) ∙ append_assoc L (line ∷ []) rest) in
        let short : (L ++ line ∷ []) ++ rest ≡ L = ends_same IsEnd L ((L ++ line ∷ []) ++ rest) (line ∷ rest) [] h (ends ((L ++ line ∷ []) ++ rest) good) long in
        let count : length ((L ++ line ∷ []) ++ rest) ≡ length L = ap (length {A = List ℕ}) short in
        omega (arith, count, length-append (L ++ line ∷ []) rest, length-append L (line ∷ []))
    none_behind false line more h e goes = nothing line more (sym h.1 ∙ e)

    wrong : (line : List ℕ) (more : Lines) → drop (k - 1) L ++ new.lines ≡ line ∷ more → Begins Are (take (k - 1) L ++ line ∷ []) → ⊥
    wrong line more e goes = elim bad.wrong [
      | inl w ↦
          let count : length (lines_of (lines_text L)) ≡ length L = ap (length {A = List ℕ}) again.lines_are in
          let low : 1 ≤ k = bad.counted in
          let most : k ≤ length (lines_of (lines_text L)) = w.0 in
          let next : take (suc (k - 1)) L ≡ take (k - 1) L ++ line ∷ [] = take_next (k - 1) L line more new.lines (omega arith) e in
          let same : suc (k - 1) ≡ k = omega arith in
          let there : take k (lines_of (lines_text L)) ≡ take (k - 1) L ++ line ∷ [] = ap (take k) again.lines_are ∙ ap (λ n. take n L) (sym same) ∙ next in
          w.1 (subst (Begins Are) (sym there) goes)
      | inr w ↦
          let count : length (lines_of (lines_text L)) ≡ length L = ap (length {A = List ℕ}) again.lines_are in
          let last_is : k ≡ length (lines_of (lines_text L)) + 1 = w.0 in
          let front : take (k - 1) L ≡ L = take_all (k - 1) L (omega arith) in
          let none : drop (k - 1) L ≡ [] = past (k - 1) L (omega arith) in
          none_behind ended line more have (ap (λ l. l ++ new.lines) (sym none) ∙ e) (subst (λ l. Begins Are (l ++ line ∷ [])) front goes)
    ]
      where
        past : (n : ℕ) (l : Lines) → length l ≤ n → drop n l ≡ []
        past zero [] h = refl
        past zero (x ∷ l) h = absurd (omega (arith, h))
        past (suc n) [] h = refl
        past (suc n) (x ∷ l) h = past n l (omega (arith, h))

-- the lines of the set go on to the line of this number
abbrev pub StopsOn : (Lines → Type 0) → LineState → ℕ → Type 0
StopsOn Are old number = (bad : LineState) × (part : Lines) × Passes old bad part × StopsAt Are part bad × (number ≡ bad.number)

-- that is the first bad line of what was taken up to `end`, counted from the line that was ahead
pub part_bad : (Are : Lines → Type 0) (L : Lines) (mid new : LineState) (ended : Bool) (n first answer : ℕ) → EndOnce Are → IsInText mid → IsAgain L → Passes mid new L → HaveEnded last.End new L ended →
    AnswersBadLine Are (lines_text L) n → first ≡ mid.number → answer ≡ min (first + (n - 1)) (2 ^ 32 - 1) → StopsOn Are mid answer
part_bad Are L mid new ended n first answer ends there again more have (k, bad, n_is) first_is answer_is =
    let e : mid.lines ≡ take (k - 1) L ++ (drop (k - 1) L ++ new.lines) = more.0 ∙ ap (λ l. l ++ new.lines) (sym (take-append-drop (k - 1) L)) ∙ append_assoc (take (k - 1) L) (drop (k - 1) L) new.lines in
    let low : 1 ≤ k = bad.counted in
    let count : length (lines_of (lines_text L)) ≡ length L = ap (length {A = List ℕ}) again.lines_are in
    let most : k ≤ length L + 1 = elim bad.wrong [ inl w ↦ let h = w.0 in omega arith | inr w ↦ let h = w.0 in omega arith ] in (
      behind mid (take (k - 1) L) (drop (k - 1) L ++ new.lines),
      take (k - 1) L,
      passes_on mid (take (k - 1) L) (drop (k - 1) L ++ new.lines) e,
      part_stops Are L mid new ended k ends again have bad,
      number_on mid L k n first answer there low most n_is first_is answer_is,
    )
