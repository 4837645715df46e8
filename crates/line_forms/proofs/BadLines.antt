-- The first bad line of a text. Other crates may cite these lemmas.
use Rattle.std.proofs.Common.{◌≡◌, ℕ, suc, ◌+◌, ◌-◌, ◌<◌, ◌≤◌, List, [], ◌∷◌, ◌++◌, length, take, drop, refl, sym, ap, subst, ◌∙◌, inl, inr, arith, append_assoc, length-append}
use Rattle.std.proofs.lemmas.Bool.{cases_lt}
use Rattle.std.proofs.lemmas.List.{take-append-drop, take-take, take_all, take_at}
use Rattle.line_forms.specs.LineStates.{LineState, lines_of, unended_of}
use Rattle.line_forms.specs.Lines.{StandsBehind, TakesLine}
use Rattle.line_forms.specs.BadLines.{IsTextOf, Begins, IsFirstBadLine, AnswersBadLine}

-- lines that begin a text begin one with fewer of them too
pub Begins-take : (AreGood : List (List ℕ) → Type 0) (lines : List (List ℕ)) (m n : ℕ) → m ≤ n → Begins AreGood (take n lines) → Begins AreGood (take m lines)
Begins-take AreGood lines m n le (more, good) =
    let e : take n lines ++ more ≡ take m lines ++ (drop m (take n lines) ++ more) =
    ap (λ l. l ++ more) (sym (take-append-drop m (take n lines)) ∙ ap (λ l. l ++ drop m (take n lines)) (take-take m n lines le)) ∙ append_assoc (take m lines) (drop m (take n lines)) more in
    (drop m (take n lines) ++ more, subst AreGood e good)

-- the lines of a text of the set begin one
pub Begins-good : (AreGood : List (List ℕ) → Type 0) (lines : List (List ℕ)) (n : ℕ) → AreGood lines → Begins AreGood (take n lines)
Begins-good AreGood lines n good = (drop n lines, subst AreGood (sym (take-append-drop n lines)) good)

-- a first bad line has a number of at most one above the number of lines
number-most : (AreGood : List (List ℕ) → Type 0) (text : List ℕ) (n : ℕ) → IsFirstBadLine AreGood text n → n ≤ length (lines_of text) + 1
number-most AreGood text n bad = elim bad.wrong [ inl w ↦ let le = w.0 in omega arith | inr u ↦ let e = u.0 in omega arith ]

-- no line is the first bad one before another
not_before : (AreGood : List (List ℕ) → Type 0) (text : List ℕ) (m n : ℕ) → IsFirstBadLine AreGood text m → IsFirstBadLine AreGood text n → m < n → ⊥
not_before AreGood text m n a b below =
    let most = number-most AreGood text n b in
    elim a.wrong [
      | inl w ↦ w.1 (Begins-take AreGood (lines_of text) m (n - 1) (omega arith) b.before)
      | inr u ↦ let e = u.0 in absurd (omega arith)
    ]

pub first_bad_line-one : (AreGood : List (List ℕ) → Type 0) (text : List ℕ) (m n : ℕ) → IsFirstBadLine AreGood text m → IsFirstBadLine AreGood text n → m ≡ n
first_bad_line-one AreGood text m n a b =
    elim (cases_lt m n) [
      | inl below ↦ absurd (not_before AreGood text m n a b below)
      | inr above ↦ elim (cases_lt n m) [ inl below ↦ absurd (not_before AreGood text n m b a below) | inr other ↦ omega arith ]
    ]

pub first_bad_line-none : (AreGood : List (List ℕ) → Type 0) (text : List ℕ) (n : ℕ) → IsTextOf AreGood text → ¬ IsFirstBadLine AreGood text n
first_bad_line-none AreGood text n is bad =
    elim bad.wrong [ inl w ↦ w.1 (Begins-good AreGood (lines_of text) n is.1) | inr u ↦ u.1 is ]

-- the line behind those that begin a text
pub first_bad_line-wrong : (AreGood : List (List ℕ) → Type 0) (text line : List ℕ) (before more : List (List ℕ)) → lines_of text ≡ before ++ line ∷ more → Begins AreGood before → ¬ Begins AreGood (before ++ line ∷ []) → IsFirstBadLine AreGood text (length before + 1)
first_bad_line-wrong AreGood text line before more is begins wrong =
    let front : take (length before) (lines_of text) ≡ before = ap (take (length before)) is ∙ take_at before (line ∷ more) (length before) refl in
    let count : length (before ++ line ∷ []) ≡ length before + 1 = length-append before (line ∷ []) in
    let whole : lines_of text ≡ (before ++ line ∷ []) ++ more = is ∙ sym (append_assoc before (line ∷ []) more) in
    let with_it : take (length before + 1) (lines_of text) ≡ before ++ line ∷ [] = ap (take (length before + 1)) whole ∙ take_at (before ++ line ∷ []) more (length before + 1) count in
    let within : length (lines_of text) ≡ length before + suc (length more) = ap (length {A = List ℕ}) is ∙ length-append before (line ∷ more) in
    let P : List (List ℕ) → Type 0 = Begins AreGood in
    let less : length before + 1 - 1 ≡ length before = omega arith in
    record {
      counted = omega arith;
      before = subst P (sym (ap (λ k. take k (lines_of text)) less ∙ front)) begins;
      wrong = inl (omega (arith, within), λ goes. wrong (subst P with_it goes));
    }

-- the end of a text that begins one
pub first_bad_line-unended : (AreGood : List (List ℕ) → Type 0) (text : List ℕ) → Begins AreGood (lines_of text) → ¬ IsTextOf AreGood text → IsFirstBadLine AreGood text (length (lines_of text) + 1)
first_bad_line-unended AreGood text begins other =
    let P : List (List ℕ) → Type 0 = Begins AreGood in
    let less : length (lines_of text) + 1 - 1 ≡ length (lines_of text) = omega arith in
    record {
      counted = omega arith;
      before = subst P (sym (ap (λ k. take k (lines_of text)) less ∙ take_all (length (lines_of text)) (lines_of text) (omega arith))) begins;
      wrong = inr (refl, other);
    }

-- a cursor over the lines of a text
pub StandsBehind-start : (text : List ℕ) → StandsBehind text [] (record { lines = lines_of text; unended = unended_of text; number = 1 })
StandsBehind-start text = record { lines = refl; unended = refl; number = refl }

pub StandsBehind-next : (text line : List ℕ) (before : List (List ℕ)) (old new : LineState) → StandsBehind text before old → TakesLine old new line → StandsBehind text (before ++ line ∷ []) new
StandsBehind-next text line before old new stands takes =
    let count : length (before ++ line ∷ []) ≡ length before + 1 = length-append before (line ∷ []) in
    record {
      lines = stands.lines ∙ ap (λ l. before ++ l) takes.0 ∙ sym (append_assoc before (line ∷ []) new.lines);
      unended = stands.unended ∙ sym takes.1;
      number = omega (arith, takes.2, stands.number, count);
    }

pub answers_bad_line-wrong : (AreGood : List (List ℕ) → Type 0) (text line : List ℕ) (before more : List (List ℕ)) (cursor : LineState) → StandsBehind text before cursor → cursor.lines ≡ line ∷ more → Begins AreGood before → ¬ Begins AreGood (before ++ line ∷ []) → AnswersBadLine AreGood text cursor.number
answers_bad_line-wrong AreGood text line before more cursor stands ahead begins wrong =
    (length before + 1, first_bad_line-wrong AreGood text line before more (stands.lines ∙ ap (λ l. before ++ l) ahead) begins wrong, stands.number)
