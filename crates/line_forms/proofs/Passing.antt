-- Going over lines, and where reading stops. Other crates may cite these lemmas.
use Rattle.std.proofs.Common.{ℕ, suc, ◌≡◌, ◌+◌, ◌<◌, List, [], ◌∷◌, ◌++◌, length, map, refl, sym, ap, subst, ◌∙◌, arith, append_assoc, append-nil}
use Rattle.std.proofs.lemmas.List.{append_cancel_left}
use Rattle.line_forms.specs.BadLines.{Begins, IsTextOf, IsFirstBadLine, AnswersBadLine}
use Rattle.line_forms.specs.Fields.{field_text}
use Rattle.line_forms.specs.LineStates.{LineState, before_lines, lines_of, unended_of}
use Rattle.line_forms.specs.Lines.{Takes, TakesLine, StandsBehind, lines_text}
use Rattle.line_forms.specs.Readers.{IsNotAhead, IsOver, IsStuck, NeverGoesOn, Passes, StopsAt}
use Rattle.line_forms.specs.declared.lines.Ahead.{Ahead}
use Rattle.line_forms.specs.declared.lines.Ahead.TheVariants as ahead
use Rattle.line_forms.proofs.BadLines.{StandsBehind-start, StandsBehind-next, first_bad_line-wrong, first_bad_line-unended}
use Rattle.line_forms.proofs.LineLemmas.{text_of-lines}

pub cons_head : {A : Type 0} (x y : A) (xs ys : List A) → x ∷ xs ≡ y ∷ ys → x ≡ y
cons_head x y xs ys h = cc

pub cons_tail : {A : Type 0} (x y : A) (xs ys : List A) → x ∷ xs ≡ y ∷ ys → xs ≡ ys
cons_tail x y xs ys h = cc

pub passes_none : (state : LineState) → Passes state state []
passes_none state = (
  refl,
  λ text before stands. let P : List (List ℕ) → Type 0 = λ l. StandsBehind text l state in subst P (sym (append-nil before)) stands,
)

pub passes_then : (a b c : LineState) (xs ys : List (List ℕ)) → Passes a b xs → Passes b c ys → Passes a c (xs ++ ys)
passes_then a b c xs ys h k = (
  h.0 ∙ ap (λ l. xs ++ l) k.0 ∙ sym (append_assoc xs ys c.lines),
  λ text before stands.
      let P : List (List ℕ) → Type 0 = λ l. StandsBehind text l c in
      subst P (append_assoc before xs ys) (k.1 text (before ++ xs) (h.1 text before stands)),
)

pub passes_line : (a b : LineState) (line : List ℕ) → TakesLine a b line → Passes a b (line ∷ [])
passes_line a b line takes = (takes.0, λ text before stands. StandsBehind-next text line before a b stands takes)

-- a line that was passed leaves fewer
pub fewer_lines : (a b : LineState) (line : List ℕ) → Passes a b (line ∷ []) → length b.lines < length a.lines
fewer_lines a b line passes = let k : length a.lines ≡ suc (length b.lines) = ap (length {A = List ℕ}) passes.0 in omega arith

no_line : (lines : List (List ℕ)) (line : List ℕ) (more : List (List ℕ)) → lines ≡ [] → lines ≡ line ∷ more → ⊥
no_line lines line more h k = cc

-- the line ahead was taken
pub takes_passes : (old new : LineState) (answer : Ahead) → Takes old new answer → (line : List ℕ) (more : List (List ℕ)) → old.lines ≡ line ∷ more → Passes old new (line ∷ [])
takes_passes old new (ahead.Line other) takes line more e =
    let same : other.now ≡ line = cons_head other.now line new.lines more (sym takes.0 ∙ e) in
    let P : List ℕ → Type 0 = λ l. Passes old new (l ∷ []) in
    subst P same (passes_line old new other.now takes)
takes_passes old new ahead.End takes line more e = absurd (no_line old.lines line more takes.0.0 e)
takes_passes old new ahead.Unended takes line more e = absurd (no_line old.lines line more takes.0.0 e)

-- the line ahead was taken, and is that of this value
pub takes_it : {V : Type 0} (line_of : V → List ℕ) (old new : LineState) (line : List ℕ) (more : List (List ℕ)) (value : V) → old.lines ≡ line ∷ more → line ≡ line_of value →
    ((line : List ℕ) (more : List (List ℕ)) → old.lines ≡ line ∷ more → Passes old new (line ∷ [])) → Passes old new (line_of value ∷ [])
takes_it line_of old new line more value ahead is takes = takes (line_of value) more (ahead ∙ ap (λ l. l ∷ more) is)

-- the same of a word and a rest
pub takes_rest : (old new : LineState) (word rest text : List ℕ) (more : List (List ℕ)) → old.lines ≡ (field_text word ++ rest) ∷ more → rest ≡ text →
    ((line : List ℕ) (more : List (List ℕ)) → old.lines ≡ line ∷ more → Passes old new (line ∷ [])) → Passes old new ((field_text word ++ text) ∷ [])
takes_rest old new word rest text more ahead is takes =
    takes_it (λ (l : List ℕ). field_text word ++ l) old new (field_text word ++ rest) more text ahead (ap (λ l. field_text word ++ l) is) takes

-- lines of values, and one more
pub map_snoc : {V W : Type 0} (first : V → W) (vs : List V) (v : V) → map first (vs ++ v ∷ []) ≡ map first vs ++ first v ∷ []
map_snoc first [] v = refl
map_snoc first (x ∷ vs) v = ap (λ l. first x ∷ l) (map_snoc first vs v)

-- the rest of the line is the text of no such value
pub not_spelled : {V : Type 0} (Is : V → Type 0) (text_of : V → List ℕ) (state : LineState) (word rest : List ℕ) (more : List (List ℕ)) → state.lines ≡ (field_text word ++ rest) ∷ more → ((v : V) → Is v → rest ≡ text_of v → ⊥) →
    IsNotAhead Is (λ v. field_text word ++ text_of v) state
not_spelled Is text_of state word rest more e none v other is h =
    none v is (append_cancel_left (field_text word) rest (text_of v) (cons_head (field_text word ++ rest) (field_text word ++ text_of v) more other (sym e ∙ h)))

-- the value whose line is ahead isn't one of these, and so none of these is
pub other_ahead : {V : Type 0} (Can : V → Type 0) (line_of : V → List ℕ) (state : LineState) (line : List ℕ) (more : List (List ℕ)) (read : V) → ((v : V) → Can v → line_of v ≡ line_of read → v ≡ read) →
    state.lines ≡ line ∷ more → line ≡ line_of read → (Can read → ⊥) → IsNotAhead Can line_of state
other_ahead Can line_of state line more read one ahead spelled other v rest can h =
    other (subst Can (one v can (cons_head (line_of v) line rest more (sym h ∙ ahead) ∙ spelled)) can)

pub stands_behind : (text : List ℕ) (before : List (List ℕ)) (new : LineState) → Passes (before_lines text) new before → StandsBehind text before new
stands_behind text before new passes = passes.1 text [] (StandsBehind-start text)

pub all_lines : (text : List ℕ) (before : List (List ℕ)) (new : LineState) → StandsBehind text before new → new.lines ≡ [] → lines_of text ≡ before
all_lines text before new stands none = stands.lines ∙ ap (λ l. before ++ l) none ∙ append-nil before

ended_first_bad : (AreGood : List (List ℕ) → Type 0) (text : List ℕ) (before : List (List ℕ)) → lines_of text ≡ before → Begins AreGood before → ¬ IsTextOf AreGood text → IsFirstBadLine AreGood text (length before + 1)
ended_first_bad AreGood text before all begins other =
    let P : List (List ℕ) → Type 0 = Begins AreGood in
    let N : ℕ → Type 0 = IsFirstBadLine AreGood text in
    subst N (ap (λ (l : List (List ℕ)). length l + 1) all) (first_bad_line-unended AreGood text (subst P (sym all) begins) other)

pub stops_first_bad : (AreGood : List (List ℕ) → Type 0) (text : List ℕ) (before ahead : List (List ℕ)) (new : LineState) → new.lines ≡ ahead → StandsBehind text before new → StopsAt AreGood before new → IsFirstBadLine AreGood text (length before + 1)
stops_first_bad AreGood text before [] new is stands stops =
    let all = all_lines text before new stands is in
    ended_first_bad AreGood text before all stops.begins (λ good. stops.unfinished (subst AreGood all good.1))
stops_first_bad AreGood text before (line ∷ more) new is stands stops =
    first_bad_line-wrong AreGood text line before more (stands.lines ∙ ap (λ l. before ++ l) is) stops.begins (stops.ahead line more is)

-- the cursor stayed where it was, and is stuck there
pub stays : (AreGood : List (List ℕ) → Type 0) (old mid new : LineState) (before : List (List ℕ)) → new ≡ mid → Passes old mid before → StopsAt AreGood before mid → IsStuck AreGood old new
stays AreGood old mid new before same passes stops =
    let P : LineState → Type 0 = λ s. IsStuck AreGood old s in
    subst P (sym same) (before, passes, stops)

-- where the cursor went as far as lines of the set go, the line ahead is the first bad one
pub stuck_answers : (AreGood : List (List ℕ) → Type 0) (text : List ℕ) (new : LineState) → IsStuck AreGood (before_lines text) new → AnswersBadLine AreGood text new.number
stuck_answers AreGood text new (before, passes, stops) =
    let stands = stands_behind text before new passes in
    (length before + 1, stops_first_bad AreGood text before new.lines new refl stands stops, stands.number)

begins_all : (AreGood : List (List ℕ) → Type 0) (lines : List (List ℕ)) → AreGood lines → Begins AreGood lines
begins_all AreGood lines good = ([], subst AreGood (sym (append-nil lines)) good)

pub behind_first_bad : (AreGood : List (List ℕ) → Type 0) (text : List ℕ) (lines ahead : List (List ℕ)) (new : LineState) → new.lines ≡ ahead → StandsBehind text lines new → AreGood lines →
    NeverGoesOn AreGood lines → ¬ IsOver new → IsFirstBadLine AreGood text (length lines + 1)
behind_first_bad AreGood text lines [] new is stands good never left =
    ended_first_bad AreGood text lines (all_lines text lines new stands is) (begins_all AreGood lines good) (λ whole. left (is, sym stands.unended ∙ whole.0))
behind_first_bad AreGood text lines (line ∷ more) new is stands good never left =
    first_bad_line-wrong AreGood text line lines more (stands.lines ∙ ap (λ l. lines ++ l) is) (begins_all AreGood lines good)
    (λ goes. never line goes.0 (subst AreGood (append_assoc lines (line ∷ []) goes.0) goes.1))

-- where all lines of a text of the set were taken, with which none go on, and something is left, the line ahead is the first bad one
pub left_answers : (AreGood : List (List ℕ) → Type 0) (text : List ℕ) (lines : List (List ℕ)) (new : LineState) → Passes (before_lines text) new lines → AreGood lines →
    NeverGoesOn AreGood lines → ¬ IsOver new → AnswersBadLine AreGood text new.number
left_answers AreGood text lines new passes good never left =
    let stands = stands_behind text lines new passes in
    (length lines + 1, behind_first_bad AreGood text lines new.lines new refl stands good never left, stands.number)

-- and where nothing is left, the text is that of the lines
pub text_is : (text : List ℕ) (lines : List (List ℕ)) (new : LineState) → Passes (before_lines text) new lines → IsOver new → text ≡ lines_text lines
text_is text lines new passes over =
    let stands = stands_behind text lines new passes in
    let none : unended_of text ≡ [] = stands.unended ∙ over.1 in
    text_of-lines text ∙ ap (λ l. lines_text l ++ unended_of text) (all_lines text lines new stands over.0) ∙ ap (λ l. lines_text lines ++ l) none ∙ append-nil (lines_text lines)
