-- An input is split behind its first line `end`, in one way.
use Rattle.std.proofs.Common.{◌≡◌, ◌≢◌, ℕ, zero, suc, ◌+◌, ◌<◌, List, [], ◌∷◌, ◌++◌, length, take, drop, get_or, All, inl, inr, refl, sym, ap, subst, ◌∙◌, arith, append_assoc, take-add, add-one, append-nil}
use Rattle.std.specs.Prelude.{codes}
use Rattle.std.proofs.Math.Seq.{take-suc}
use Rattle.std.proofs.lemmas.List.{take-append-drop}
use Rattle.std.proofs.lemmas.List.Elements.{All-head, All-tail, All-nil, All-cons}
use Rattle.line_forms.specs.Cuts.{Lacks, IsCut}
use Rattle.line_forms.specs.LineStates.{lines_of}
use Rattle.line_forms.specs.Lines.{IsLine, ended_line, lines_text}
use Rattle.line_forms.proofs.LineLemmas.{lines_of-cut, lines_of-none, lines_text-snoc}
use Rattle.world_text.specs.Fronts.{AreBeforeEnd, EndsAtEnd, Splits}

-- where the first LF stands at i, the text is cut there
pub first_cut : (text : List ℕ) (i : ℕ) → i < length text → ((k : ℕ) → k < i → get_or text k 0 ≡ 10 → ⊥) → get_or text i 0 ≡ 10 → IsCut 10 text (take i text) (drop (suc i) text)
first_cut [] i within none is = absurd (omega arith)
first_cut (x ∷ xs) zero within none is = (All-nil (λ y. y ≢ 10), ap (λ y. y ∷ xs) is)
first_cut (x ∷ xs) (suc i) within none is =
    let tail = first_cut xs i (omega arith) (λ k below. none (suc k) (omega arith)) is in
    (All-cons (λ y. y ≢ 10) x (take i xs) (none zero (omega arith)) tail.0, ap (λ l. x ∷ l) tail.1)

-- where no LF stands, it lacks one
pub lacks_all : (text : List ℕ) → ((k : ℕ) → k < length text → get_or text k 0 ≡ 10 → ⊥) → Lacks 10 text
lacks_all [] none = All-nil (λ y. y ≢ 10)
lacks_all (x ∷ xs) none = All-cons (λ y. y ≢ 10) x xs (none zero (omega arith)) (lacks_all xs (λ k below. none (suc k) (omega arith)))

-- lines and one more
All-push : (P : List ℕ → Type 0) (lines : List (List ℕ)) (line : List ℕ) → All P lines → P line → All P (lines ++ line ∷ [])
All-push P [] line all is = All-cons P line [] is (All-nil P)
All-push P (x ∷ xs) line all is = All-cons P x (xs ++ line ∷ []) (All-head P x xs all) (All-push P xs line (All-tail P x xs all) is)

-- the text is lines, and none of them is `end`
pub record IsBehind (text : List ℕ) : Type 0 where
  pub lines : List (List ℕ)
  pub are : All IsLine lines
  pub before : AreBeforeEnd lines
  pub is : text ≡ lines_text lines

pub behind_start : IsBehind []
behind_start = record { lines = []; are = All-nil IsLine; before = All-nil (λ line. line ≢ codes "end"); is = refl }

-- a line more
behind_next : (text line : List ℕ) → IsBehind text → IsLine line → line ≢ codes "end" → IsBehind (text ++ ended_line line)
behind_next text line behind is other = record {
  lines = behind.lines ++ line ∷ [];
  are = All-push IsLine behind.lines line behind.are is;
  before = All-push (λ l. l ≢ codes "end") behind.lines line behind.before other;
  is = ap (λ l. l ++ ended_line line) behind.is ∙ sym (lines_text-snoc behind.lines line);
}

-- the line `end`
behind_end : (text line : List ℕ) → IsBehind text → line ≡ codes "end" → EndsAtEnd (text ++ ended_line line)
behind_end text line behind is = (
  behind.lines,
  behind.are,
  behind.before,
  ap (λ l. text ++ ended_line l) is ∙ ap (λ l. l ++ ended_line (codes "end")) behind.is ∙ sym (lines_text-snoc behind.lines (codes "end")),
)

-- the lines of a text that begins with these
lines_of-after : (lines : List (List ℕ)) (rest : List ℕ) → All IsLine lines → lines_of (lines_text lines ++ rest) ≡ lines ++ lines_of rest
lines_of-after [] rest all = refl
lines_of-after (line ∷ lines) rest all =
    lines_of-cut (lines_text (line ∷ lines) ++ rest) line (lines_text lines ++ rest)
    (All-head IsLine line lines all, append_assoc (ended_line line) (lines_text lines) rest ∙ append_assoc line (10 ∷ []) (lines_text lines ++ rest))
    ∙ ap (λ l. line ∷ l) (lines_of-after lines rest (All-tail IsLine line lines all))

-- no line is left
behind_none : (text rest : List ℕ) → IsBehind text → Lacks 10 rest → AreBeforeEnd (lines_of (text ++ rest))
behind_none text rest behind lacks =
    let e : lines_of (text ++ rest) ≡ behind.lines =
    ap (λ l. lines_of (l ++ rest)) behind.is ∙ lines_of-after behind.lines rest behind.are ∙ ap (λ l. behind.lines ++ l) (lines_of-none rest lacks) ∙ append-nil behind.lines in
    let P : List (List ℕ) → Type 0 = AreBeforeEnd in
    subst P (sym e) behind.before

-- The next LF stands so far behind a place.
pub record IsNext (input : List ℕ) (at far : ℕ) : Type 0 where
  pub high : far < length (drop at input)
  pub none : (k : ℕ) → k < far → get_or (drop at input) k 0 ≡ 10 → ⊥
  pub here : get_or (drop at input) far 0 ≡ 10

taken : (input : List ℕ) (at far : ℕ) → IsNext input at far → take (at + (far + 1)) input ≡ take at input ++ ended_line (take far (drop at input))
taken input at far next =
    take-add at (far + 1) input
    ∙ ap (λ l. take at input ++ l) (rw add-one (take-suc (drop at input) far 0 next.high) ∙ ap (λ b. take far (drop at input) ++ b ∷ []) next.here)

pub step_on : (input : List ℕ) (at far : ℕ) → IsNext input at far → IsBehind (take at input) → take far (drop at input) ≢ codes "end" → IsBehind (take (at + (far + 1)) input)
step_on input at far next behind other =
    let cut = first_cut (drop at input) far next.high next.none next.here in
    subst IsBehind (sym (taken input at far next)) (behind_next (take at input) (take far (drop at input)) behind cut.0 other)

pub step_end : (input : List ℕ) (at far : ℕ) → IsNext input at far → IsBehind (take at input) → take far (drop at input) ≡ codes "end" → EndsAtEnd (take (at + (far + 1)) input)
step_end input at far next behind is =
    let P : List ℕ → Type 0 = EndsAtEnd in
    subst P (sym (taken input at far next)) (behind_end (take at input) (take far (drop at input)) behind is)

pub step_none : (input : List ℕ) (at : ℕ) → ((k : ℕ) → k < length (drop at input) → get_or (drop at input) k 0 ≡ 10 → ⊥) → IsBehind (take at input) → AreBeforeEnd (lines_of input)
step_none input at none behind =
    let P : List ℕ → Type 0 = λ l. AreBeforeEnd (lines_of l) in
    subst P (take-append-drop at input) (behind_none (take at input) (drop at input) behind (lacks_all (drop at input) none))

-- lists that begin with an element
same_head : (x y : List ℕ) (xs ys : List (List ℕ)) → x ∷ xs ≡ y ∷ ys → x ≡ y
same_head x y xs ys is = cc

same_tail : (x y : List ℕ) (xs ys : List (List ℕ)) → x ∷ xs ≡ y ∷ ys → xs ≡ ys
same_tail x y xs ys is = cc

same_cons : (x y : List ℕ) (xs ys : List (List ℕ)) → x ≡ y → xs ≡ ys → x ∷ xs ≡ y ∷ ys
same_cons x y xs ys is all = cc

append_one : (xs : List (List ℕ)) (y : List ℕ) (ys : List (List ℕ)) → (xs ++ y ∷ []) ++ ys ≡ xs ++ y ∷ ys
append_one [] y ys = refl
append_one (x ∷ xs) y ys = ap (λ l. x ∷ l) (append_one xs y ys)

-- no LF stands in `end`
end_line : IsLine (codes "end")
end_line =
    let P : ℕ → Type 0 = λ y. y ≢ 10 in
    All-cons P 101 (110 ∷ 100 ∷ []) (omega arith) (All-cons P 110 (100 ∷ []) (omega arith) (All-cons P 100 [] (omega arith) (All-nil P)))

-- the first `end` of lines stands at one place
first_end : (ls ms xs ys : List (List ℕ)) → AreBeforeEnd ls → AreBeforeEnd ms → ls ++ codes "end" ∷ xs ≡ ms ++ codes "end" ∷ ys → ls ≡ ms
first_end [] [] xs ys before other is = refl
first_end [] (m ∷ ms) xs ys before other is = absurd (All-head (λ line. line ≢ codes "end") m ms other (same_head _ _ _ _ (sym is)))
first_end (l ∷ ls) [] xs ys before other is = absurd (All-head (λ line. line ≢ codes "end") l ls before (same_head _ _ _ _ is))
first_end (l ∷ ls) (m ∷ ms) xs ys before other is =
    let P : List ℕ → Type 0 = λ line. line ≢ codes "end" in
    same_cons l m ls ms (same_head _ _ _ _ is) (first_end ls ms xs ys (All-tail P l ls before) (All-tail P m ms other) (same_tail _ _ _ _ is))

no_end : (ls xs : List (List ℕ)) → AreBeforeEnd (ls ++ codes "end" ∷ xs) → ⊥
no_end [] xs before = All-head (λ line. line ≢ codes "end") (codes "end") xs before refl
no_end (l ∷ ls) xs before = no_end ls xs (All-tail (λ line. line ≢ codes "end") l (ls ++ codes "end" ∷ xs) before)

All-end : (lines : List (List ℕ)) → All IsLine lines → All IsLine (lines ++ codes "end" ∷ [])
All-end lines all = All-push IsLine lines (codes "end") all end_line

-- the lines of an input whose text ends at `end`
lines_of-end : (input text rest : List ℕ) (ends : EndsAtEnd text) → input ≡ text ++ rest → lines_of input ≡ ends.0 ++ codes "end" ∷ lines_of rest
lines_of-end input text rest ends is =
    ap lines_of is ∙ ap (λ l. lines_of (l ++ rest)) ends.3 ∙ lines_of-after (ends.0 ++ codes "end" ∷ []) rest (All-end ends.0 ends.1) ∙ append_one ends.0 (codes "end") (lines_of rest)

-- an input is split in one way
pub one_split : (input text rest text' rest' : List ℕ) → Splits input text rest → Splits input text' rest' → text ≡ text'
one_split input text rest text' rest' (is, inl ends) (is', inl ends') =
    let same = first_end ends.0 ends'.0 (lines_of rest) (lines_of rest') ends.2 ends'.2 (sym (lines_of-end input text rest ends is) ∙ lines_of-end input text' rest' ends' is') in
    ends.3 ∙ ap (λ l. lines_text (l ++ codes "end" ∷ [])) same ∙ sym ends'.3
one_split input text rest text' rest' (is, inl ends) (is', inr none) =
    let P : List (List ℕ) → Type 0 = AreBeforeEnd in
    absurd (no_end ends.0 (lines_of rest) (subst P (lines_of-end input text rest ends is) none.0))
one_split input text rest text' rest' (is, inr none) (is', inl ends) =
    let P : List (List ℕ) → Type 0 = AreBeforeEnd in
    absurd (no_end ends.0 (lines_of rest') (subst P (lines_of-end input text' rest' ends is') none.0))
one_split input text rest text' rest' (is, inr none) (is', inr none') =
    sym (append-nil text) ∙ ap (λ l. text ++ l) (sym none.1) ∙ sym is ∙ is' ∙ ap (λ l. text' ++ l) none'.1 ∙ append-nil text'
