-- Texts and their lines. Other crates may cite these lemmas.
use Rattle.std.proofs.Common.{◌≡◌, ℕ, ◌<◌, List, [], ◌∷◌, ◌++◌, length, All, sym, refl, ap, subst, ◌∙◌, arith, append_assoc, append-nil}
use Rattle.std.specs.List.{join_with_byte}
use Rattle.std.proofs.lemmas.List.Elements.{All-head, All-tail, All-nil, All-cons}
use Rattle.line_forms.specs.Cuts.{Lacks, IsCut, pieces}
use Rattle.line_forms.specs.LineStates.{LineState, front_of, last_of, lines_of, unended_of}
use Rattle.line_forms.specs.Lines.{IsLine, ended_line, lines_text, IsBehindLines, IsAhead, Takes}
use Rattle.line_forms.specs.declared.lines.Ahead.{Ahead}
use Rattle.line_forms.specs.declared.lines.Ahead.TheVariants as ahead
use Rattle.line_forms.proofs.Pieces.{pieces-none, pieces-cut, pieces-some, pieces-lack, join-pieces}

pub front_of-cons : (x : List ℕ) (xs : List (List ℕ)) → 0 < length xs → front_of (x ∷ xs) ≡ x ∷ front_of xs
front_of-cons x [] some = absurd (omega arith)
front_of-cons x (y ∷ ys) some = refl

last_of-cons : (x : List ℕ) (xs : List (List ℕ)) → 0 < length xs → last_of (x ∷ xs) ≡ last_of xs
last_of-cons x [] some = absurd (omega arith)
last_of-cons x (y ∷ ys) some = refl

-- a line at the front of a text
pub lines_of-cut : (text line rest : List ℕ) → IsCut 10 text line rest → lines_of text ≡ line ∷ lines_of rest
lines_of-cut text line rest cut = ap front_of (pieces-cut 10 text line rest cut) ∙ front_of-cons line (pieces 10 rest) (pieces-some 10 rest)

pub unended_of-cut : (text line rest : List ℕ) → IsCut 10 text line rest → unended_of text ≡ unended_of rest
unended_of-cut text line rest cut = ap last_of (pieces-cut 10 text line rest cut) ∙ last_of-cons line (pieces 10 rest) (pieces-some 10 rest)

-- a text without LF has no line that is ended
pub lines_of-none : (text : List ℕ) → Lacks 10 text → lines_of text ≡ []
lines_of-none text lacks = ap front_of (pieces-none 10 text lacks)

pub unended_of-none : (text : List ℕ) → Lacks 10 text → unended_of text ≡ text
unended_of-none text lacks = ap last_of (pieces-none 10 text lacks)

-- the text of lines and of others behind them, and of one more
pub lines_text-append : (a b : List (List ℕ)) → lines_text (a ++ b) ≡ lines_text a ++ lines_text b
lines_text-append [] b = refl
lines_text-append (x ∷ a) b = ap (λ l. ended_line x ++ l) (lines_text-append a b) ∙ sym (append_assoc (ended_line x) (lines_text a) (lines_text b))

pub lines_text-snoc : (lines : List (List ℕ)) (line : List ℕ) → lines_text (lines ++ line ∷ []) ≡ lines_text lines ++ ended_line line
lines_text-snoc [] line = append-nil (ended_line line)
lines_text-snoc (x ∷ lines) line = ap (λ l. ended_line x ++ l) (lines_text-snoc lines line) ∙ sym (append_assoc (ended_line x) (lines_text lines) (ended_line line))

-- the text of lines, with the first one taken off
cons_cut : (line : List ℕ) (lines : List (List ℕ)) (unended : List ℕ) → IsLine line → IsCut 10 (lines_text (line ∷ lines) ++ unended) line (lines_text lines ++ unended)
cons_cut line lines unended is = (is, append_assoc (ended_line line) (lines_text lines) unended ∙ append_assoc line (10 ∷ []) (lines_text lines ++ unended))

pub lines_of-lines_text : (lines : List (List ℕ)) (unended : List ℕ) → All IsLine lines → IsLine unended → lines_of (lines_text lines ++ unended) ≡ lines
lines_of-lines_text [] unended all is = lines_of-none unended is
lines_of-lines_text (line ∷ lines) unended all is =
    lines_of-cut _ line (lines_text lines ++ unended) (cons_cut line lines unended (All-head IsLine line lines all))
    ∙ ap (λ l. line ∷ l) (lines_of-lines_text lines unended (All-tail IsLine line lines all) is)

pub unended_of-lines_text : (lines : List (List ℕ)) (unended : List ℕ) → All IsLine lines → IsLine unended → unended_of (lines_text lines ++ unended) ≡ unended
unended_of-lines_text [] unended all is = unended_of-none unended is
unended_of-lines_text (line ∷ lines) unended all is =
    unended_of-cut _ line (lines_text lines ++ unended) (cons_cut line lines unended (All-head IsLine line lines all))
    ∙ unended_of-lines_text lines unended (All-tail IsLine line lines all) is

-- pieces are lines and what stands behind them
text_of-pieces : (parts : List (List ℕ)) → 0 < length parts → join_with_byte 10 parts ≡ lines_text (front_of parts) ++ last_of parts
text_of-pieces [] some = absurd (omega arith)
text_of-pieces (x ∷ []) some = refl
text_of-pieces (x ∷ y ∷ xs) some =
    ap (λ l. x ++ (10 ∷ l)) (text_of-pieces (y ∷ xs) (omega arith))
    ∙ sym (append_assoc (ended_line x) (lines_text (front_of (y ∷ xs))) (last_of (y ∷ xs)) ∙ append_assoc x (10 ∷ []) (lines_text (front_of (y ∷ xs)) ++ last_of (y ∷ xs)))

pub text_of-lines : (text : List ℕ) → text ≡ lines_text (lines_of text) ++ unended_of text
text_of-lines text = sym (join-pieces 10 text) ∙ text_of-pieces (pieces 10 text) (pieces-some 10 text)

front_of-All : (P : List ℕ → Type 0) (parts : List (List ℕ)) → All P parts → All P (front_of parts)
front_of-All P [] all = All-nil P
front_of-All P (x ∷ []) all = All-nil P
front_of-All P (x ∷ y ∷ xs) all = All-cons P x (front_of (y ∷ xs)) (All-head P x (y ∷ xs) all) (front_of-All P (y ∷ xs) (All-tail P x (y ∷ xs) all))

last_of-All : (P : List ℕ → Type 0) (parts : List (List ℕ)) → 0 < length parts → All P parts → P (last_of parts)
last_of-All P [] some all = absurd (omega arith)
last_of-All P (x ∷ []) some all = All-head P x [] all
last_of-All P (x ∷ y ∷ xs) some all = last_of-All P (y ∷ xs) (omega arith) (All-tail P x (y ∷ xs) all)

pub lines_of-lines : (text : List ℕ) → All IsLine (lines_of text)
lines_of-lines text = front_of-All IsLine (pieces 10 text) (pieces-lack 10 text)

pub unended_of-line : (text : List ℕ) → IsLine (unended_of text)
unended_of-line text = last_of-All IsLine (pieces 10 text) (pieces-some 10 text) (pieces-lack 10 text)

-- what stands behind the lines of a cursor over a text without LF
pub behind-lines : (text : List ℕ) (state : LineState) (answer : Ahead) → Lacks 10 text → state.lines ≡ lines_of text → state.unended ≡ unended_of text → IsBehindLines text answer → IsAhead state answer
behind-lines text state (ahead.Line line) lacks lines unended is = absurd is
behind-lines text state ahead.End lacks lines unended is = (lines ∙ lines_of-none text lacks, unended ∙ unended_of-none text lacks ∙ is)
behind-lines text state ahead.Unended lacks lines unended is =
    let P : List ℕ → Type 0 = λ l. 0 < length l in
    (lines ∙ lines_of-none text lacks, subst P (sym (unended ∙ unended_of-none text lacks)) is)

pub behind-taken : (text : List ℕ) (state : LineState) (answer : Ahead) → Lacks 10 text → state.lines ≡ lines_of text → state.unended ≡ unended_of text → IsBehindLines text answer → Takes state state answer
behind-taken text state (ahead.Line line) lacks lines unended is = absurd is
behind-taken text state ahead.End lacks lines unended is = (behind-lines text state ahead.End lacks lines unended is, refl)
behind-taken text state ahead.Unended lacks lines unended is = (behind-lines text state ahead.Unended lacks lines unended is, refl)
