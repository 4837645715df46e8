-- The lines of a content, one by one. Other crates may cite these lemmas.
use Rattle.std.proofs.Common.{◌≡◌, ℕ, suc, zero, ◌<◌, ℤ, pos, negsuc, List, [], ◌∷◌, ◌++◌, ◌+◌, ◌-◌, ◌≤◌, min, ◌≤ℤ◌, length, drop, map, Some, None, refl, sym, ap, ◌∙◌, arith, length-append, add-one, ◌⊎◌, inl, inr}
use Rattle.std.specs.declared.option.Option.{Option}
use Rattle.std.specs.Option.{option_map}
use Rattle.std.specs.Str.Lines.{lines, lines_of_parts, strip_carriage_return}
use Rattle.std.proofs.lemmas.Bool.Decides.{nat_tests}
use Rattle.std.specs.List.{slice_get}
use Rattle.std.proofs.lemmas.Int.{ints}
use Rattle.std.proofs.lemmas.Option.{slice_get-map}
use Rattle.line_forms.specs.Cuts.{Lacks, IsCut, pieces}
use Rattle.line_forms.proofs.Pieces.{pieces-none, pieces-cut, pieces-some}
use Rattle.std.proofs.lemmas.List.{drop-drop}
use Rattle.rel_sources.specs.declared.lines.Lines.{Lines}
use Rattle.rel_sources.specs.Traces.{Item}
use Rattle.rel_sources.specs.Sources.{lines_left}
use Rattle.rel_sources.specs.Words.{readable, text_lines}
use Rattle.rel_sources.specs.Rows.{numbered, line_item, text_item_of}

parts-more : (x : List ℕ) (ps : List (List ℕ)) → 0 < length ps → lines_of_parts (x ∷ ps) ≡ strip_carriage_return x ∷ lines_of_parts ps
parts-more x [] h = absurd (let none : 0 < 0 = h in omega arith)
parts-more x (y ∷ ys) h = refl

one-part : (x : List ℕ) → 0 < length x → lines_of_parts (x ∷ []) ≡ x ∷ []
one-part x some = grind (arith, nat_tests)

-- a line before an LF, and the lines behind it
pub lines-cut : (text first rest : List ℕ) → IsCut 10 text first rest → lines text ≡ strip_carriage_return first ∷ lines rest
lines-cut text first rest cut =
    ap lines_of_parts (pieces-cut 10 text first rest cut) ∙ parts-more first (pieces 10 rest) (pieces-some 10 rest)

-- a last line without LF
pub lines-last : (text : List ℕ) → Lacks 10 text → 0 < length text → lines text ≡ text ∷ []
lines-last text lacks some = ap lines_of_parts (pieces-none 10 text lacks) ∙ one-part text some

pub text_lines-nil : text_lines [] ≡ []
unfolding text_lines
text_lines-nil = refl

pub text_lines-first : (content line rest : List ℕ) → lines content ≡ line ∷ lines rest → text_lines content ≡ readable line ∷ text_lines rest
unfolding text_lines
text_lines-first content line rest e = ap (map readable) e

pub text_lines-map : (content : List ℕ) → text_lines content ≡ map readable (lines content)
unfolding text_lines
text_lines-map content = refl

-- the line of a number, as a text
pub numbered-map : (f : List ℕ → List ℕ) (number : ℤ) (ls : List (List ℕ)) → numbered number (map f ls) ≡ option_map f (numbered number ls)
numbered-map f (pos zero) ls = refl
numbered-map f (pos (suc n)) ls = slice_get-map f ls n
numbered-map f (negsuc n) ls = refl

-- a line below 1 is no line
pub numbered-below : (number : ℤ) (ls : List (List ℕ)) → number ≤ℤ pos 0 → numbered number ls ≡ None
numbered-below (pos zero) ls below = refl
numbered-below (pos (suc n)) ls below = absurd (omega (arith, ints))
numbered-below (negsuc n) ls below = refl

pub numbered-at : (n : ℕ) (ls : List (List ℕ)) → numbered (pos (n + 1)) ls ≡ slice_get ls n
numbered-at n ls = ap (λ m. numbered (pos m) ls) (add-one n)

-- a cut's parts make up the text
pub cut-length : (text first rest : List ℕ) → IsCut 10 text first rest → length first + 1 + length rest ≡ length text
cut-length text first rest cut =
    let whole : length text ≡ length first + length (10 ∷ rest) = ap length cut.1 ∙ length-append first (10 ∷ rest) in omega arith

past-front : (xs ys : List ℕ) (x n : ℕ) → n ≡ length xs + 1 → drop n (xs ++ (x ∷ ys)) ≡ ys
past-front [] ys x n e = ap (λ m. drop m (x ∷ ys)) e
past-front (z ∷ zs) ys x n e = ap (λ m. drop m (z ∷ zs ++ (x ∷ ys))) (e ∙ (let same : length (z ∷ zs) + 1 ≡ suc (length zs + 1) = omega arith in same)) ∙ past-front zs ys x (length zs + 1) refl

pub cut-rest : (text first rest : List ℕ) → IsCut 10 text first rest → drop (length text - length rest) text ≡ rest
cut-rest text first rest cut =
    let whole = cut-length text first rest cut in
    let n : length text - length rest ≡ length first + 1 = omega arith in
    ap (λ t. drop (length text - length rest) t) cut.1 ∙ past-front first rest 10 (length text - length rest) n

pub drop-all : (text : List ℕ) → drop (length text) text ≡ []
drop-all [] = refl
drop-all (x ∷ xs) = drop-all xs

pub get-first : {A : Type 0} (ls : List A) (line : A) (more : List A) → ls ≡ line ∷ more → slice_get ls 0 ≡ Some line
get-first ls line more e = ap (λ l. slice_get l 0) e

pub get-later : {A : Type 0} (ls : List A) (line : A) (more : List A) (n : ℕ) → ls ≡ line ∷ more → (n ≡ 0 → ⊥) → slice_get ls n ≡ slice_get more (n - 1)
get-later ls line more zero e other = absurd (other refl)
get-later ls line more (suc n) e other = ap (λ l. slice_get l (suc n)) e ∙ ap (slice_get more) (let same : n ≡ suc n - 1 = omega arith in same)

drop-past : (xs : List ℕ) (n : ℕ) → length xs ≤ n → drop n xs ≡ []
drop-past [] zero below = refl
drop-past [] (suc n) below = refl
drop-past (x ∷ xs) zero below = absurd (omega arith)
drop-past (x ∷ xs) (suc n) below = drop-past xs n (omega arith)

min-cases : (n m : ℕ) → (min n m ≡ n) ⊎ ((min n m ≡ m) × (m ≤ n))
min-cases zero m = inl (omega arith)
min-cases (suc n) zero = inr (omega arith, omega arith)
min-cases (suc n) (suc m) = elim (min-cases n m) [ inl e ↦ inl (omega arith) | inr h ↦ inr (omega arith, omega arith) ]

drop-min : (xs : List ℕ) (n : ℕ) → drop (min n (length xs)) xs ≡ drop n xs
drop-min xs n =
    elim (min-cases n (length xs)) [
      | inl same ↦ ap (λ k. drop k xs) same
      | inr h ↦ ap (λ k. drop k xs) h.0 ∙ drop-all xs ∙ sym (drop-past xs n h.1)
    ]

-- no line is left behind the end
pub lines-end : (l : Lines) → length l.content ≤ l.from → lines_left l ≡ []
lines-end l past = ap (λ c. map (line_item l.wanted) (text_lines c)) (drop-past l.content l.from past) ∙ ap (map (line_item l.wanted)) text_lines-nil

-- the first line that is left
pub lines-next : (l m : Lines) (left line : List ℕ) (k taken : ℕ) (i : Item) → lines left ≡ line ∷ lines (drop taken left) → k ≡ min l.from (length l.content) → left ≡ drop k l.content
    → i ≡ line_item l.wanted (readable line) → m.wanted ≡ l.wanted → m.content ≡ l.content → m.from ≡ k + taken → lines_left l ≡ i ∷ lines_left m
lines-next l m left line k taken i first at is item same_wanted same_content further =
    let whole : drop l.from l.content ≡ left = sym (drop-min l.content l.from) ∙ ap (λ n. drop n l.content) (sym at) ∙ sym is in
    let behind : drop taken left ≡ drop m.from m.content =
    ap (drop taken) is ∙ drop-drop taken k l.content ∙ ap (λ n. drop n l.content) (sym further) ∙ ap (drop m.from) (sym same_content) in
    ap (λ c. map (line_item l.wanted) (text_lines c)) whole
    ∙ ap (map (line_item l.wanted)) (text_lines-first left line (drop taken left) first)
    ∙ ap (λ x. x ∷ map (line_item l.wanted) (text_lines (drop taken left))) (sym item)
    ∙ ap (λ c. i ∷ map (line_item l.wanted) (text_lines c)) behind
    ∙ ap (λ w. i ∷ map (line_item w) (text_lines (drop m.from m.content))) (sym same_wanted)

-- the item of the line of a number
pub line-item : (number : ℤ) (content : List ℕ) (r : Option (List ℕ)) → r ≡ numbered number (lines content) → text_item_of (numbered number (text_lines content)) ≡ text_item_of (option_map readable r)
line-item number content r e =
    ap text_item_of (ap (numbered number) (text_lines-map content) ∙ numbered-map readable number (lines content) ∙ ap (option_map readable) (sym e))
