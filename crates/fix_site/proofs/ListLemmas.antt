-- Lists each of whose values can stand there, in other words.
use Rattle.std.proofs.Common.{ℕ, suc, ◌≡◌, ◌+◌, ◌<◌, ◌≤◌, List, [], ◌∷◌, ◌++◌, length, sym, ap, subst, ◌∙◌, arith, All, inl, inr, append_assoc, length-append}
use Rattle.line_forms.specs.Lines.{lines_text, ended_line}
use Rattle.line_forms.specs.Names.{IsLineText}
use Rattle.line_forms.specs.Readers.{EachCan}
use Rattle.line_forms.proofs.Lasts.{all_at, each_all, last_or_none}
use Rattle.line_forms.proofs.LineLemmas.{lines_text-append}
use Rattle.line_forms.proofs.Parts.{Lines}
use Rattle.fix_site.specs.Contents.{IsScript}
use Rattle.fix_site.specs.Readings.{Anywhere, FitsScript, FitsRoom}

pub all_each : {V : Type 0} (P : V → Type 0) (vs : List V) → All P vs → EachCan (Anywhere P) vs
all_each {V} P vs all before after v e = let Q : List V → Type 0 = All P in all_at P before after v (subst Q e all)

-- lists that are the same, and what follows them
pub regroup : {a b c d : Lines} → a ≡ b → (m x : Lines) → c ≡ d → (n y : Lines) → (b ++ m) ++ x ≡ (d ++ n) ++ y → a ++ (m ++ x) ≡ c ++ (n ++ y)
regroup {a} {b} {c} {d} h m x k n y e =
    ap (λ l. l ++ (m ++ x)) h ∙ sym (append_assoc b m x) ∙ e ∙ append_assoc d n y ∙ ap (λ l. l ++ (n ++ y)) (sym k)

-- the bytes of lines, one of which is this
pub size_at : (before after : List (List ℕ)) (line : List ℕ) → length (lines_text (before ++ line ∷ after)) ≡ length (lines_text before) + length line + 1 + length (lines_text after)
size_at before after line =
    let a : length (lines_text (before ++ line ∷ after)) ≡ length (lines_text before ++ (ended_line line ++ lines_text after)) = ap length (lines_text-append before (line ∷ after)) in
    let b = length-append (lines_text before) (ended_line line ++ lines_text after) in
    let c = length-append (ended_line line) (lines_text after) in
    let d = length-append line (10 ∷ []) in
    omega arith

pub script_each : (script : List (List ℕ)) → IsScript script → EachCan FitsScript script
script_each script is before after line e =
    let all : List (List ℕ) → Type 0 = All IsLineText in
    let count : length script ≡ length before + suc (length after) = ap (length {A = List ℕ}) e ∙ length-append before (line ∷ after) in
    let size : length (lines_text script) ≡ length (lines_text before) + length line + 1 + length (lines_text after) = ap (λ l. length (lines_text l)) e ∙ size_at before after line in
    let few : length script ≤ 10000 = is.few in
    let short : length (lines_text script) ≤ 262144 = is.short in
    record { good = all_at IsLineText before after line (subst all e is.good); few = omega arith; short = omega arith }

pub each_script : (script : List (List ℕ)) → EachCan FitsScript script → IsScript script
each_script script each =
    let good = each_all IsLineText FitsScript (λ before line fits. fits.good) script each in
    elim (last_or_none script) [
      | inl e ↦ let count : length script ≡ 0 = ap (length {A = List ℕ}) e in let size : length (lines_text script) ≡ 0 = ap (λ l. length (lines_text l)) e in record { few = omega arith; good = good; short = omega arith }
      | inr e ↦
          let fits = each e.0 [] e.1 e.2 in
          let count : length script ≡ length e.0 + 1 = ap (length {A = List ℕ}) e.2 ∙ length-append e.0 (e.1 ∷ []) in
          let size : length (lines_text script) ≡ length (lines_text e.0) + length e.1 + 1 + 0 = ap (λ l. length (lines_text l)) e.2 ∙ size_at e.0 [] e.1 in
          let few : length e.0 < 10000 = fits.few in
          let short : length (lines_text e.0) + length e.1 + 1 ≤ 262144 = fits.short in
          record { few = omega arith; good = good; short = omega arith }
    ]

-- a line that has room behind a script fits it
pub fits_script : (items : List (List ℕ)) (line : List ℕ) (count room : ℕ) → FitsRoom count room line → count ≡ length items → length (lines_text items) + room ≡ 262144 → FitsScript items line
fits_script items line count room fits counted left =
    let few : count < 10000 = fits.few in
    let short : length line < room = fits.short in
    record { good = fits.good; few = omega arith; short = omega arith }

-- and if nothing that is left fits the room, nothing fits the script
pub fits_room : (items : List (List ℕ)) (line : List ℕ) (count room : ℕ) → FitsScript items line → count ≡ length items → length (lines_text items) + room ≡ 262144 → FitsRoom count room line
fits_room items line count room fits counted left =
    let few : length items < 10000 = fits.few in
    let short : length (lines_text items) + length line + 1 ≤ 262144 = fits.short in
    record { good = fits.good; few = omega arith; short = omega arith }

-- what is left behind one more line
pub room_left : (items result : List (List ℕ)) (line : List ℕ) (room rest : ℕ) → result ≡ items ++ line ∷ [] → length (lines_text items) + room ≡ 262144 → rest + (length line + 1) ≡ room → length (lines_text result) + rest ≡ 262144
room_left items result line room rest e left taken =
    let size : length (lines_text result) ≡ length (lines_text items) + length line + 1 + 0 = ap (λ l. length (lines_text l)) e ∙ size_at items [] line in
    omega arith
