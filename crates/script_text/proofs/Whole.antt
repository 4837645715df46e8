-- A whole script, line by line.
use Rattle.std.proofs.Common.{suc, zero, ◌≡◌, ℕ, ◌+◌, ◌<◌, ◌≤◌, List, [], ◌∷◌, ◌++◌, length, get_or, take, drop, refl, sym, ap, subst, ◌∙◌, inl, inr, arith, add-one}
use Rattle.std.specs.Prelude.{Result, Ok, Err}
use Rattle.std.proofs.Math.Seq.{take-suc, split_at}
use Rattle.script_text.specs.declared.error.ScriptError.{ScriptError}
use Rattle.script_text.specs.declared.error.ScriptError.TheVariants as error
use Rattle.script_text.specs.declared.reader.Reader.{Reader}
use Rattle.script_text.specs.declared.script.Script.{Script}
use Rattle.script_text.specs.Blocks.{no_lines, Mark, Marked, at}
use Rattle.script_text.specs.Parts.{Part, whole, part_marks}
use Rattle.script_text.specs.Scripts.{IsMark, AreLines, IsPartOf, IsRefused, IsOpen, IsWrongAt}
use Rattle.script_text.specs.Readings.{ReadsScript}
use Rattle.script_text.specs.Held.{Stands, Extends, Refuses, Finishes}

lines-snoc : (n : ℕ) (ms : List Marked) (ls : List (List ℕ)) (m : Mark) (line : List ℕ) (k : ℕ) → AreLines n ms ls → IsMark line m → k ≡ n + length ls → AreLines n (ms ++ at k m ∷ []) (ls ++ line ∷ [])
lines-snoc n [] [] m line k h i e = (omega arith, i, tt)
lines-snoc n [] (l ∷ ls) m line k h i e = absurd h
lines-snoc n (x ∷ ms) [] m line k h i e = absurd h
lines-snoc n (x ∷ ms) (l ∷ ls) m line k h i e = (h.0, h.1, lines-snoc (n + 1) ms ls m line k h.2 i (omega arith))

length_take : (lines : List (List ℕ)) (i : ℕ) → i ≤ length lines → length (take i lines) ≡ i
length_take lines zero h = refl
length_take [] (suc i) h = absurd (omega arith)
length_take (l ∷ ls) (suc i) h = ap suc (length_take ls i (omega arith))

take_lines : (xs : List (List ℕ)) (n : ℕ) → length xs ≤ n → take n xs ≡ xs
take_lines [] zero l = refl
take_lines [] (suc n) l = refl
take_lines (x ∷ xs) zero l = absurd (omega arith)
take_lines (x ∷ xs) (suc n) l = ap (λ t. x ∷ t) (take_lines xs n (omega arith))

any_default : (xs : List (List ℕ)) (i : ℕ) (d e : List ℕ) → i < length xs → get_or xs i d ≡ get_or xs i e
any_default [] i d e l = absurd (omega arith)
any_default (x ∷ xs) zero d e l = refl
any_default (x ∷ xs) (suc i) d e l = any_default xs i d e (omega arith)

-- what was read so far, and what the reader holds of it
pub record IsReadTo (lines : List (List ℕ)) (r : Reader) : Type 0 where
  pub part : Part
  pub read : IsPartOf lines part
  pub stands : Stands part r

pub read_none : (lines : List (List ℕ)) (r : Reader) → Stands (whole no_lines) r → IsReadTo (take 0 lines) r
read_none lines r s = record { part = whole no_lines; read = record { spelled = tt; shallow = (tt, tt) }; stands = s }

pub read_more : (lines : List (List ℕ)) (i n : ℕ) (old new : Reader) → i < length lines → n ≡ i + 1 → (h : IsReadTo (take i lines) old) → Extends h.part n (get_or lines i []) new → IsReadTo (take (i + 1) lines) new
read_more lines i n old new l e h x =
    let marks = x.extends.marks in
    let more = lines-snoc 1 (part_marks h.part) (take i lines) x.mark (get_or lines i []) n h.read.spelled x.spelled (let t = length_take lines i (omega arith) in omega arith) in
    let grown : take (i + 1) lines ≡ take i lines ++ get_or lines i [] ∷ [] = ap (λ k. take k lines) (add-one i) ∙ take-suc lines i [] l in
    record {
      part = x.extends.part;
      read = record {
        spelled = subst (λ ms. AreLines 1 ms (take (i + 1) lines)) (sym marks) (subst (λ ls. AreLines 1 (part_marks h.part ++ at n x.mark ∷ []) ls) (sym grown) more);
        shallow = x.extends.shallow h.read.shallow;
      };
      stands = x.extends.stands;
    }

wrong_line : (lines : List (List ℕ)) (i n : ℕ) (old : Reader) (e : ScriptError) → i < length lines → n ≡ i + 1 → (h : IsReadTo (take i lines) old) → IsWrongAt h.part n (get_or lines i []) e → IsRefused lines e
wrong_line lines i n old e l m h w = record {
  before = take i lines;
  line = get_or lines i [];
  behind = drop (suc i) lines;
  splits = split_at lines i [] l;
  part = h.part;
  read = h.read;
  wrong = subst (λ k. IsWrongAt h.part k (get_or lines i []) e) (m ∙ ap (λ k. k + 1) (sym (length_take lines i (omega arith)))) w;
}

pub refused_line : (lines : List (List ℕ)) (i n : ℕ) (old : Reader) (e : ScriptError) → i < length lines → n ≡ i + 1 → (h : IsReadTo (take i lines) old) → Refuses h.part n (get_or lines i []) e → ReadsScript lines (Err e)
refused_line lines i n old (error.NoCommand k) l m h w = inl (wrong_line lines i n old (error.NoCommand k) l m h w)
refused_line lines i n old (error.IfNotClosed k) l m h w = inl (wrong_line lines i n old (error.IfNotClosed k) l m h w)
refused_line lines i n old (error.StrayElse k) l m h w = inl (wrong_line lines i n old (error.StrayElse k) l m h w)
refused_line lines i n old (error.BraceNotClosed k) l m h w = inl (wrong_line lines i n old (error.BraceNotClosed k) l m h w)
refused_line lines i n old (error.CreateNotClosed k) l m h w = inl (wrong_line lines i n old (error.CreateNotClosed k) l m h w)
refused_line lines i n old error.Memory l m h w = tt

open_script : (lines : List (List ℕ)) (e : ScriptError) (r : Reader) (h : IsReadTo lines r) → Finishes h.part (Err e) → IsOpen lines e
open_script lines e r h f = record { part = h.part; read = h.read; first = f }

finish_read : (lines : List (List ℕ)) (r : Reader) (x : Result Script ScriptError) (h : IsReadTo lines r) → Finishes h.part x → ReadsScript lines x
finish_read lines r (Ok s) h f = (f.0, subst (IsPartOf lines) f.1 h.read, f.2)
finish_read lines r (Err (error.NoCommand k)) h f = inr (open_script lines (error.NoCommand k) r h f)
finish_read lines r (Err (error.IfNotClosed k)) h f = inr (open_script lines (error.IfNotClosed k) r h f)
finish_read lines r (Err (error.StrayElse k)) h f = inr (open_script lines (error.StrayElse k) r h f)
finish_read lines r (Err (error.BraceNotClosed k)) h f = inr (open_script lines (error.BraceNotClosed k) r h f)
finish_read lines r (Err (error.CreateNotClosed k)) h f = inr (open_script lines (error.CreateNotClosed k) r h f)
finish_read lines r (Err error.Memory) h f = tt

pub finished : (lines : List (List ℕ)) (i : ℕ) (r : Reader) (x : Result Script ScriptError) → length lines ≤ i → IsReadTo (take i lines) r → ((p : Part) → Stands p r → Finishes p x) → ReadsScript lines x
finished lines i r x l h f =
    let all = subst (λ ls. IsReadTo ls r) (take_lines lines i l) h in
    finish_read lines r x all (f all.part all.stands)

pub line_at : (lines : List (List ℕ)) (i : ℕ) (x : List ℕ) → i < length lines → x ≡ get_or lines i x → x ≡ get_or lines i []
line_at lines i x l e = e ∙ any_default lines i x [] l
