-- Lines are one script, or none for one cause.
use Rattle.std.proofs.Common.{◌≡◌, ℕ, ◌+◌, ◌⊎◌, List, [], ◌∷◌, ◌++◌, length, Some, None, refl, sym, ap, subst, ◌∙◌, inl, inr, arith}
use Rattle.std.specs.Prelude.{Result, Ok, Err}
use Rattle.script_text.specs.declared.error.ScriptError.{ScriptError}
use Rattle.script_text.specs.Blocks.{Block, no_lines}
use Rattle.script_text.specs.Parts.{Part, whole, within, not_closed}
use Rattle.script_text.specs.Scripts.{IsPartOf, IsRefused, IsOpen, IsWrongAt, PlainScript, script_of, IsVerdict}
use Rattle.script_text.proofs.OneTemplate.{cons_same}
use Rattle.script_text.proofs.NextParts.{Turns, Reaches, reaches_one, reaches_cut, wrong_or_read, wrong_one}
use Rattle.script_text.proofs.OnePart.{part_made, part_one}

whole_same : (b c : Block) → whole b ≡ whole c → b ≡ c
whole_same b c e =
    let inner : within b ≡ within c = ap (λ (p : Part). p.inner) e in
    cc

some_same : (e f : ScriptError) → Some e ≡ Some f → e ≡ f
some_same e f h = let g = h in cc

-- a refused line isn't read
refused_or_read : (lines : List (List ℕ)) (p : Part) (e : ScriptError) → IsPartOf lines p → IsRefused lines e → ⊥
refused_or_read lines p e x r =
    let made = subst (λ l. Reaches (whole no_lines) 1 l p) r.splits (part_made lines p x) in
    let cut = reaches_cut (whole no_lines) p 1 (length r.before + 1) r.before (r.line ∷ r.behind) (omega arith) made in
    let here = reaches_one (whole no_lines) 1 r.before cut.0 r.part cut.1 (part_made r.before r.part r.read) in
    wrong_or_read r.part (length r.before + 1) r.line e cut.2.0 r.wrong (subst (λ q. Turns q (length r.before + 1) r.line cut.2.0) here cut.2.1)

-- of two lines of a list, they are one, or one stands before the other
abbrev Apart : List (List ℕ) → List ℕ → List (List ℕ) → Type 0
Apart front line other = (between : List (List ℕ)) × (other ≡ front ++ line ∷ between)

two_places : (a b : List (List ℕ)) (x y : List ℕ) (c d : List (List ℕ)) → a ++ x ∷ c ≡ b ++ y ∷ d → ((a ≡ b) × (x ≡ y)) ⊎ (Apart a x b ⊎ Apart b y a)
two_places [] [] x y c d e = inl (refl, (cons_same x y c d e).0)
two_places [] (w ∷ b) x y c d e = let h = (cons_same x w c (b ++ y ∷ d) e).0 in inr (inl (b, (let f = h in let q : w ∷ b ≡ x ∷ b = cc in q)))
two_places (v ∷ a) [] x y c d e = let h = (cons_same v y (a ++ x ∷ c) d e).0 in inr (inr (a, (let f = h in let q : v ∷ a ≡ y ∷ a = cc in q)))
two_places (v ∷ a) (w ∷ b) x y c d e =
    let h = cons_same v w (a ++ x ∷ c) (b ++ y ∷ d) e in
    more v w a b x y h.0 (two_places a b x y c d h.1)
  where
    more : (v w : List ℕ) (a b : List (List ℕ)) (x y : List ℕ) → v ≡ w → ((a ≡ b) × (x ≡ y)) ⊎ (Apart a x b ⊎ Apart b y a) → ((v ∷ a ≡ w ∷ b) × (x ≡ y)) ⊎ (Apart (v ∷ a) x (w ∷ b) ⊎ Apart (w ∷ b) y (v ∷ a))
    more v w a b x y e (inl h) = let f = h.0 in inl ((let q : v ∷ a ≡ w ∷ b = cc in q), h.1)
    more v w a b x y e (inr (inl h)) = let f = h.1 in inr (inl (h.0, (let q : w ∷ b ≡ v ∷ (a ++ x ∷ h.0) = cc in q)))
    more v w a b x y e (inr (inr h)) = let f = h.1 in inr (inr (h.0, (let q : v ∷ a ≡ w ∷ (b ++ y ∷ h.0) = cc in q)))

-- a refused line, as the first of another list
earlier : (lines : List (List ℕ)) (e : ScriptError) (r : IsRefused lines e) (other between : List (List ℕ)) → other ≡ r.before ++ r.line ∷ between → IsRefused other e
earlier lines e r other between s = record {
  before = r.before;
  line = r.line;
  behind = between;
  splits = s;
  part = r.part;
  read = r.read;
  wrong = r.wrong;
}

refused_one : (lines : List (List ℕ)) (e f : ScriptError) → IsRefused lines e → IsRefused lines f → e ≡ f
refused_one lines e f x y = cases (two_places x.before y.before x.line y.line x.behind y.behind (sym x.splits ∙ y.splits))
  where
    cases : ((x.before ≡ y.before) × (x.line ≡ y.line)) ⊎ (Apart x.before x.line y.before ⊎ Apart y.before y.line x.before) → e ≡ f
    cases (inl h) =
        let part = part_one y.before x.part y.part (subst (λ l. IsPartOf l x.part) h.0 x.read) y.read in
        let number = ap (λ (l : List (List ℕ)). length l + 1) h.0 in
        wrong_one y.part (length y.before + 1) y.line e f
        (subst (λ l. IsWrongAt y.part (length y.before + 1) l e) h.1
        (subst (λ k. IsWrongAt y.part k x.line e) number
        (subst (λ p. IsWrongAt p (length x.before + 1) x.line e) part x.wrong))) y.wrong
    cases (inr (inl h)) = absurd (refused_or_read y.before y.part e y.read (earlier lines e x y.before h.0 h.1))
    cases (inr (inr h)) = absurd (refused_or_read x.before x.part f x.read (earlier lines f y x.before h.0 h.1))

open_one : (lines : List (List ℕ)) (e f : ScriptError) → IsOpen lines e → IsOpen lines f → e ≡ f
open_one lines e f x y =
    some_same e f (sym x.first ∙ ap not_closed (part_one lines x.part y.part x.read y.read) ∙ y.first)

-- a script is whole
whole_or_open : (lines : List (List ℕ)) (b : Block) (e : ScriptError) → IsPartOf lines (whole b) → IsOpen lines e → ⊥
whole_or_open lines b e x y =
    let f : None ≡ Some e = ap not_closed (part_one lines (whole b) y.part x y.read) ∙ y.first in
    cc

fault_one : (lines : List (List ℕ)) (e f : ScriptError) → IsRefused lines e ⊎ IsOpen lines e → IsRefused lines f ⊎ IsOpen lines f → e ≡ f
fault_one lines e f (inl x) (inl y) = refused_one lines e f x y
fault_one lines e f (inl x) (inr y) = absurd (refused_or_read lines y.part e y.read x)
fault_one lines e f (inr x) (inl y) = absurd (refused_or_read lines x.part f x.read y)
fault_one lines e f (inr x) (inr y) = open_one lines e f x y

script_or_fault : (lines : List (List ℕ)) (b : Block) (e : ScriptError) → IsPartOf lines (whole b) → IsRefused lines e ⊎ IsOpen lines e → ⊥
script_or_fault lines b e x (inl y) = refused_or_read lines (whole b) e x y
script_or_fault lines b e x (inr y) = whole_or_open lines b e x y

script_one : (lines : List (List ℕ)) (b c : Block) → IsPartOf lines (whole b) → IsPartOf lines (whole c) → script_of b ≡ script_of c
script_one lines b c x y = ap script_of (whole_same b c (part_one lines (whole b) (whole c) x y))

-- lines have one verdict
pub verdict_one : (lines : List (List ℕ)) (x y : Result PlainScript ScriptError) → IsVerdict lines x → IsVerdict lines y → x ≡ y
verdict_one lines (Ok s) (Ok t) x y = ap (λ z. Ok z) (x.2 ∙ script_one lines x.0 y.0 x.1 y.1 ∙ sym y.2)
verdict_one lines (Ok s) (Err f) x y = absurd (script_or_fault lines x.0 f x.1 y)
verdict_one lines (Err e) (Ok t) x y = absurd (script_or_fault lines y.0 e y.1 x)
verdict_one lines (Err e) (Err f) x y = ap (λ z. Err z) (fault_one lines e f x y)
