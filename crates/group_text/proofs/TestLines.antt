-- The lines of tests: each is that of one test, and none is the last line.
use Rattle.std.proofs.Common.{ℕ, ◌≡◌, List, [], ◌∷◌, ◌++◌, Option, Some, None, option_map, MatchOption, get_or, refl, sym, ap, subst, ◌∙◌, arith}
use Rattle.std.specs.Prelude.{codes}
use Rattle.std.proofs.lemmas.List.{append_cancel_left}
use Rattle.line_forms.specs.Fields.{field_text}
use Rattle.line_forms.specs.Names.{IsName}
use Rattle.group_text.specs.declared.test.Test.{Test}
use Rattle.group_text.specs.declared.test.Test.TheVariants.{Has, Lacks, Error}
use Rattle.line_forms.specs.Reads.{ReadsText}
use Rattle.group_text.specs.declared.group_reader.Named.{Named}
use Rattle.group_text.specs.declared.group_reader.Spelled.TheVariants as spelled
use Rattle.group_text.specs.Readings.{AreNamed, SpellsTest}
use Rattle.group_text.specs.Tests.{IsTest, test_line}
use Rattle.group_text.proofs.FieldLemmas.{named_one}
use denote.Ref.{Bor}

-- the first byte of a line
abbrev first : List ℕ → ℕ
first line = get_or line 0 0

pub end_not_test : (test : Test) → codes "end" ≡ test_line test → ⊥
end_not_test (Has property text) e = let k : get_or {A = ℕ} (101 ∷ []) 0 0 ≡ 104 = ap first e in omega arith
end_not_test (Lacks property text) e = let k : get_or {A = ℕ} (101 ∷ []) 0 0 ≡ 108 = ap first e in omega arith
end_not_test (Error property) e = let k : get_or {A = ℕ} (110 ∷ []) 0 0 ≡ 114 = ap (λ (l : List ℕ). get_or l 1 0) e in omega arith

named_test : (text a b c d : List ℕ) → AreNamed text a b → AreNamed text c d → (c ≡ a) × (d ≡ b)
named_test text a b c d is fine = named_one text a b c d is fine

pub test_one : (a b : Test) → IsTest a → IsTest b → test_line a ≡ test_line b → a ≡ b
test_one (Has p t) (Has q u) is fine e =
    let rest : field_text p ++ t ≡ field_text q ++ u = append_cancel_left (field_text (codes "has")) (field_text p ++ t) (field_text q ++ u) e in
    let same = named_one (field_text q ++ u) q u p t (fine.0, fine.1, refl) (is.0, is.1, sym rest) in
    ap (λ x. Has x t) same.0 ∙ ap (λ x. Has q x) same.1
test_one (Lacks p t) (Lacks q u) is fine e =
    let rest : field_text p ++ t ≡ field_text q ++ u = append_cancel_left (field_text (codes "lacks")) (field_text p ++ t) (field_text q ++ u) e in
    let same = named_one (field_text q ++ u) q u p t (fine.0, fine.1, refl) (is.0, is.1, sym rest) in
    ap (λ x. Lacks x t) same.0 ∙ ap (λ x. Lacks q x) same.1
test_one (Error p) (Error q) is fine e = ap Error (append_cancel_left (field_text (codes "error")) p q e)
test_one (Has p t) (Lacks q u) is fine e = absurd (let k : get_or {A = ℕ} (104 ∷ []) 0 0 ≡ 108 = ap first e in omega arith)
test_one (Has p t) (Error q) is fine e = absurd (let k : get_or {A = ℕ} (104 ∷ []) 0 0 ≡ 101 = ap first e in omega arith)
test_one (Lacks p t) (Has q u) is fine e = absurd (let k : get_or {A = ℕ} (108 ∷ []) 0 0 ≡ 104 = ap first e in omega arith)
test_one (Lacks p t) (Error q) is fine e = absurd (let k : get_or {A = ℕ} (108 ∷ []) 0 0 ≡ 101 = ap first e in omega arith)
test_one (Error p) (Has q u) is fine e = absurd (let k : get_or {A = ℕ} (101 ∷ []) 0 0 ≡ 104 = ap first e in omega arith)
test_one (Error p) (Lacks q u) is fine e = absurd (let k : get_or {A = ℕ} (101 ∷ []) 0 0 ≡ 108 = ap first e in omega arith)

-- ---- what isn't a test's line
-- where behind a word no name and text stand, no test of that word does; and other words differ
pub no_has : (line rest : List ℕ) → line ≡ field_text (codes "has") ++ rest → ((property text : List ℕ) → AreNamed rest property text → ⊥) → (test : Test) → IsTest test → line ≡ test_line test → ⊥
no_has line rest is none (Has p t) fine e = none p t (fine.0, fine.1, append_cancel_left (field_text (codes "has")) rest (field_text p ++ t) (sym is ∙ e))
no_has line rest is none (Lacks p t) fine e = let k : get_or {A = ℕ} (104 ∷ []) 0 0 ≡ 108 = ap first (sym is ∙ e) in omega arith
no_has line rest is none (Error p) fine e = let k : get_or {A = ℕ} (104 ∷ []) 0 0 ≡ 101 = ap first (sym is ∙ e) in omega arith

pub no_lacks : (line rest : List ℕ) → line ≡ field_text (codes "lacks") ++ rest → ((property text : List ℕ) → AreNamed rest property text → ⊥) → (test : Test) → IsTest test → line ≡ test_line test → ⊥
no_lacks line rest is none (Lacks p t) fine e = none p t (fine.0, fine.1, append_cancel_left (field_text (codes "lacks")) rest (field_text p ++ t) (sym is ∙ e))
no_lacks line rest is none (Has p t) fine e = let k : get_or {A = ℕ} (108 ∷ []) 0 0 ≡ 104 = ap first (sym is ∙ e) in omega arith
no_lacks line rest is none (Error p) fine e = let k : get_or {A = ℕ} (108 ∷ []) 0 0 ≡ 101 = ap first (sym is ∙ e) in omega arith

pub no_error : (line rest : List ℕ) → line ≡ field_text (codes "error") ++ rest → (IsName rest → ⊥) → (test : Test) → IsTest test → line ≡ test_line test → ⊥
no_error line rest is none (Error p) fine e =
    let P : List ℕ → Type 0 = IsName in
    none (subst P (sym (append_cancel_left (field_text (codes "error")) rest p (sym is ∙ e))) fine)
no_error line rest is none (Has p t) fine e = let k : get_or {A = ℕ} (101 ∷ []) 0 0 ≡ 104 = ap first (sym is ∙ e) in omega arith
no_error line rest is none (Lacks p t) fine e = let k : get_or {A = ℕ} (101 ∷ []) 0 0 ≡ 108 = ap first (sym is ∙ e) in omega arith

-- a line of none of the words
pub no_word : (line : List ℕ) → ((rest : List ℕ) → line ≡ field_text (codes "has") ++ rest → ⊥) → ((rest : List ℕ) → line ≡ field_text (codes "lacks") ++ rest → ⊥) →
    ((rest : List ℕ) → line ≡ field_text (codes "error") ++ rest → ⊥) → (test : Test) → IsTest test → line ≡ test_line test → ⊥
no_word line has lacks error (Has p t) fine e = has (field_text p ++ t) e
no_word line has lacks error (Lacks p t) fine e = lacks (field_text p ++ t) e
no_word line has lacks error (Error p) fine e = error p e

-- ---- what is read behind a word
abbrev pub named_or_none : List ℕ → Option Named → Type 0
named_or_none rest answer = MatchOption answer ((property text : List ℕ) → AreNamed rest property text → ⊥) (λ named. AreNamed rest named.property.now named.text.now)

pub has_spelled : (line rest : List ℕ) (answer : Option Named) → line ≡ field_text (codes "has") ++ rest → named_or_none rest answer → SpellsTest line (option_map spelled.Has answer)
has_spelled line rest None is none = no_has line rest is none
has_spelled line rest (Some named) is are = ((are.0, are.1), is ∙ ap (λ r. field_text (codes "has") ++ r) are.2)

pub lacks_spelled : (line rest : List ℕ) (answer : Option Named) → line ≡ field_text (codes "lacks") ++ rest → named_or_none rest answer → SpellsTest line (option_map spelled.Lacks answer)
lacks_spelled line rest None is none = no_lacks line rest is none
lacks_spelled line rest (Some named) is are = ((are.0, are.1), is ∙ ap (λ r. field_text (codes "lacks") ++ r) are.2)

pub error_spelled : (line rest : List ℕ) (answer : Option (Bor (List ℕ))) → line ≡ field_text (codes "error") ++ rest → ReadsText IsName rest answer → SpellsTest line (option_map spelled.Error answer)
error_spelled line rest None is none = no_error line rest is none
error_spelled line rest (Some name) is read =
    let N : List ℕ → Type 0 = IsName in
    (subst N (sym read.1) read.0, is ∙ ap (λ r. field_text (codes "error") ++ r) (sym read.1))
