-- The lines of fixlets and baselines: each is that of one value, and none begins as one of another kind.
use Rattle.std.proofs.Common.{ℕ, ◌≡◌, ◌≢◌, ◌<◌, ◌==◌, List, [], ◌∷◌, ◌++◌, get_or, refl, sym, ap, subst, ◌∙◌, arith, true, false}
use Rattle.std.specs.Prelude.{codes, decimal, Bool}
use Rattle.std.proofs.lemmas.List.{append_cancel_left}
use Rattle.std.proofs.lemmas.Str.{IsUtf8-from_ascii}
use Rattle.std.proofs.lemmas.Str.Ascii.{IsAscii-from_all}
use Rattle.std.proofs.lemmas.List.Elements.{All-nil, All-cons}
use Rattle.line_forms.specs.Names.{IsRest}
use Rattle.line_forms.specs.Contents as held
use Rattle.line_forms.specs.Fields.{field_text}
use Rattle.fix_site.specs.declared.fixlet.Success.{Success}
use Rattle.fix_site.specs.declared.fixlet.Success.TheVariants as success
use Rattle.fix_site.specs.Actions.{end_line}
use Rattle.fix_site.specs.Contents.{IsSuccess, title_line, relevance_line, success_line, component_line}
use Rattle.line_forms.specs.LineStates.{LineState}
use Rattle.line_forms.specs.Readers.{Passes, IsNotAhead, TakesExactly}
use Rattle.line_forms.specs.Numbers.{IsId}
use Rattle.line_forms.proofs.Passing.{cons_head}
use Rattle.line_forms.proofs.PlainLemmas.{id_one}
use Rattle.fix_site.specs.Readings.{Anywhere, FitsScript}
use Rattle.line_forms.proofs.Parts.{IsOneWay, Lines, not_taken, one_way-line, single}
use Rattle.line_forms.proofs.Sequences.{OneWayBehind, no_tail, with_first}

-- a short text
pub a_rest : IsRest (codes "a")
a_rest = (omega arith, (IsUtf8-from_ascii (codes "a") (IsAscii-from_all (codes "a") (All-cons (λ byte. byte < 128) 97 [] (omega arith) (All-nil (λ byte. byte < 128)))), All-cons (λ byte. byte ≢ 10) 97 [] (omega arith) (All-nil (λ byte. byte ≢ 10))))

pub title_one : IsOneWay IsRest (single title_line)
title_one = one_way-line IsRest title_line (λ v w _ _ e. append_cancel_left (field_text (codes "title")) v w e)

pub relevance_one : OneWayBehind (Anywhere IsRest) (with_first relevance_line no_tail)
relevance_one before v w x y is fine e = append_cancel_left (field_text (codes "relevance")) v w (cons_head (relevance_line v) (relevance_line w) x y e)

-- two lines that differ at a place
differ : true ≡ false → ⊥
differ h = cc

pub apart : (i b : ℕ) (x y : List ℕ) → (get_or x i 0 == b) ≡ true → (get_or y i 0 == b) ≡ false → x ≡ y → ⊥
apart i b x y h k e = differ (sym h ∙ ap (λ (l : List ℕ). get_or l i 0 == b) e ∙ k)

success_same : (v w : Success) → success_line v ≡ success_line w → v ≡ w
success_same success.Lines success.Lines e = refl
success_same success.Lines success.Relevance e = absurd (apart 8 108 (success_line success.Lines) (success_line success.Relevance) refl refl e)
success_same success.Lines (success.Clause q) e = absurd (apart 8 108 (success_line success.Lines) (success_line (success.Clause q)) refl refl e)
success_same success.Relevance success.Lines e = absurd (apart 8 114 (success_line success.Relevance) (success_line success.Lines) refl refl e)
success_same success.Relevance success.Relevance e = refl
success_same success.Relevance (success.Clause q) e = absurd (apart 8 114 (success_line success.Relevance) (success_line (success.Clause q)) refl refl e)
success_same (success.Clause p) success.Lines e = absurd (apart 8 99 (success_line (success.Clause p)) (success_line success.Lines) refl refl e)
success_same (success.Clause p) success.Relevance e = absurd (apart 8 99 (success_line (success.Clause p)) (success_line success.Relevance) refl refl e)
success_same (success.Clause p) (success.Clause q) e = ap (λ (x : List ℕ). let s : Success = success.Clause x in s) (append_cancel_left (field_text (codes "success clause")) p q e)

pub success_one : IsOneWay IsSuccess (single success_line)
success_one = one_way-line IsSuccess success_line (λ v w _ _ e. success_same v w e)

pub success_not_relevance : (s : Success) (q : List ℕ) → success_line s ≡ relevance_line q → ⊥
success_not_relevance success.Lines q e = apart 0 115 (success_line success.Lines) (relevance_line q) refl refl e
success_not_relevance success.Relevance q e = apart 0 115 (success_line success.Relevance) (relevance_line q) refl refl e
success_not_relevance (success.Clause p) q e = apart 0 115 (success_line (success.Clause p)) (relevance_line q) refl refl e

content_same : (v w : List ℕ) → held.content_line v ≡ held.content_line w → v ≡ w
content_same [] [] e = refl
content_same [] (y ∷ w) e = absurd (apart 1 0 (held.content_line []) (held.content_line (y ∷ w)) refl refl e)
content_same (x ∷ v) [] e = absurd (apart 1 32 (held.content_line (x ∷ v)) (held.content_line []) refl refl e)
content_same (x ∷ v) (y ∷ w) e = append_cancel_left (codes "| ") (x ∷ v) (y ∷ w) e

pub script_one : OneWayBehind FitsScript (with_first held.content_line no_tail)
script_one before v w x y is fine e = content_same v w (cons_head (held.content_line v) (held.content_line w) x y e)

pub end_not_content : (v : List ℕ) → end_line ≡ held.content_line v → ⊥
end_not_content [] e = apart 0 101 end_line (held.content_line []) refl refl e
end_not_content (x ∷ v) e = apart 0 101 end_line (held.content_line (x ∷ v)) refl refl e

pub component_same : (v w : ℕ) → IsId v → IsId w → component_line v ≡ component_line w → v ≡ w
component_same v w is fine e = id_one v w is fine (append_cancel_left (field_text (codes "component")) (decimal v) (decimal w) e)

pub end_not_component : (v : ℕ) → end_line ≡ component_line v → ⊥
end_not_component v e = apart 0 101 end_line (component_line v) refl refl e

pub component_not_relevance : (v : ℕ) (q : List ℕ) → component_line v ≡ relevance_line q → ⊥
component_not_relevance v q e = apart 0 99 (component_line v) (relevance_line q) refl refl e

-- the lines of a success, one after another
pub clause_taken : (old a b new : LineState) (x y : Bool) (question : List ℕ) → TakesExactly (codes "success lines") old a x → x ≡ false → TakesExactly (codes "success relevance") a b y → y ≡ false →
    Passes b new ((field_text (codes "success clause") ++ question) ∷ []) → Passes old new (success_line (success.Clause question) ∷ [])
clause_taken old a b new x y question h k m n passes =
    let P : LineState → Type 0 = λ s. Passes s new ((field_text (codes "success clause") ++ question) ∷ []) in
    subst P ((not_taken (codes "success relevance") a b y m n).0 ∙ (not_taken (codes "success lines") old a x h k).0) passes

pub no_success : (old a b new : LineState) (x y : Bool) → TakesExactly (codes "success lines") old a x → x ≡ false → TakesExactly (codes "success relevance") a b y → y ≡ false →
    (new ≡ b) × IsNotAhead IsRest (λ question. field_text (codes "success clause") ++ question) b → (new ≡ old) × IsNotAhead IsSuccess success_line old
no_success old a b new x y h k m n none =
    let one = not_taken (codes "success lines") old a x h k in
    let two = not_taken (codes "success relevance") a b y m n in
    (none.0 ∙ two.0 ∙ one.0, only one two)
  where
    only : (a ≡ old) × ((more : Lines) → old.lines ≡ codes "success lines" ∷ more → ⊥) → (b ≡ a) × ((more : Lines) → a.lines ≡ codes "success relevance" ∷ more → ⊥) → IsNotAhead IsSuccess success_line old
    only one two success.Lines more is e = one.1 more e
    only one two success.Relevance more is e = two.1 more (ap (λ (s : LineState). s.lines) one.0 ∙ e)
    only one two (success.Clause question) more is e = none.1 question more is (ap (λ (s : LineState). s.lines) (two.0 ∙ one.0) ∙ e)
