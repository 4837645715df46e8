-- Reading an analysis: its first bad line, or the analysis.
use Rattle.std.proofs.Common.{ℕ, zero, suc, ℤ, ◌≡◌, ◌<◌, ◌≤◌, Bool, true, false, ◌||◌, List, [], ◌∷◌, ◌++◌, length, Ok, Err, Some, refl, sym, ap, subst, ◌∙◌, arith, bytes_eq}
use Rattle.std.specs.List.{list_any}
use Rattle.std.proofs.lemmas.Bool.{true≢false}
use Rattle.std.proofs.lemmas.Slice.Eq.{bytes_eq-Decides}
use Rattle.std.specs.Prelude.{codes}
use Rattle.std.specs.Fmt.{signed_decimal}
use Rattle.line_forms.specs.BadLines.{AnswersBadLine}
use Rattle.line_forms.specs.Fields.{field_text}
use Rattle.line_forms.specs.LineStates.{LineState, before_lines}
use Rattle.line_forms.specs.LineStates as states
use Rattle.line_forms.specs.Names.{IsName, IsRest}
use Rattle.line_forms.specs.Readers.{IsNotAhead, IsOver, IsStuck, Passes, TakesAll, TakesExactly}
use Rattle.line_forms.proofs.Passing.{all_lines, left_answers, not_spelled, stands_behind, stuck_answers}
use Rattle.rel_eval.specs.declared.question.Question.{Question}
use Rattle.rel_eval.specs.declared.refusal.Located.{Located}
use Rattle.rel_eval.specs.declared.refusal.Refusal.{Refusal}
use Rattle.rel_eval.specs.declared.refusal.Refusal.TheVariants.{At, NotDefined, Memory}
use Rattle.rel_eval.specs.Answers.{Prepares}
use Rattle.rel_eval.specs.Questions.{question, undefined, plan_of}
use Rattle.rel_eval.specs.Questions as questions
use Rattle.rel_eval.specs.Refusals.{located}
use Rattle.rel_eval.proofs.OnePlan.{reading_is_one}
use Rattle.group_text.specs.declared.property.Property.{Property}
use Rattle.group_text.specs.Analyses.{AreAnalysisLines, CanFollow, HasName, IsAnalysis, ReadsAnalysis}
use Rattle.group_text.specs.Properties.{IsPeriod, IsProperty, IsQuestion, property_line, property_rest}
use Rattle.group_text.specs.Readings.{AreFields}
use Rattle.group_text.proofs.AnalysisParts.{all_taken, analysis_line, analysis_of, end_line, lines_of, never_goes_on, no_end, no_first, no_properties, one_of_lines, whole_analysis}
use Rattle.group_text.proofs.FieldLemmas.{fields_of, fields_one, property_one}

-- ---- one property
-- there are enough already
pub too_many : (before : List Property) (state : LineState) → 100 ≤ length before → IsNotAhead (CanFollow before) property_line state
too_many before state many p more can e = omega (arith, can.few, many)

-- its word isn't ahead
pub other_word : (before : List Property) (state : LineState) → ((rest : List ℕ) (more : List (List ℕ)) → state.lines ≡ (field_text (codes "property") ++ rest) ∷ more → ⊥) → IsNotAhead (CanFollow before) property_line state
other_word before state none p more can e = none (property_rest p) more e

-- behind the word stands no property
pub other_rest : (before : List Property) (state : LineState) (rest : List ℕ) (more : List (List ℕ)) → state.lines ≡ (field_text (codes "property") ++ rest) ∷ more
    → ((p : Property) → IsProperty p → rest ≡ property_rest p → ⊥) → IsNotAhead (CanFollow before) property_line state
other_rest before state rest more ahead none = not_spelled (CanFollow before) property_rest state (codes "property") rest more ahead (λ p can e. none p can.good e)

-- its name was there before
pub name_again : (before : List Property) (state : LineState) (rest : List ℕ) (more : List (List ℕ)) (read : Property) → state.lines ≡ (field_text (codes "property") ++ rest) ∷ more → IsProperty read → rest ≡ property_rest read
    → HasName before read.name → IsNotAhead (CanFollow before) property_line state
name_again before state rest more read ahead good is has =
    not_spelled (CanFollow before) property_rest state (codes "property") rest more ahead
    (λ p can e. let same : read ≡ p = property_one read p good can.good (sym is ∙ e) in
    let P : Property → Type 0 = λ q. HasName before q.name in
    can.other (subst P same has))

-- whether a property has this name
abbrev pub named : List ℕ → Property → Bool
named name p = bytes_eq p.name name

or_true : (b : Bool) → (b || true) ≡ true
or_true true = refl
or_true false = refl

pub has_named : (ps : List Property) (name : List ℕ) → HasName ps name → list_any (named name) ps ≡ true
has_named [] name (k, lt, e) = absurd (omega (arith, lt))
has_named (p ∷ ps) name (zero, lt, e) = ap (λ b. b || list_any (named name) ps) ((bytes_eq-Decides p.name name).1 e)
has_named (p ∷ ps) name (suc k, lt, e) = ap (λ b. named name p || b) (has_named ps name (k, omega (arith, lt), e)) ∙ or_true (named name p)

pub any_named : (ps : List Property) (name : List ℕ) → list_any (named name) ps ≡ true → HasName ps name
any_named [] name e = absurd (true≢false (sym e))
any_named (p ∷ ps) name e = by (bytes_eq p.name name) (bytes_eq-Decides p.name name).0 (any_named ps name) e
  where
    by : (b : Bool) → (b ≡ true → p.name ≡ name) → (list_any (named name) ps ≡ true → HasName ps name) → (b || list_any (named name) ps) ≡ true → HasName (p ∷ ps) name
    by true same rest e = (0, omega arith, same refl)
    by false same rest e = let behind = rest e in (suc behind.0, omega (arith, behind.1), behind.2)

-- ---- whether a text is a question
pub prepared : (text : List ℕ) (q : Question) → Prepares text (Ok q) → IsQuestion text
prepared text q is = (plan_of q, is)

pub not_prepared : (text : List ℕ) (refusal : Refusal) (l : Located) → Prepares text (Err refusal) → located refusal ≡ Some l → IsQuestion text → ⊥
not_prepared text (At kind place) l refused e (plan, is) = let same = reading_is_one text (question plan) (questions.refused kind place) is refused in cc
not_prepared text (NotDefined place words) l refused e (plan, is) = let same = reading_is_one text (question plan) (undefined place words) is refused in cc
not_prepared text Memory l refused e is = cc

-- ---- the fields of one
pub no_property : (rest : List ℕ) → ((name : List ℕ) (period : ℤ) (asked : List ℕ) → AreFields rest name period asked → ⊥) → (p : Property) → IsProperty p → rest ≡ property_rest p → ⊥
no_property rest none p is e = none p.name p.period p.question (fields_of rest p is e)

pub no_question : (rest name : List ℕ) (period : ℤ) (asked : List ℕ) → AreFields rest name period asked → (IsQuestion asked → ⊥) → (p : Property) → IsProperty p → rest ≡ property_rest p → ⊥
no_question rest name period asked are none p is e =
    let Q : List ℕ → Type 0 = IsQuestion in
    none (subst Q (fields_one rest name period asked p.name p.period p.question are (fields_of rest p is e)).2 is.question)

pub property_whole : (rest name : List ℕ) (period : ℤ) (asked : List ℕ) (p : Property) → AreFields rest name period asked → IsQuestion asked → p.name ≡ name → p.period ≡ period → p.question ≡ asked
    → IsProperty p × (rest ≡ property_rest p)
property_whole rest name period asked p are is a b c =
    let N : List ℕ → Type 0 = IsName in
    let S : ℤ → Type 0 = IsPeriod in
    let R : List ℕ → Type 0 = IsRest in
    let Q : List ℕ → Type 0 = IsQuestion in (
      record { name = subst N (sym a) are.0; period = subst S (sym b) are.1; rest = subst R (sym c) are.2; question = subst Q (sym c) is },
      are.3 ∙ ap (λ n. field_text n ++ field_text (signed_decimal period) ++ asked) (sym a) ∙ ap (λ t. field_text p.name ++ field_text (signed_decimal t) ++ asked) (sym b)
          ∙ ap (λ q. field_text p.name ++ field_text (signed_decimal p.period) ++ q) (sym c),
    )

-- ---- the whole text
-- where reading began is where the text begins
at_start : (text : List ℕ) (start new : LineState) → start ≡ before_lines text → IsStuck AreAnalysisLines start new → AnswersBadLine AreAnalysisLines text new.number
at_start text start new is stuck = let P : LineState → Type 0 = λ s. IsStuck AreAnalysisLines s new in stuck_answers AreAnalysisLines text new (subst P is stuck)

pub bad_first : (text : List ℕ) (start new : LineState) → start ≡ before_lines text → TakesExactly analysis_line start new false → AnswersBadLine AreAnalysisLines text new.number
bad_first text start new is none = at_start text start new is (no_first start new none)

pub bad_property : (text : List ℕ) (start mid new : LineState) (properties : List Property) → start ≡ before_lines text → TakesExactly analysis_line start mid true → TakesAll CanFollow property_line mid new properties → properties ≡ []
    → AnswersBadLine AreAnalysisLines text new.number
bad_property text start mid new properties is first taken none = at_start text start new is (no_properties start mid new properties first taken none)

pub bad_end : (text : List ℕ) (start mid last new : LineState) (properties : List Property) → start ≡ before_lines text → TakesExactly analysis_line start mid true → TakesAll CanFollow property_line mid last properties → 0 < length properties
    → TakesExactly end_line last new false → AnswersBadLine AreAnalysisLines text new.number
bad_end text start mid last new properties is first taken some none = at_start text start new is (no_end start mid last new properties first taken some none)

whole_passes : (text : List ℕ) (start mid last new : LineState) (properties : List Property) → start ≡ before_lines text → TakesExactly analysis_line start mid true → TakesAll CanFollow property_line mid last properties
    → TakesExactly end_line last new true → Passes (before_lines text) new (lines_of properties)
whole_passes text start mid last new properties is first taken end =
    let P : LineState → Type 0 = λ s. Passes s new (lines_of properties) in subst P is (all_taken start mid last new properties first taken end)

pub bad_more : (text : List ℕ) (start mid last new : LineState) (properties : List Property) → start ≡ before_lines text → TakesExactly analysis_line start mid true → TakesAll CanFollow property_line mid last properties → 0 < length properties
    → TakesExactly end_line last new true → (IsOver new → ⊥) → AnswersBadLine AreAnalysisLines text new.number
bad_more text start mid last new properties is first taken some end left =
    let whole = whole_analysis properties taken.0 some in
    left_answers AreAnalysisLines text (lines_of properties) new (whole_passes text start mid last new properties is first taken end) (analysis_of properties, whole) (never_goes_on (lines_of properties) (analysis_of properties) whole) left

pub reads_whole : (text : List ℕ) (start mid last new : LineState) (properties : List Property) → start ≡ before_lines text → TakesExactly analysis_line start mid true → TakesAll CanFollow property_line mid last properties → 0 < length properties
    → TakesExactly end_line last new true → IsOver new → ReadsAnalysis text (Ok (analysis_of properties))
reads_whole text start mid last new properties is first taken some end over =
    let stands = stands_behind text (lines_of properties) new (whole_passes text start mid last new properties is first taken end) in
    let all = all_lines text (lines_of properties) new stands over.0 in
    let A : List (List ℕ) → Type 0 = IsAnalysis (analysis_of properties) in
    let good : IsAnalysis (analysis_of properties) (states.lines_of text) = subst A (sym all) (whole_analysis properties taken.0 some) in
    (stands.unended ∙ over.1, good, λ other fine. one_of_lines (states.lines_of text) (analysis_of properties) other good fine)
