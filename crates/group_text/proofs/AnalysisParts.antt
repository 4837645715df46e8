-- The lines of an analysis, part by part. Other crates may cite these lemmas.
use Rattle.std.proofs.Common.{ℕ, zero, bytes_eq, Bool, ◌≡◌, ◌≢◌, ◌<◌, List, [], ◌∷◌, ◌++◌, length, map, append_assoc, pos, refl, sym, ap, subst, ◌∙◌, arith, append-nil, get_or, false, true}
use Rattle.std.specs.Prelude.{codes, flat_map, Contains}
use Rattle.std.specs.List.{AllByRecursion, IsDistinct}
use Rattle.std.proofs.lemmas.List.{append_cancel_left}
use Rattle.std.proofs.lemmas.List.Elements.{All-nil, All-cons, Contains-append_right}
use Rattle.std.proofs.lemmas.Slice.Eq.{bytes_eq-Decides}
use Rattle.std.proofs.lemmas.Str.{IsUtf8-from_ascii}
use Rattle.std.proofs.lemmas.Str.Ascii.{IsAscii-from_all}
use Rattle.line_forms.specs.Fields.{field_text}
use Rattle.line_forms.specs.LineStates.{LineState}
use Rattle.line_forms.specs.Names.{IsName, IsRest, is_name_byte}
use Rattle.line_forms.specs.Readers.{AreLinesOf, EachCan, IsStuck, NeverGoesOn, Passes, TakesAll, TakesExactly}
use Rattle.line_forms.proofs.Lasts.{each_all}
use Rattle.line_forms.proofs.Parts.{HasSome, IsOneWay, Lines, Only, Then, single, stuck_behind, stuck_first, stuck_only, stuck_same}
use Rattle.line_forms.proofs.Passing.{cons_head, cons_tail, passes_then}
use Rattle.line_forms.proofs.Sequences.{EndsForeign, Many, OneWayBehind, each_more, each_none, flat_single, known, many_known, no_tail, stops_empty, stuck_taken, with_first}
use Rattle.group_text.specs.declared.property.Property.{Property}
use Rattle.group_text.specs.declared.analysis.Analysis.{Analysis}
use Rattle.group_text.specs.Analyses.{AreAnalysisLines, CanFollow, HasName, IsAnalysis}
use Rattle.group_text.specs.Properties.{AreProperties, IsQuestion, names_of, property_line, property_rest}
use Rattle.group_text.proofs.FieldLemmas.{property_one}
use Rattle.group_text.proofs.SomeQuestion.{one_text, one_is_question}

abbrev pub analysis_line : List ℕ
analysis_line = codes "analysis"

abbrev pub end_line : List ℕ
end_line = codes "end"

abbrev pub analysis_of : List Property → Analysis
analysis_of properties = record { properties = properties }

-- what follows the first line: properties, one or more, and the last line
abbrev Behind : List Property → Lines → Type 0
Behind properties lines = (0 < length properties) × (lines ≡ end_line ∷ [])

abbrev Rest : Lines → Type 0
Rest = Many CanFollow property_line no_tail Behind

-- all lines; the first one is no value's
abbrev AnyUnit : Unit {0} → Type 0
AnyUnit u = Unit {0}

abbrev Whole : Lines → Type 0
Whole = Then AnyUnit (single (λ u. analysis_line)) (λ u. Rest)

-- ---- there is an analysis
letter_name : IsName (codes "a")
letter_name = (omega arith, omega arith, All-cons (λ byte. is_name_byte byte ≡ true) 97 [] refl (All-nil (λ byte. is_name_byte byte ≡ true)))

one_rest : IsRest one_text
one_rest = (
  omega arith,
  (
    IsUtf8-from_ascii one_text (IsAscii-from_all one_text (All-cons (λ byte. byte < 128) 49 [] (omega arith) (All-nil (λ byte. byte < 128)))),
    All-cons (λ byte. byte ≢ 10) 49 [] (omega arith) (All-nil (λ byte. byte ≢ 10)),
  ),
)

abbrev some_property : Property
some_property = record { name = codes "a"; period = pos 0; question = one_text }

some_follows : CanFollow [] some_property
some_follows = record {
  good = record { name = letter_name; period = (omega arith, omega arith); rest = one_rest; question = one_is_question };
  other = λ has. absurd (omega (arith, has.1));
  few = omega arith;
}

some_rest : HasSome Rest
some_rest =
    (property_line some_property ∷ end_line ∷ [], (some_property ∷ [], end_line ∷ [], each_more CanFollow [] some_property (each_none CanFollow) some_follows, (omega arith, refl), refl))

-- ---- the lines are known one by one
property_known : OneWayBehind CanFollow (with_first property_line no_tail)
property_known before v w x y is fine e =
    property_one v w is.good fine.good
    (append_cancel_left (field_text (codes "property")) (property_rest v) (property_rest w) (cons_head (property_line v) (property_line w) x y e))

pub end_not_property : (p : Property) → end_line ≡ property_line p → ⊥
end_not_property p e = let k : get_or {A = ℕ} (101 ∷ []) 0 0 ≡ 112 = ap (λ (l : List ℕ). get_or l 0 0) e in omega arith

end_foreign : EndsForeign CanFollow property_line Behind
end_foreign properties rest is before v more can e = end_not_property v (cons_head end_line (property_line v) [] more (sym is.1 ∙ e))

first_known : IsOneWay AnyUnit (single (λ u. analysis_line))
first_known v w x y is fine e = refl

-- ---- the same lines in other words
there : (lines : Lines) → Whole lines → AreAnalysisLines lines
there lines (u, rest, is, (properties, last, each, (some, end), e2), e) = (
  analysis_of properties,
  record {
    each = each;
    some = some;
    lines_are = e ∙ ap (λ l. analysis_line ∷ l) (e2 ∙ ap (λ l. l ++ last) (flat_single property_line properties) ∙ ap (λ l. map property_line properties ++ l) end);
  },
)

back : (lines : Lines) → AreAnalysisLines lines → Whole lines
back lines (a, is) = (
  tt,
  flat_map (with_first property_line no_tail) a.properties ++ end_line ∷ [],
  tt,
  (a.properties, end_line ∷ [], is.each, (is.some, refl), refl),
  is.lines_are ∙ ap (λ l. analysis_line ∷ (l ++ end_line ∷ [])) (sym (flat_single property_line a.properties)),
)

stuck_whole : (old new : LineState) → IsStuck Whole old new → IsStuck AreAnalysisLines old new
stuck_whole old new stuck = stuck_same Whole AreAnalysisLines old new there back stuck

-- ---- where reading stops
-- the first line isn't ahead
pub no_first : (old new : LineState) → TakesExactly analysis_line old new false → IsStuck AreAnalysisLines old new
no_first old new none =
    stuck_whole old new (stuck_first AnyUnit (single (λ u. analysis_line)) (λ u. Rest) old new first_known (λ v is. some_rest)
    (stuck_same (Only analysis_line) (AreLinesOf AnyUnit (single (λ u. analysis_line))) old new (λ lines e. (tt, tt, e)) (λ lines h. h.2) (stuck_only analysis_line old new none)))

-- no property is ahead
pub no_properties : (old mid new : LineState) (properties : List Property) → TakesExactly analysis_line old mid true → TakesAll CanFollow property_line mid new properties → properties ≡ [] → IsStuck AreAnalysisLines old new
no_properties old mid new properties first taken none =
    let P : List Property → Type 0 = TakesAll CanFollow property_line mid new in
    let empty : TakesAll CanFollow property_line mid new [] = subst P none taken in
    stuck_whole old new (stuck_behind AnyUnit (single (λ u. analysis_line)) (λ u. Rest) tt old mid new first_known tt first
    ([], empty.1, stops_empty CanFollow property_line no_tail Behind new some_rest (λ rest h. omega (arith, h.0)) empty.2))

-- the last line isn't ahead
pub no_end : (old mid last new : LineState) (properties : List Property) → TakesExactly analysis_line old mid true → TakesAll CanFollow property_line mid last properties → 0 < length properties →
    TakesExactly end_line last new false → IsStuck AreAnalysisLines old new
no_end old mid last new properties first taken some none =
    stuck_whole old new (stuck_behind AnyUnit (single (λ u. analysis_line)) (λ u. Rest) tt old mid new first_known tt first
    (stuck_taken (known CanFollow property_line no_tail Behind property_known end_foreign) properties mid last new taken
    (stuck_same (Only end_line) (Behind properties) last new (λ lines h. (some, h)) (λ lines h. h.1) (stuck_only end_line last new none))))

-- ---- all lines were taken
abbrev pub lines_of : List Property → Lines
lines_of properties = analysis_line ∷ map property_line properties ++ end_line ∷ []

pub whole_analysis : (properties : List Property) → EachCan CanFollow properties → 0 < length properties → IsAnalysis (analysis_of properties) (lines_of properties)
whole_analysis properties each some = record { each = each; some = some; lines_are = refl }

pub all_taken : (old mid last new : LineState) (properties : List Property) → TakesExactly analysis_line old mid true → TakesAll CanFollow property_line mid last properties → TakesExactly end_line last new true → Passes old new (lines_of properties)
all_taken old mid last new properties first taken end =
    passes_then old mid new (analysis_line ∷ []) (map property_line properties ++ end_line ∷ []) first (passes_then mid last new (map property_line properties) (end_line ∷ []) taken.1 end)

-- an analysis is known by its lines, whatever follows
pub analysis_known : (a b : Analysis) (lines more : Lines) (x y : Lines) → IsAnalysis a lines → IsAnalysis b more → lines ++ x ≡ more ++ y → (a ≡ b) × (x ≡ y)
analysis_known a b lines more x y is fine e =
    let rest : map property_line a.properties ++ end_line ∷ x ≡ map property_line b.properties ++ end_line ∷ y = behind (map property_line a.properties) (map property_line b.properties)
    (sym (ap (λ l. l ++ x) is.lines_are) ∙ e ∙ ap (λ l. l ++ y) fine.lines_are) in
    let two = many_known CanFollow property_line no_tail a.properties b.properties (end_line ∷ x) (end_line ∷ y) property_known is.each fine.each (foreign x) (foreign y)
    (ap (λ l. l ++ end_line ∷ x) (flat_single property_line a.properties) ∙ rest ∙ ap (λ l. l ++ end_line ∷ y) (sym (flat_single property_line b.properties))) in
    (ap analysis_of two.0, cons_tail end_line end_line x y two.1)
  where
    foreign : (z : Lines) (before : List Property) (v : Property) (more : Lines) → CanFollow before v → end_line ∷ z ≡ property_line v ∷ more → ⊥
    foreign z before v more can h = end_not_property v (cons_head end_line (property_line v) z more h)

    behind : (v w : Lines) → (analysis_line ∷ v ++ end_line ∷ []) ++ x ≡ (analysis_line ∷ w ++ end_line ∷ []) ++ y → v ++ end_line ∷ x ≡ w ++ end_line ∷ y
    behind v w h =
        sym (append_assoc v (end_line ∷ []) x) ∙ cons_tail analysis_line analysis_line ((v ++ end_line ∷ []) ++ x) ((w ++ end_line ∷ []) ++ y) h ∙ append_assoc w (end_line ∷ []) y

pub one_of_lines : (lines : Lines) (a b : Analysis) → IsAnalysis a lines → IsAnalysis b lines → b ≡ a
one_of_lines lines a b is fine = (analysis_known b a lines lines [] [] fine is refl).0

-- nothing goes on behind the last line
pub never_goes_on : (lines : Lines) (a : Analysis) → IsAnalysis a lines → NeverGoesOn AreAnalysisLines lines
never_goes_on lines a is line more (b, fine) =
    let nothing : line ∷ more ≡ [] = (analysis_known a b lines (lines ++ line ∷ more) (line ∷ more) [] is fine (sym (append-nil (lines ++ line ∷ more)))).1 in
    cc

-- ---- properties that can stand one behind another have distinct names and questions
unlike : (x y : Property) (others : List Property) → (HasName others y.name → ⊥) → Contains (names_of others) x.name → (b : Bool) → bytes_eq x.name y.name ≡ b → bytes_eq x.name y.name ≡ false
unlike x y others none has false e = e
unlike x y others none has true e =
    let P : List ℕ → Type 0 = λ n. Contains (names_of others) n in
    absurd (none (subst P ((bytes_eq-Decides x.name y.name).0 e) has))

names_apart : (done : List Property) (x : Property) (us xs : List Property) → EachCan CanFollow ((done ++ x ∷ us) ++ xs) → AllByRecursion (λ name. bytes_eq x.name name ≡ false) (names_of xs)
names_apart done x us [] each = tt
names_apart done x us (y ∷ ys) each =
    let has : Contains (names_of (done ++ x ∷ us)) x.name = among done x us in
    let E : List Property → Type 0 = EachCan CanFollow in
    let more : (done ++ x ∷ us) ++ y ∷ ys ≡ (done ++ x ∷ (us ++ y ∷ [])) ++ ys =
    sym (append_assoc (done ++ x ∷ us) (y ∷ []) ys) ∙ ap (λ l. l ++ ys) (append_assoc done (x ∷ us) (y ∷ [])) in
    (unlike x y (done ++ x ∷ us) (each (done ++ x ∷ us) ys y refl).other has (bytes_eq x.name y.name) refl, names_apart done x (us ++ y ∷ []) ys (subst E more each))
  where
    among : (done : List Property) (x : Property) (us : List Property) → Contains (names_of (done ++ x ∷ us)) x.name
    among [] x us = (zero, omega arith, refl)
    among (d ∷ done) x us = Contains-append_right (d.name ∷ []) (names_of (done ++ x ∷ us)) x.name (among done x us)

distinct_from : (done xs : List Property) → EachCan CanFollow (done ++ xs) → IsDistinct bytes_eq (names_of xs)
unfolding IsDistinct
distinct_from done [] each = tt
distinct_from done (x ∷ xs) each =
    let E : List Property → Type 0 = EachCan CanFollow in
    let more : EachCan CanFollow ((done ++ x ∷ []) ++ xs) = subst E (sym (append_assoc done (x ∷ []) xs)) each in
    (names_apart done x [] xs more, distinct_from (done ++ x ∷ []) xs more)

pub properties_good : (properties : List Property) → EachCan CanFollow properties → AreProperties properties
properties_good properties each = record {
  distinct = distinct_from [] properties each;
  questions = each_all (λ (p : Property). IsQuestion p.question) CanFollow (λ before p can. can.good.question) properties each;
}
