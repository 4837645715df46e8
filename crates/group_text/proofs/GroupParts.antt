-- The lines of a group, part by part. Other crates may cite these lemmas.
use Rattle.std.proofs.Common.{ℕ, ◌≡◌, ◌<◌, Bool, true, false, List, [], ◌∷◌, ◌++◌, length, map, append_assoc, append-nil, get_or, refl, sym, ap, subst, ◌∙◌, arith}
use Rattle.std.specs.Prelude.{codes, flat_map}
use Rattle.std.proofs.lemmas.List.{append_cancel_left}
use Rattle.std.proofs.lemmas.List.Elements.{All-nil, All-cons}
use Rattle.line_forms.specs.Fields.{field_text}
use Rattle.line_forms.specs.LineStates.{LineState}
use Rattle.line_forms.specs.Names.{IsName, is_name_byte}
use Rattle.line_forms.specs.Readers.{EachCan, IsAny, IsNotAhead, IsStuck, NeverGoesOn, Passes, TakesAll, TakesExactly}
use Rattle.line_forms.proofs.Parts.{HasSome, IsOneWay, Lines, Only, Then, one_way-line, single, stuck_behind, stuck_first, stuck_line, stuck_only, stuck_same}
use Rattle.line_forms.proofs.Passing.{cons_head, cons_tail, passes_then}
use Rattle.line_forms.proofs.Sequences.{EndsForeign, Many, OneWayBehind, each_more, each_none, flat_single, known, many_known, no_tail, stops_empty, stuck_taken, with_first}
use Rattle.group_text.specs.declared.test.Test.{Test}
use Rattle.group_text.specs.declared.test.Test.TheVariants.{Error}
use Rattle.group_text.specs.declared.group.Group.{Group}
use Rattle.group_text.specs.Groups.{AreGroupLines, CanFollow, IsGroup, group_line, match_line}
use Rattle.group_text.specs.Tests.{test_line}
use Rattle.group_text.proofs.AnalysisParts.{end_line}
use Rattle.group_text.proofs.TestLines.{end_not_test, test_one}

abbrev pub group_of : List ℕ → Bool → List Test → Group
group_of name any tests = record { name = name; any = any; tests = tests }

-- what follows the line of how many tests are to hold: tests, one or more, and the last line
abbrev Behind : List Test → Lines → Type 0
Behind tests lines = (0 < length tests) × (lines ≡ end_line ∷ [])

abbrev Rest : Lines → Type 0
Rest = Many CanFollow test_line no_tail Behind

abbrev Matched : Lines → Type 0
Matched = Then IsAny (single match_line) (λ any. Rest)

abbrev Whole : Lines → Type 0
Whole = Then IsName (single group_line) (λ name. Matched)

-- ---- there is a group
letter_name : IsName (codes "a")
letter_name = (omega arith, omega arith, All-cons (λ byte. is_name_byte byte ≡ true) 97 [] refl (All-nil (λ byte. is_name_byte byte ≡ true)))

abbrev some_test : Test
some_test = Error (codes "a")

some_rest : HasSome Rest
some_rest =
    (test_line some_test ∷ end_line ∷ [], (some_test ∷ [], end_line ∷ [], each_more CanFollow [] some_test (each_none CanFollow) (record { good = letter_name; few = omega arith }), (omega arith, refl), refl))

some_matched : HasSome Matched
some_matched = (match_line true ∷ some_rest.0, (true, some_rest.0, tt, some_rest.1, refl))

-- ---- the lines are known one by one
test_known : OneWayBehind CanFollow (with_first test_line no_tail)
test_known before v w x y is fine e = test_one v w is.good fine.good (cons_head (test_line v) (test_line w) x y e)

end_foreign : EndsForeign CanFollow test_line Behind
end_foreign tests rest is before v more can e = end_not_test v (cons_head end_line (test_line v) [] more (sym is.1 ∙ e))

name_known : IsOneWay IsName (single group_line)
name_known = one_way-line IsName group_line (λ v w is fine e. append_cancel_left (field_text (codes "group")) v w e)

match_one : (a b : Bool) → match_line a ≡ match_line b → a ≡ b
match_one true true e = refl
match_one false false e = refl
match_one true false e = absurd (let k : get_or {A = ℕ} (110 ∷ []) 0 0 ≡ 108 = ap (λ (l : List ℕ). get_or l 7 0) e in omega arith)
match_one false true e = absurd (let k : get_or {A = ℕ} (108 ∷ []) 0 0 ≡ 110 = ap (λ (l : List ℕ). get_or l 7 0) e in omega arith)

match_known : IsOneWay IsAny (single match_line)
match_known = one_way-line IsAny match_line (λ v w is fine e. match_one v w e)

-- ---- the same lines in other words
there : (lines : Lines) → Whole lines → AreGroupLines lines
there lines (name, rest, is_name, (any, rest2, is_any, (tests, last, each, (some, end), e3), e2), e) = (
  group_of name any tests,
  record {
    name = is_name;
    each = each;
    some = some;
    lines_are = e ∙ ap (λ l. group_line name ∷ l) (e2 ∙ ap (λ l. match_line any ∷ l) (e3 ∙ ap (λ l. l ++ last) (flat_single test_line tests) ∙ ap (λ l. map test_line tests ++ l) end));
  },
)

back : (lines : Lines) → AreGroupLines lines → Whole lines
back lines (g, is) =
    let rest = flat_map (with_first test_line no_tail) g.tests ++ end_line ∷ [] in (
      g.name,
      match_line g.any ∷ rest,
      is.name,
      (g.any, rest, tt, (g.tests, end_line ∷ [], is.each, (is.some, refl), refl), refl),
      is.lines_are ∙ ap (λ l. group_line g.name ∷ match_line g.any ∷ (l ++ end_line ∷ [])) (sym (flat_single test_line g.tests)),
    )

stuck_whole : (old new : LineState) → IsStuck Whole old new → IsStuck AreGroupLines old new
stuck_whole old new stuck = stuck_same Whole AreGroupLines old new there back stuck

-- ---- where reading stops
-- the line of the name isn't ahead
pub no_name : (old new : LineState) → (new ≡ old) × IsNotAhead IsName group_line old → IsStuck AreGroupLines old new
no_name old new none =
    stuck_whole old new (stuck_first IsName (single group_line) (λ name. Matched) old new name_known (λ v is. some_matched) (stuck_line IsName group_line (codes "a") old new letter_name none))

-- that of how many tests are to hold isn't
pub no_match : (name : List ℕ) (old mid new : LineState) → IsName name → Passes old mid (group_line name ∷ []) → (new ≡ mid) × IsNotAhead IsAny match_line mid → IsStuck AreGroupLines old new
no_match name old mid new is taken none =
    stuck_whole old new (stuck_behind IsName (single group_line) (λ name. Matched) name old mid new name_known is taken
    (stuck_first IsAny (single match_line) (λ any. Rest) mid new match_known (λ v is. some_rest) (stuck_line IsAny match_line true mid new tt none)))

-- no test is
pub no_tests : (name : List ℕ) (any : Bool) (tests : List Test) (old mid last new : LineState) → IsName name → Passes old mid (group_line name ∷ []) → Passes mid last (match_line any ∷ []) →
    TakesAll CanFollow test_line last new tests → tests ≡ [] → IsStuck AreGroupLines old new
no_tests name any tests old mid last new is first second taken none =
    let P : List Test → Type 0 = TakesAll CanFollow test_line last new in
    let empty : TakesAll CanFollow test_line last new [] = subst P none taken in
    stuck_whole old new (stuck_behind IsName (single group_line) (λ name. Matched) name old mid new name_known is first
    (stuck_behind IsAny (single match_line) (λ any. Rest) any mid last new match_known tt second
    ([], empty.1, stops_empty CanFollow test_line no_tail Behind new some_rest (λ rest h. omega (arith, h.0)) empty.2)))

-- the last line isn't
pub no_end : (name : List ℕ) (any : Bool) (tests : List Test) (old mid last behind new : LineState) → IsName name → Passes old mid (group_line name ∷ []) → Passes mid last (match_line any ∷ []) →
    TakesAll CanFollow test_line last behind tests → 0 < length tests → TakesExactly end_line behind new false → IsStuck AreGroupLines old new
no_end name any tests old mid last behind new is first second taken some none =
    stuck_whole old new (stuck_behind IsName (single group_line) (λ name. Matched) name old mid new name_known is first
    (stuck_behind IsAny (single match_line) (λ any. Rest) any mid last new match_known tt second
    (stuck_taken (known CanFollow test_line no_tail Behind test_known end_foreign) tests last behind new taken
    (stuck_same (Only end_line) (Behind tests) behind new (λ lines h. (some, h)) (λ lines h. h.1) (stuck_only end_line behind new none)))))

-- ---- all lines were taken
abbrev pub lines_of : List ℕ → Bool → List Test → Lines
lines_of name any tests = group_line name ∷ match_line any ∷ map test_line tests ++ end_line ∷ []

pub whole_group : (name : List ℕ) (any : Bool) (tests : List Test) → IsName name → EachCan CanFollow tests → 0 < length tests → IsGroup (group_of name any tests) (lines_of name any tests)
whole_group name any tests is each some = record { name = is; each = each; some = some; lines_are = refl }

pub all_taken : (name : List ℕ) (any : Bool) (tests : List Test) (old mid last behind new : LineState) → Passes old mid (group_line name ∷ []) → Passes mid last (match_line any ∷ []) →
    TakesAll CanFollow test_line last behind tests → TakesExactly end_line behind new true → Passes old new (lines_of name any tests)
all_taken name any tests old mid last behind new first second taken end =
    passes_then old mid new (group_line name ∷ []) (match_line any ∷ map test_line tests ++ end_line ∷ []) first
    (passes_then mid last new (match_line any ∷ []) (map test_line tests ++ end_line ∷ []) second (passes_then last behind new (map test_line tests) (end_line ∷ []) taken.1 end))

-- a group is known by its lines, whatever follows
pub group_known : (a b : Group) (lines more : Lines) (x y : Lines) → IsGroup a lines → IsGroup b more → lines ++ x ≡ more ++ y → (a ≡ b) × (x ≡ y)
group_known a b lines more x y is fine e =
    let tests_a : Lines = map test_line a.tests in
    let tests_b : Lines = map test_line b.tests in
    let whole : group_line a.name ∷ (match_line a.any ∷ (tests_a ++ end_line ∷ []) ++ x) ≡ group_line b.name ∷ (match_line b.any ∷ (tests_b ++ end_line ∷ []) ++ y) =
    sym (ap (λ l. l ++ x) is.lines_are) ∙ e ∙ ap (λ l. l ++ y) fine.lines_are in
    let one = append_cancel_left (field_text (codes "group")) a.name b.name (cons_head (group_line a.name) (group_line b.name) _ _ whole) in
    let rest = cons_tail (group_line a.name) (group_line b.name) _ _ whole in
    let two = match_one a.any b.any (cons_head (match_line a.any) (match_line b.any) _ _ rest) in
    let tail : (tests_a ++ end_line ∷ []) ++ x ≡ (tests_b ++ end_line ∷ []) ++ y = cons_tail (match_line a.any) (match_line b.any) _ _ rest in
    let three = many_known CanFollow test_line no_tail a.tests b.tests (end_line ∷ x) (end_line ∷ y) test_known is.each fine.each (foreign x) (foreign y)
    (ap (λ l. l ++ end_line ∷ x) (flat_single test_line a.tests) ∙ sym (append_assoc tests_a (end_line ∷ []) x) ∙ tail ∙ append_assoc tests_b (end_line ∷ []) y
    ∙ ap (λ l. l ++ end_line ∷ y) (sym (flat_single test_line b.tests))) in (
      ap (λ n. group_of n a.any a.tests) one ∙ ap (λ m. group_of b.name m a.tests) two ∙ ap (λ t. group_of b.name b.any t) three.0,
      cons_tail end_line end_line x y three.1,
    )
  where
    foreign : (z : Lines) (before : List Test) (v : Test) (more : Lines) → CanFollow before v → end_line ∷ z ≡ test_line v ∷ more → ⊥
    foreign z before v more can h = end_not_test v (cons_head end_line (test_line v) z more h)

pub one_of_lines : (lines : Lines) (a b : Group) → IsGroup a lines → IsGroup b lines → b ≡ a
one_of_lines lines a b is fine = (group_known b a lines lines [] [] fine is refl).0

-- nothing goes on behind the last line
pub never_goes_on : (lines : Lines) (g : Group) → IsGroup g lines → NeverGoesOn AreGroupLines lines
never_goes_on lines g is line more (other, fine) =
    let nothing : line ∷ more ≡ [] = (group_known g other lines (lines ++ line ∷ more) (line ∷ more) [] is fine (sym (append-nil (lines ++ line ∷ more)))).1 in
    cc
