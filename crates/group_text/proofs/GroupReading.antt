-- Reading a group: its first bad line, or the group.
use Rattle.std.proofs.Common.{ℕ, ◌≡◌, ◌<◌, ◌≤◌, Bool, true, false, List, [], ◌∷◌, length, Ok, sym, subst, ◌∙◌, arith}
use Rattle.line_forms.specs.BadLines.{AnswersBadLine}
use Rattle.line_forms.specs.LineStates.{LineState, before_lines}
use Rattle.line_forms.specs.LineStates as states
use Rattle.line_forms.specs.Names.{IsName}
use Rattle.line_forms.specs.Readers.{IsAny, IsNotAhead, IsOver, IsStuck, Passes, TakesAll, TakesExactly}
use Rattle.line_forms.proofs.Passing.{all_lines, cons_head, left_answers, stands_behind, stuck_answers}
use Rattle.group_text.specs.declared.test.Test.{Test}
use Rattle.group_text.specs.Groups.{AreGroupLines, CanFollow, IsGroup, ReadsGroup, group_line, match_line}
use Rattle.group_text.specs.Tests.{IsTest, test_line}
use Rattle.group_text.proofs.AnalysisParts.{end_line}
use Rattle.group_text.proofs.GroupParts.{all_taken, group_of, lines_of, never_goes_on, no_end, no_match, no_name, no_tests, one_of_lines, whole_group}

-- ---- one test
pub too_many : (before : List Test) (state : LineState) → 100 ≤ length before → IsNotAhead (CanFollow before) test_line state
too_many before state many test more can e = omega (arith, can.few, many)

pub no_line : (before : List Test) (state : LineState) → state.lines ≡ [] → IsNotAhead (CanFollow before) test_line state
no_line before state none test more can e = let k : [] ≡ test_line test ∷ more = sym none ∙ e in cc

pub other_line : (before : List Test) (state : LineState) (line : List ℕ) (more : List (List ℕ)) → state.lines ≡ line ∷ more → ((test : Test) → IsTest test → line ≡ test_line test → ⊥) → IsNotAhead (CanFollow before) test_line state
other_line before state line more ahead none test rest can e = none test can.good (cons_head line (test_line test) more rest (sym ahead ∙ e))

-- ---- the whole text
at_start : (text : List ℕ) (start new : LineState) → start ≡ before_lines text → IsStuck AreGroupLines start new → AnswersBadLine AreGroupLines text new.number
at_start text start new is stuck = let P : LineState → Type 0 = λ s. IsStuck AreGroupLines s new in stuck_answers AreGroupLines text new (subst P is stuck)

pub bad_name : (text : List ℕ) (start new : LineState) → start ≡ before_lines text → (new ≡ start) × IsNotAhead IsName group_line start → AnswersBadLine AreGroupLines text new.number
bad_name text start new is none = at_start text start new is (no_name start new none)

pub bad_match : (text name : List ℕ) (start mid new : LineState) → start ≡ before_lines text → IsName name → Passes start mid (group_line name ∷ []) → (new ≡ mid) × IsNotAhead IsAny match_line mid → AnswersBadLine AreGroupLines text new.number
bad_match text name start mid new is good first none = at_start text start new is (no_match name start mid new good first none)

-- what was taken before the tests
pub record Front (text name : List ℕ) (any : Bool) (start mid last : LineState) : Type 0 where
  pub begins : start ≡ before_lines text
  pub good : IsName name
  pub first : Passes start mid (group_line name ∷ [])
  pub second : Passes mid last (match_line any ∷ [])

pub bad_test : (text name : List ℕ) (any : Bool) (tests : List Test) (start mid last new : LineState) → Front text name any start mid last → TakesAll CanFollow test_line last new tests → tests ≡ [] → AnswersBadLine AreGroupLines text new.number
bad_test text name any tests start mid last new front taken none = at_start text start new front.begins (no_tests name any tests start mid last new front.good front.first front.second taken none)

pub bad_end : (text name : List ℕ) (any : Bool) (tests : List Test) (start mid last behind new : LineState) → Front text name any start mid last → TakesAll CanFollow test_line last behind tests → 0 < length tests
    → TakesExactly end_line behind new false → AnswersBadLine AreGroupLines text new.number
bad_end text name any tests start mid last behind new front taken some none = at_start text start new front.begins (no_end name any tests start mid last behind new front.good front.first front.second taken some none)

whole_passes : (text name : List ℕ) (any : Bool) (tests : List Test) (start mid last behind new : LineState) → Front text name any start mid last → TakesAll CanFollow test_line last behind tests → TakesExactly end_line behind new true
    → Passes (before_lines text) new (lines_of name any tests)
whole_passes text name any tests start mid last behind new front taken end =
    let P : LineState → Type 0 = λ s. Passes s new (lines_of name any tests) in
    subst P front.begins (all_taken name any tests start mid last behind new front.first front.second taken end)

pub bad_more : (text name : List ℕ) (any : Bool) (tests : List Test) (start mid last behind new : LineState) → Front text name any start mid last → TakesAll CanFollow test_line last behind tests → 0 < length tests
    → TakesExactly end_line behind new true → (IsOver new → ⊥) → AnswersBadLine AreGroupLines text new.number
bad_more text name any tests start mid last behind new front taken some end left =
    let whole = whole_group name any tests front.good taken.0 some in
    left_answers AreGroupLines text (lines_of name any tests) new (whole_passes text name any tests start mid last behind new front taken end) (group_of name any tests, whole)
    (never_goes_on (lines_of name any tests) (group_of name any tests) whole) left

pub reads_whole : (text name : List ℕ) (any : Bool) (tests : List Test) (start mid last behind new : LineState) → Front text name any start mid last → TakesAll CanFollow test_line last behind tests → 0 < length tests
    → TakesExactly end_line behind new true → IsOver new → ReadsGroup text (Ok (group_of name any tests))
reads_whole text name any tests start mid last behind new front taken some end over =
    let stands = stands_behind text (lines_of name any tests) new (whole_passes text name any tests start mid last behind new front taken end) in
    let all = all_lines text (lines_of name any tests) new stands over.0 in
    let G : List (List ℕ) → Type 0 = IsGroup (group_of name any tests) in
    let good : IsGroup (group_of name any tests) (states.lines_of text) = subst G (sym all) (whole_group name any tests front.good taken.0 some) in
    (stands.unended ∙ over.1, good, λ other fine. one_of_lines (states.lines_of text) (group_of name any tests) other good fine)
