-- The line of a script's error is one of the script's.
use Rattle.std.proofs.Common.{◌≡◌, ℕ, suc, ◌+◌, ◌-◌, ◌≤◌, List, [], ◌∷◌, ◌++◌, length, Option, Some, None, Err, inl, inr, subst, ap, arith, length-append}
use Rattle.std.specs.Prelude.{unwrap_or, ⊤}
use Rattle.script_text.specs.declared.command.Command.{Command}
use Rattle.script_text.specs.declared.command.Command.TheVariants as command
use Rattle.script_text.specs.declared.error.ScriptError.{ScriptError}
use Rattle.script_text.specs.Refusals.{IsLineNumber, TellsLineOf, error_line}
use Rattle.script_text.specs.Forms.{Outcome, reads, no_command, brace_not_closed}
use Rattle.script_text.specs.Blocks.{Tests, first_test, next_test, Created, begun, filled, Marked, at, block_marks, tests_marks, created_marks, created_at, opened_at, is_command, is_content, closing_word}
use Rattle.script_text.specs.Parts.{Around, top, in_arm, in_else, Inner, within, creating, around_marks, inner_marks, part_marks, else_marks, outermost, open_inner, open_first}
use Rattle.script_text.specs.Scripts.{AreLines, IsVerdict, IsRefused, IsOpen, IsMisplaced, IsWrongOutcome, IsWrongInner}

-- each mark has the number of one of so many lines
abbrev Within : ℕ → List Marked → Type 0
Within most [] = ⊤
Within most (m ∷ ms) = IsLineNumber most m.number × Within most ms

lines_within : (most number : ℕ) (ms : List Marked) (lines : List (List ℕ)) → AreLines number ms lines → 1 ≤ number → number + length lines ≤ most + 1 → Within most ms
lines_within most number [] [] h some le = tt
lines_within most number [] (line ∷ lines) h some le = absurd h
lines_within most number (m ∷ ms) [] h some le = absurd h
lines_within most number (m ∷ ms) (line ∷ lines) h some le =
    let e = h.0 in
    ((omega arith, omega arith), lines_within most (number + 1) ms lines h.2 (omega arith) (omega arith))

before : (most : ℕ) (ms ns : List Marked) → Within most (ms ++ ns) → Within most ms
before most [] ns h = tt
before most (m ∷ ms) ns h = (h.0, before most ms ns h.1)

behind : (most : ℕ) (ms ns : List Marked) → Within most (ms ++ ns) → Within most ns
behind most [] ns h = h
behind most (m ∷ ms) ns h = behind most ms ns h.1

-- the first line of an `if`
opened_within : (most : ℕ) (ts : Tests) → Within most (tests_marks ts) → IsLineNumber most (opened_at ts)
opened_within most (first_test b n t) h = (behind most (block_marks b) (at n (is_command (command.If t)) ∷ []) h).0
opened_within most (next_test ts b n t) h =
    opened_within most ts (before most (tests_marks ts) (block_marks b) (before most (tests_marks ts ++ block_marks b) (at n (is_command (command.ElseIf t)) ∷ []) h))

-- that of a `createfile`
created_within : (most : ℕ) (c : Created) → Within most (created_marks c) → IsLineNumber most (created_at c)
created_within most (begun b n w) h = (behind most (block_marks b) (at n (is_command (command.Create w)) ∷ []) h).0
created_within most (filled c n t) h = created_within most c (before most (created_marks c) (at n (is_content (closing_word c) t) ∷ []) h)

abbrev Least : ℕ → Option ℕ → Type 0
Least most None = ⊤
Least most (Some n) = IsLineNumber most n

one_within : (most other : ℕ) (o : Option ℕ) → Least most o → IsLineNumber most other → IsLineNumber most (unwrap_or o other)
one_within most other None h le = le
one_within most other (Some n) h le = h

outermost_within : (most : ℕ) (a : Around) → Within most (around_marks a) → Least most (outermost a)
outermost_within most top h = tt
outermost_within most (in_arm a ts) h =
    one_within most (opened_at ts) (outermost a) (outermost_within most a (before most (around_marks a) (tests_marks ts) h))
    (opened_within most ts (behind most (around_marks a) (tests_marks ts) h))
outermost_within most (in_else a ts b n) h =
    one_within most (opened_at ts) (outermost a) (outermost_within most a (before most (around_marks a) (else_marks ts b n) h))
    (opened_within most ts (before most (tests_marks ts) (block_marks b ++ at n (is_command command.Else) ∷ []) (behind most (around_marks a) (else_marks ts b n) h)))

abbrev ErrorWithin : ℕ → Option ScriptError → Type 0
ErrorWithin most None = ⊤
ErrorWithin most (Some e) = IsLineNumber most (error_line e)

inner_within : (most : ℕ) (i : Inner) → Within most (inner_marks i) → ErrorWithin most (open_inner i)
inner_within most (within b) h = tt
inner_within most (creating c) h = created_within most c h

first_within : (most : ℕ) (o : Option ℕ) (i : Inner) → Least most o → Within most (inner_marks i) → ErrorWithin most (open_first o i)
first_within most None i l h = inner_within most i h
first_within most (Some n) i l h = l

open_within : (lines : List (List ℕ)) (e : ScriptError) → IsOpen lines e → TellsLineOf lines e
open_within lines e h =
    let marks : Within (length lines) (part_marks h.part) = lines_within (length lines) 1 (part_marks h.part) lines h.read.spelled (omega arith) (omega arith) in
    let around = before (length lines) (around_marks h.part.around) (inner_marks h.part.inner) marks in
    let inner = behind (length lines) (around_marks h.part.around) (inner_marks h.part.inner) marks in
    subst (ErrorWithin (length lines)) h.first (first_within (length lines) (outermost h.part.around) h.part.inner (outermost_within (length lines) h.part.around around) inner)

-- a line that is refused is told by its number
abbrev Tells : ℕ → ScriptError → Type 0
Tells n e = error_line e ≡ n

misplaced : (around : Around) (n : ℕ) (c : Command) (e : ScriptError) → IsMisplaced around n c e → Tells n e
misplaced around n (command.If t) e h = ap error_line h.1
misplaced around n (command.ElseIf t) e h = ap error_line h.1
misplaced around n command.Else e h = ap error_line h.1
misplaced around n command.EndIf e h = ap error_line h.1
misplaced around n _ e h = absurd h

wrong_outcome : (around : Around) (n : ℕ) (o : Outcome) (e : ScriptError) → IsWrongOutcome around n o e → Tells n e
wrong_outcome around n no_command e h = ap error_line h
wrong_outcome around n brace_not_closed e h = ap error_line h
wrong_outcome around n (reads c) e h = misplaced around n c e h

wrong_inner : (around : Around) (i : Inner) (n : ℕ) (line : List ℕ) (e : ScriptError) → IsWrongInner around i n line e → Tells n e
wrong_inner around (creating c) n line e h = ap error_line h.2
wrong_inner around (within b) n line e h = wrong_outcome around n h.0 e h.2

refused_within : (lines : List (List ℕ)) (e : ScriptError) → IsRefused lines e → TellsLineOf lines e
refused_within lines e h =
    let told = wrong_inner h.part.around h.part.inner (length h.before + 1) h.line e h.wrong in
    let count = ap (length {A = List ℕ}) h.splits in
    let both : length (h.before ++ h.line ∷ h.behind) ≡ length h.before + suc (length h.behind) = length-append h.before (h.line ∷ h.behind) in
    (omega arith, omega arith)

pub verdict_within : (lines : List (List ℕ)) (e : ScriptError) → IsVerdict lines (Err e) → TellsLineOf lines e
verdict_within lines e h = elim h [ inl r ↦ refused_within lines e r | inr o ↦ open_within lines e o ]
