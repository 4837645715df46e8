-- A script has no more prefetch lines than lines. Other crates may cite these lemmas.
use Rattle.std.proofs.Common.{ℕ, suc, ◌≡◌, ◌+◌, ◌≤◌, List, [], ◌∷◌, length, Ok, refl, ap, arith, length-append}
use Rattle.script_text.specs.declared.command.Command.TheVariants as command
use Rattle.script_text.specs.Blocks.{Mark, Marked, block_marks, is_command, is_content, is_closing}
use Rattle.script_text.specs.Scripts.{AreLines, IsVerdict, PlainScript, fetches, fetches_of}

lines_count : (n : ℕ) (ms : List Marked) (lines : List (List ℕ)) → AreLines n ms lines → length ms ≡ length lines
lines_count n [] [] are = refl
lines_count n [] (line ∷ lines) are = absurd are
lines_count n (m ∷ ms) [] are = absurd are
lines_count n (m ∷ ms) (line ∷ lines) are = ap suc (lines_count (n + 1) ms lines are.2)

one_fetch : (n : ℕ) (m : Mark) → length (fetches_of n m) ≤ 1
one_fetch n (is_command command.Nothing) = omega arith
one_fetch n (is_command (command.Do line)) = omega arith
one_fetch n (is_command (command.If test)) = omega arith
one_fetch n (is_command (command.ElseIf test)) = omega arith
one_fetch n (is_command command.Else) = omega arith
one_fetch n (is_command command.EndIf) = omega arith
one_fetch n (is_command (command.Create word)) = omega arith
one_fetch n (is_command (command.Prefetch source)) = omega arith
one_fetch n (is_content word template) = omega arith
one_fetch n (is_closing word) = omega arith

few_fetches : (ms : List Marked) → length (fetches ms) ≤ length ms
few_fetches [] = omega arith
few_fetches (m ∷ ms) =
    let one = one_fetch m.number m.mark in
    let more = few_fetches ms in
    let both : length (fetches (m ∷ ms)) ≡ length (fetches_of m.number m.mark) + length (fetches ms) = length-append (fetches_of m.number m.mark) (fetches ms) in
    omega (arith, one, more, both)

pub few_prefetches : (lines : List (List ℕ)) (script : PlainScript) → IsVerdict lines (Ok script) → length script.prefetches ≤ length lines
few_prefetches lines script (b, is, e) =
    let count : length (block_marks b) ≡ length lines = lines_count 1 (block_marks b) lines is.spelled in
    let few = few_fetches (block_marks b) in
    let same : length script.prefetches ≡ length (fetches (block_marks b)) = ap (λ (x : PlainScript). length x.prefetches) e in
    omega (arith, count, few, same)
