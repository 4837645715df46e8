-- A text has no more lines than bytes.
use Rattle.std.proofs.Common.{ℕ, ◌≡◌, ◌+◌, ◌≤◌, List, [], ◌∷◌, length, ap, arith, length-append}
use Rattle.line_forms.specs.Lines.{ended_line, lines_text}
use Rattle.fix_site.specs.declared.site.Site.{Site}
use Rattle.fix_site.specs.Answers.{IsShort}
use Rattle.fix_site.specs.Sites.{site_lines, site_text}

lines_within : (lines : List (List ℕ)) → length lines ≤ length (lines_text lines)
lines_within [] = omega arith
lines_within (line ∷ lines) =
    let more = lines_within lines in
    let both : length (lines_text (line ∷ lines)) ≡ length (ended_line line) + length (lines_text lines) = length-append (ended_line line) (lines_text lines) in
    let one : length (ended_line line) ≡ length line + 1 = length-append line (10 ∷ []) in
    omega arith

-- a site of a short text has few lines
pub few_lines : (text : List ℕ) (site : Site) → IsShort text → text ≡ site_text site → length (site_lines site) ≤ 4194304
few_lines text site short is =
    let within = lines_within (site_lines site) in
    let bytes : length text ≡ length (lines_text (site_lines site)) = ap (length {A = ℕ}) is in
    omega arith
