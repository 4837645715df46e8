use Rattle.std.proofs.Common.{◌≡◌, ◌++◌, length}
use Rattle.line_forms.specs.Lines.{lines_text}
use Rattle.office_rules.specs.GroupWords.{aimed}
use Rattle.office_play.specs.Aiming.{rest_aimed}
use Rattle.office_play.proofs.aiming.aimed.Given as goal

-- the lines so far, and what becomes of those that are left, are all
abbrev pub invariant-loop-line : goal.invariant-loop-line
invariant-loop-line l = l.out ++ lines_text (rest_aimed l.is_aimed l.computers l.lines.lines) ≡ aimed l.computers l.text

abbrev pub decreases-loop-line : goal.decreases-loop-line
decreases-loop-line l = length l.lines.lines
