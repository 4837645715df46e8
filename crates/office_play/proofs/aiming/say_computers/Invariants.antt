use Rattle.std.proofs.Common.{◌≡◌, ◌++◌, take}
use Rattle.std.specs.Prelude.{map}
use Rattle.line_forms.specs.Lines.{lines_text}
use Rattle.fix_site.specs.Actions as action
use Rattle.office_play.proofs.aiming.say_computers.Given as goal

-- the lines of the computers so far
abbrev pub invariant-loop-computer : goal.invariant-loop-computer
invariant-loop-computer l = l.out ≡ l.fn.out ++ lines_text (map action.computer_line (take l.computer-index l.computers))
