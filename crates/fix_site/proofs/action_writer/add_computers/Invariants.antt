use Rattle.std.proofs.Common.{◌≡◌, ◌++◌, take}
use Rattle.std.specs.Prelude.{map}
use Rattle.line_forms.specs.Lines.{lines_text}
use Rattle.fix_site.specs.Actions.{computer_line}
use Rattle.fix_site.proofs.action_writer.add_computers.Given as goal

abbrev pub invariant-loop-name : goal.invariant-loop-name
invariant-loop-name l = l.out ≡ l.initial.out ++ lines_text (map computer_line (take l.name-index l.name-items))
