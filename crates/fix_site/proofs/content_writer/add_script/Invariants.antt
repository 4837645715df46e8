use Rattle.std.proofs.Common.{◌≡◌, ◌++◌, take}
use Rattle.std.specs.Prelude.{map}
use Rattle.line_forms.specs.Contents as held
use Rattle.line_forms.specs.Lines.{lines_text}
use Rattle.fix_site.proofs.content_writer.add_script.Given as goal

abbrev pub invariant-loop-line : goal.invariant-loop-line
invariant-loop-line l = l.out ≡ l.initial.out ++ lines_text (map held.content_line (take l.line-index l.line-items))
