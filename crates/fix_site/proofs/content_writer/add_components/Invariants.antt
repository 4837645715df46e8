use Rattle.std.proofs.Common.{◌≡◌, ◌++◌, take}
use Rattle.std.specs.Prelude.{map}
use Rattle.line_forms.specs.Lines.{lines_text}
use Rattle.fix_site.specs.Contents.{component_line}
use Rattle.fix_site.proofs.content_writer.add_components.Given as goal

abbrev pub invariant-loop-component : goal.invariant-loop-component
invariant-loop-component l = l.out ≡ l.initial.out ++ lines_text (map component_line (take l.component-index l.component-items))
