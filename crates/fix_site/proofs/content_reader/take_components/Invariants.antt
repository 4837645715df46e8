use Rattle.std.proofs.Common.{length}
use Rattle.std.specs.Prelude.{map}
use Rattle.line_forms.specs.Readers.{EachCan, Passes}
use Rattle.fix_site.specs.Contents.{component_line}
use Rattle.fix_site.specs.Readings.{Anywhere, IsComponent}
use Rattle.fix_site.proofs.content_reader.take_components.Given as goal

-- the lines of the components so far were taken
abbrev pub invariant-loop-component : goal.invariant-loop-component
invariant-loop-component l = record {
  good : EachCan (Anywhere (IsComponent l.blocks)) l.components.items;
  passes : Passes l.initial.lines l.lines (map component_line l.components.items);
}

abbrev pub decreases-loop-component : goal.decreases-loop-component
decreases-loop-component l = length l.lines.lines
