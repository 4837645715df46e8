use Rattle.std.proofs.Common.{◌≡◌, ◌+◌, length}
use Rattle.std.specs.Prelude.{map}
use Rattle.line_forms.specs.Contents as held
use Rattle.line_forms.specs.Lines.{lines_text}
use Rattle.line_forms.specs.Readers.{EachCan, Passes}
use Rattle.fix_site.specs.Readings.{FitsScript}
use Rattle.fix_site.proofs.content_reader.take_script.Given as goal

-- the lines of the script so far were taken, and so many bytes are left for more
abbrev pub invariant-loop-line : goal.invariant-loop-line
invariant-loop-line l = record {
  good : EachCan FitsScript l.script.items;
  passes : Passes l.initial.lines l.lines (map held.content_line l.script.items);
  room : length (lines_text l.script.items) + l.room ≡ 262144;
}

abbrev pub decreases-loop-line : goal.decreases-loop-line
decreases-loop-line l = length l.lines.lines
