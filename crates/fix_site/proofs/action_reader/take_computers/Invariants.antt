use Rattle.std.proofs.Common.{length}
use Rattle.std.specs.Prelude.{map}
use Rattle.line_forms.specs.Names.{IsName}
use Rattle.line_forms.specs.Readers.{EachCan, Passes}
use Rattle.fix_site.specs.Actions.{computer_line}
use Rattle.fix_site.specs.Readings.{Anywhere}
use Rattle.fix_site.proofs.action_reader.take_computers.Given as goal

-- the lines of the names so far were taken
abbrev pub invariant-loop-name : goal.invariant-loop-name
invariant-loop-name l = record {
  good : EachCan (Anywhere IsName) l.names.items;
  passes : Passes l.initial.lines l.lines (map computer_line l.names.items);
}

abbrev pub decreases-loop-name : goal.decreases-loop-name
decreases-loop-name l = length l.lines.lines
