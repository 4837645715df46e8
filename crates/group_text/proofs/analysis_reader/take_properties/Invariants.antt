use Rattle.std.proofs.Common.{length}
use Rattle.std.specs.Prelude.{map}
use Rattle.line_forms.specs.Readers.{EachCan, Passes}
use Rattle.group_text.specs.Analyses.{CanFollow}
use Rattle.group_text.specs.Properties.{property_line}
use Rattle.group_text.proofs.analysis_reader.take_properties.Given as goal

-- the lines of the properties so far were taken
abbrev pub invariant-loop-properties : goal.invariant-loop-properties
invariant-loop-properties l = record {
  each : EachCan CanFollow l.properties.items;
  passes : Passes l.initial.lines l.lines (map property_line l.properties.items);
}

abbrev pub decreases-loop-properties : goal.decreases-loop-properties
decreases-loop-properties l = length l.lines.lines
