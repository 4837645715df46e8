use Rattle.std.proofs.Common.{length}
use Rattle.std.specs.Prelude.{map}
use Rattle.line_forms.specs.Readers.{EachCan, Passes}
use Rattle.group_text.specs.Groups.{CanFollow}
use Rattle.group_text.specs.Tests.{test_line}
use Rattle.group_text.proofs.group_reader.take_tests.Given as goal

-- the lines of the tests so far were taken
abbrev pub invariant-loop-tests : goal.invariant-loop-tests
invariant-loop-tests l = record {
  each : EachCan CanFollow l.tests.items;
  passes : Passes l.initial.lines l.lines (map test_line l.tests.items);
}

abbrev pub decreases-loop-tests : goal.decreases-loop-tests
decreases-loop-tests l = length l.lines.lines
