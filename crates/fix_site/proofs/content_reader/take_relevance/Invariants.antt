use Rattle.std.proofs.Common.{length}
use Rattle.std.specs.Prelude.{map}
use Rattle.line_forms.specs.Names.{IsRest}
use Rattle.line_forms.specs.Readers.{EachCan, Passes}
use Rattle.fix_site.specs.Contents.{relevance_line}
use Rattle.fix_site.specs.Readings.{Anywhere}
use Rattle.fix_site.proofs.content_reader.take_relevance.Given as goal

-- the lines of the questions so far were taken
abbrev pub invariant-loop-question : goal.invariant-loop-question
invariant-loop-question l = record {
  good : EachCan (Anywhere IsRest) l.questions.items;
  passes : Passes l.initial.lines l.lines (map relevance_line l.questions.items);
}

abbrev pub decreases-loop-question : goal.decreases-loop-question
decreases-loop-question l = length l.lines.lines
