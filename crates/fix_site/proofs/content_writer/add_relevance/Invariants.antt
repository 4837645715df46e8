use Rattle.std.proofs.Common.{◌≡◌, ◌++◌, take}
use Rattle.std.specs.Prelude.{map}
use Rattle.line_forms.specs.Lines.{lines_text}
use Rattle.fix_site.specs.Contents.{relevance_line}
use Rattle.fix_site.proofs.content_writer.add_relevance.Given as goal

abbrev pub invariant-loop-question : goal.invariant-loop-question
invariant-loop-question l = l.out ≡ l.initial.out ++ lines_text (map relevance_line (take l.question-index l.question-items))
