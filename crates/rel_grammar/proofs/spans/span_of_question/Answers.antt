use Rattle.rel_grammar.proofs.SpanOfReading.{question_spans}
use Rattle.rel_grammar.proofs.spans.span_of_question.Goals as goal

pub returns : goal.returns
returns c = question_spans
