use Rattle.rel_grammar.proofs.SpanOfReading.{reading_spans}
use Rattle.rel_grammar.proofs.spans.span_of_part.Goals as goal

pub returns : goal.returns
returns c = reading_spans
