use Rattle.std.proofs.Common.{refl, sym, ◌∙◌}
use Rattle.rel_lexer.specs.Pieces.{blank}
use Rattle.rel_lexer.proofs.piece.read_piece.Goals as goal

pub returns-then-is_blank : goal.returns-then-is_blank
returns-then-is_blank c = record { piece = blank c.in-Some.first.now; splits = c.in-Some.ensures.cases.0; stands = sym c.is_blank.ensures ∙ c.if-is_blank.true; good = tt; kind_is = refl }

pub returns-then-begins_word : goal.returns-then-begins_word
returns-then-begins_word c = c.read_word.ensures c.args.at
