use Rattle.std.proofs.Common.{refl, ap}
use Rattle.rel_lexer.specs.Pieces.{sign, stray}
use Rattle.rel_lexer.specs.declared.error.LexError.TheVariants.{BadByte}
use Rattle.rel_lexer.proofs.piece.read_sign.Goals as goal

pub returns-in-Some : goal.returns-in-Some
returns-in-Some c = record { piece = sign c.in-Some.sign; splits = c.in-Some.ensures.0; stands = c.in-Some.ensures.1; good = tt; kind_is = refl }

pub returns-in-None : goal.returns-in-None
returns-in-None c = record { piece = stray c.args.first; rest = c.args.more.now; splits = refl; stands = record { no_blank = c.requires.no_blank; no_word = c.requires.no_word; no_number = c.requires.no_number; no_string = c.requires.no_string; no_sign = c.in-None.ensures }; fault = ap (λ x. BadByte x) c.of_bytes.ensures }
