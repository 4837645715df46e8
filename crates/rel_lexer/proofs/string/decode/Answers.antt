use Rattle.rel_lexer.proofs.Decoding.{decoded_all}
use Rattle.rel_lexer.proofs.string.decode.Goals as goal

pub returns : goal.returns
returns c = decoded_all c.loop-first.bytes.items c.loop-first.rest.now c.args.raw.now c.in_default.ensures.cases c.loop-first.invariant
