use Rattle.std.proofs.Common.{◌≡◌, take}
use Rattle.rel_lexer.proofs.token_list.TokenList.copy.Given as goal

abbrev pub invariant-loop-token : goal.invariant-loop-token
invariant-loop-token l = l.copies.items ≡ take l.token-index l.token-items
