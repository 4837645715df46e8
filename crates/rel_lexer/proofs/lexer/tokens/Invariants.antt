use Rattle.std.proofs.Common.{◌-◌, ◌≤◌, [], Result, length}
use Rattle.rel_lexer.specs.declared.token_list.Tokens.{Tokens}
use Rattle.rel_lexer.specs.declared.error.LexError.{LexError}
use Rattle.rel_lexer.proofs.Lexing.{Answers}
use Rattle.rel_lexer.proofs.lexer.tokens.Given as goal

-- what answers for the rest, behind the tokens so far, answers for the text
abbrev pub invariant-loop-rest : goal.invariant-loop-rest
invariant-loop-rest l = record {
  short : length l.text ≤ 65536;
  within : length l.rest ≤ length l.text;
  goes : (answer : Result Tokens LexError) → Answers (length l.text - length l.rest) l.list.items l.rest answer → Answers 0 [] l.text answer;
}

abbrev pub decreases-loop-rest : goal.decreases-loop-rest
decreases-loop-rest l = length l.rest
