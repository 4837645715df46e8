-- There is a question: `1`.
use Rattle.std.proofs.Common.{ℕ, pos, List, [], ◌∷◌, false, refl, arith}
use Rattle.std.specs.Prelude.{codes}
use Rattle.rel_lexer.specs.declared.place.Place.{Place}
use Rattle.rel_lexer.specs.declared.token.TokenKind.TheVariants as lexed
use Rattle.rel_lexer.specs.declared.token_list.Tokens.{Tokens}
use Rattle.rel_lexer.specs.Pieces.{number}
use Rattle.rel_lexer.specs.Tokens.{AreTokens}
use Rattle.rel_grammar.specs.Answers.{IsTreeOf}
use Rattle.rel_grammar.specs.Grammar.{Question, collection_one, tuple_one, no_if, bar_one, either_one, both_one, no_relop, sum_one, product_one, no_sign, cast_one, no_object, no_filter, a_number}
use Rattle.rel_grammar.specs.Trees.{numeral}
use Rattle.rel_types.specs.Plans.{node}
use Rattle.rel_types.specs.Plans as plans
use Rattle.rel_value.specs.Plain.{integers}
use Rattle.group_text.specs.Properties.{IsQuestion}

-- its text, and where its token stands
abbrev pub one_text : List ℕ
one_text = codes "1"

there : Place
there = record { from = 0; to = 1 }

abbrev one_tokens : Tokens
one_tokens = record { list = record { kind = lexed.Number (pos 1); place = record { from = 0; to = 1 } } ∷ []; end = 1 }

are_tokens : AreTokens one_text one_tokens
are_tokens = record {
  short = omega arith;
  pieces = number 49 [] ∷ [];
  lexes = ([], refl, (refl, tt, tt), refl);
  good = (omega arith, tt);
  list = refl;
  end = refl;
}

abbrev one_question : Question
one_question =
    collection_one (tuple_one (no_if (bar_one (either_one (both_one (no_relop (sum_one (product_one (no_sign (cast_one (no_object (no_filter (a_number (record { from = 0; to = 1 }) (pos 1))))))))))))))

one_tree : IsTreeOf one_text (numeral (record { from = 0; to = 1 }) (pos 1))
one_tree = record {
  tokens = one_tokens;
  lexed = are_tokens;
  question = one_question;
  sentence = refl;
  shallow = (omega arith, tt);
  tree_is = refl;
}

pub one_is_question : IsQuestion one_text
one_is_question = (node integers false (plans.numeral (record { from = 0; to = 1 }) (pos 1)), (numeral (record { from = 0; to = 1 }) (pos 1), one_tree, refl))
