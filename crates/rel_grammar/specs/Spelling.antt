-- The tokens of a reading, each with its depth: the number of parts in brackets, unary signs, objects of `of` and
-- `if` expressions that contain it. A unary sign, an opening bracket and the word `if` count themselves, `of` does not.
use Rattle.std.specs.Prelude.{ℕ, ◌+◌, List, [], ◌∷◌, ◌++◌, map}
use Rattle.rel_lexer.specs.declared.place.Place.{Place}
use Rattle.rel_lexer.specs.declared.sign.Sign.TheVariants as lex
use Rattle.rel_lexer.specs.declared.operator.UnarySign.{UnarySign}
use Rattle.rel_lexer.specs.declared.operator.UnarySign.TheVariants as one_operand
use Rattle.rel_grammar.specs.declared.vocabulary.Reserved.TheVariants as the
use Rattle.rel_grammar.specs.declared.vocabulary.Helper.TheVariants as aid
use Rattle.rel_grammar.specs.Shapes.{Kind, sign, reserved, not_of_is, word, number, string, helper, Shaped}
use Rattle.rel_grammar.specs.Grammar.{Words, one_word, more_words, Comparison, equals, differs, below, at_most, above, at_least, Relop, compares, is_alone, is_not, is_contained_by, is_not_contained_by, contains, starts_with, ends_with, does_not_contain, does_not_start_with, does_not_end_with, SumSign, plus, minus, join, ProductSign, times, over, modulo, Collection, collection_one, collection_more, Tuple, tuple_one, tuple_more, Choice, if_then, no_if, Bar, bar_one, bar_more, Either, either_one, either_more, Both, both_one, both_more, Relation, no_relop, relates, Sum, sum_one, sum_more, Product, product_one, product_more, Unary, signed, no_sign, Cast, cast_one, cast_more, Reference, no_object, of_object, Term, no_filter, filtered, Primary, a_number, a_string, an_it, brackets, some_words, with_argument, Argument, argument_number, argument_string, argument_brackets}

-- a token, and how deep it stands
pub record Mark : Type 0 where
  pub token : Shaped
  pub depth : ℕ

abbrev pub mark : ℕ → Kind → Place → Mark
mark depth kind place = record { token = record { kind = kind; place = place }; depth = depth }

abbrev pub comparison_kind : Comparison → Kind
comparison_kind equals = sign lex.Equal
comparison_kind differs = sign lex.NotEqual
comparison_kind below = sign lex.Less
comparison_kind at_most = sign lex.LessOrEqual
comparison_kind above = sign lex.Greater
comparison_kind at_least = sign lex.GreaterOrEqual

abbrev pub sum_kind : SumSign → Kind
sum_kind plus = sign lex.Plus
sum_kind minus = sign lex.Minus
sum_kind join = sign lex.Ampersand

abbrev pub product_kind : ProductSign → Kind
product_kind times = sign lex.Times
product_kind over = sign lex.Slash
product_kind modulo = reserved the.Mod

abbrev pub unary_kind : UnarySign → Kind
unary_kind one_operand.Not = reserved the.Not
unary_kind one_operand.Exists = reserved the.Exists
unary_kind one_operand.Exist = reserved the.Exist
unary_kind one_operand.Minus = sign lex.Minus

abbrev pub words_marks : ℕ → Words → List Mark
words_marks d (one_word p w) = mark d (word w) p ∷ []
words_marks d (more_words ws p w) = words_marks d ws ++ (mark d (word w) p ∷ [])

abbrev pub relop_marks : ℕ → Relop → List Mark
relop_marks d (compares p c) = mark d (comparison_kind c) p ∷ []
relop_marks d (is_alone p) = mark d (reserved the.Is) p ∷ []
relop_marks d (is_not p q) = mark d (reserved the.Is) p ∷ mark d not_of_is q ∷ []
relop_marks d (is_contained_by p q r) = mark d (reserved the.Is) p ∷ mark d (reserved the.Contained) q ∷ mark d (word (helper aid.By)) r ∷ []
relop_marks d (is_not_contained_by p q r t) = mark d (reserved the.Is) p ∷ mark d not_of_is q ∷ mark d (reserved the.Contained) r ∷ mark d (word (helper aid.By)) t ∷ []
relop_marks d (contains p) = mark d (reserved the.Contains) p ∷ []
relop_marks d (starts_with p q) = mark d (reserved the.Starts) p ∷ mark d (word (helper aid.With)) q ∷ []
relop_marks d (ends_with p q) = mark d (reserved the.Ends) p ∷ mark d (word (helper aid.With)) q ∷ []
relop_marks d (does_not_contain p q r) = mark d (reserved the.Does) p ∷ mark d (reserved the.Not) q ∷ mark d (word (helper aid.Contain)) r ∷ []
relop_marks d (does_not_start_with p q r t) = mark d (reserved the.Does) p ∷ mark d (reserved the.Not) q ∷ mark d (word (helper aid.Start)) r ∷ mark d (word (helper aid.With)) t ∷ []
relop_marks d (does_not_end_with p q r t) = mark d (reserved the.Does) p ∷ mark d (reserved the.Not) q ∷ mark d (word (helper aid.End)) r ∷ mark d (word (helper aid.With)) t ∷ []

-- The tokens of a reading, around which there are `d` brackets, signs, objects and `if`s.
abbrev mutual
  pub collection_marks : ℕ → Collection → List Mark
  collection_marks d (collection_one x) = tuple_marks d x
  collection_marks d (collection_more l p x) = collection_marks d l ++ (mark d (sign lex.Semicolon) p ∷ tuple_marks d x)

  pub tuple_marks : ℕ → Tuple → List Mark
  tuple_marks d (tuple_one x) = choice_marks d x
  tuple_marks d (tuple_more l p x) = tuple_marks d l ++ (mark d (sign lex.Comma) p ∷ choice_marks d x)

  pub choice_marks : ℕ → Choice → List Mark
  choice_marks d (if_then p t o y e n) = mark (d + 1) (reserved the.If) p ∷ (collection_marks (d + 1) t ++ (mark (d + 1) (reserved the.Then) o ∷ (collection_marks (d + 1) y ++ (mark (d + 1) (reserved the.Else) e ∷ choice_marks (d + 1) n))))
  choice_marks d (no_if x) = bar_marks d x

  pub bar_marks : ℕ → Bar → List Mark
  bar_marks d (bar_one x) = either_marks d x
  bar_marks d (bar_more l p x) = bar_marks d l ++ (mark d (sign lex.Bar) p ∷ either_marks d x)

  pub either_marks : ℕ → Either → List Mark
  either_marks d (either_one x) = both_marks d x
  either_marks d (either_more l p x) = either_marks d l ++ (mark d (reserved the.Or) p ∷ both_marks d x)

  pub both_marks : ℕ → Both → List Mark
  both_marks d (both_one x) = relation_marks d x
  both_marks d (both_more l p x) = both_marks d l ++ (mark d (reserved the.And) p ∷ relation_marks d x)

  pub relation_marks : ℕ → Relation → List Mark
  relation_marks d (no_relop s) = sum_marks d s
  relation_marks d (relates s r t) = sum_marks d s ++ (relop_marks d r ++ sum_marks d t)

  pub sum_marks : ℕ → Sum → List Mark
  sum_marks d (sum_one x) = product_marks d x
  sum_marks d (sum_more l p s x) = sum_marks d l ++ (mark d (sum_kind s) p ∷ product_marks d x)

  pub product_marks : ℕ → Product → List Mark
  product_marks d (product_one x) = unary_marks d x
  product_marks d (product_more l p s x) = product_marks d l ++ (mark d (product_kind s) p ∷ unary_marks d x)

  pub unary_marks : ℕ → Unary → List Mark
  unary_marks d (signed p s x) = mark (d + 1) (unary_kind s) p ∷ unary_marks (d + 1) x
  unary_marks d (no_sign x) = cast_marks d x

  pub cast_marks : ℕ → Cast → List Mark
  cast_marks d (cast_one x) = reference_marks d x
  cast_marks d (cast_more l p ws) = cast_marks d l ++ (mark d (reserved the.As) p ∷ words_marks d ws)

  pub reference_marks : ℕ → Reference → List Mark
  reference_marks d (no_object x) = term_marks d x
  reference_marks d (of_object x p r) = term_marks d x ++ (mark d (reserved the.Of) p ∷ reference_marks (d + 1) r)

  pub term_marks : ℕ → Term → List Mark
  term_marks d (no_filter x) = primary_marks d x
  term_marks d (filtered x w p q close) = primary_marks d x ++ (mark d (reserved the.Whose) w ∷ mark (d + 1) (sign lex.OpenBracket) p ∷ (collection_marks (d + 1) q ++ (mark (d + 1) (sign lex.CloseBracket) close ∷ [])))

  pub primary_marks : ℕ → Primary → List Mark
  primary_marks d (a_number p n) = mark d (number n) p ∷ []
  primary_marks d (a_string p t) = mark d (string t) p ∷ []
  primary_marks d (an_it p) = mark d (reserved the.It) p ∷ []
  primary_marks d (brackets p q close) = mark (d + 1) (sign lex.OpenBracket) p ∷ (collection_marks (d + 1) q ++ (mark (d + 1) (sign lex.CloseBracket) close ∷ []))
  primary_marks d (some_words ws) = words_marks d ws
  primary_marks d (with_argument ws a) = words_marks d ws ++ argument_marks d a

  pub argument_marks : ℕ → Argument → List Mark
  argument_marks d (argument_number p n) = mark d (number n) p ∷ []
  argument_marks d (argument_string p t) = mark d (string t) p ∷ []
  argument_marks d (argument_brackets p q close) = mark (d + 1) (sign lex.OpenBracket) p ∷ (collection_marks (d + 1) q ++ (mark (d + 1) (sign lex.CloseBracket) close ∷ []))

abbrev pub shapes_of : List Mark → List Shaped
shapes_of = map (λ m. m.token)
