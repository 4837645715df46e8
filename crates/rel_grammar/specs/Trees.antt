-- Trees without where they lie in memory, and the tree of a reading.
use Rattle.std.specs.Prelude.{ℕ, ℤ, List, [], ◌∷◌, ◌++◌}
use Rattle.rel_lexer.specs.declared.place.Place.{Place}
use Rattle.rel_lexer.specs.declared.operator.UnarySign.{UnarySign}
use Rattle.rel_lexer.specs.declared.operator.BinarySign.{BinarySign}
use Rattle.rel_lexer.specs.declared.operator.BinarySign.TheVariants as operator
use Rattle.rel_grammar.specs.declared.casts.CastTo.{CastTo}
use Rattle.rel_grammar.specs.Shapes.{word_spelling}
use Rattle.rel_grammar.specs.Grammar.{Words, one_word, more_words, Comparison, equals, differs, below, at_most, above, at_least, Relop, compares, is_alone, is_not, is_contained_by, is_not_contained_by, contains, starts_with, ends_with, does_not_contain, does_not_start_with, does_not_end_with, SumSign, plus, minus, join, ProductSign, times, over, modulo, Collection, collection_one, collection_more, Tuple, tuple_one, tuple_more, Choice, if_then, no_if, Bar, bar_one, bar_more, Either, either_one, either_more, Both, both_one, both_more, Relation, no_relop, relates, Sum, sum_one, sum_more, Product, product_one, product_more, Unary, signed, no_sign, Cast, cast_one, cast_more, Reference, no_object, of_object, Term, no_filter, filtered, Primary, a_number, a_string, an_it, brackets, some_words, with_argument, Argument, argument_number, argument_string, argument_brackets, Question}

-- Each list grows at its end.
mutual
  pub data Plain : Type 0 where
    numeral : Place → ℤ → Plain
    literal : Place → List ℕ → Plain
    it : Place → Plain
    -- the words, the argument, the filter and the object
    phrase : Place → List ℕ → Held → Held → Held → Plain
    -- the body, the filter and the object
    body : Place → Plain → Held → Held → Plain
    cast : Plain → List CastTo → Plain
    unary : Place → UnarySign → Plain → Plain
    chain : Plain → Linked → Plain
    conditional : Place → Plain → Plain → Plain → Plain
    tuple : Parts → Plain
    collection : Parts → Plain

  -- an argument, a filter or an object, if there is one
  pub data Held : Type 0 where
    no_tree : Held
    a_tree : Plain → Held

  -- operators, each with its place and its right operand
  pub data Linked : Type 0 where
    no_links : Linked
    more_links : Linked → Place → BinarySign → Plain → Linked

  -- the parts of a tuple or a collection
  pub data Parts : Type 0 where
    no_parts : Parts
    more_parts : Parts → Plain → Parts

-- from the first of two places to the second
abbrev pub span_of : Place → Place → Place
span_of p q = record { from = p.from; to = q.to }

-- words are joined by one space
abbrev pub words_text : Words → List ℕ
words_text (one_word p w) = word_spelling w
words_text (more_words ws p w) = (words_text ws ++ (32 ∷ [])) ++ word_spelling w

abbrev pub words_from : Words → ℕ
words_from (one_word p w) = p.from
words_from (more_words ws p w) = words_from ws

abbrev pub words_to : Words → ℕ
words_to (one_word p w) = p.to
words_to (more_words ws p w) = p.to

abbrev pub words_place : Words → Place
words_place ws = record { from = words_from ws; to = words_to ws }

abbrev pub comparison_sign : Comparison → BinarySign
comparison_sign equals = operator.Equal
comparison_sign differs = operator.NotEqual
comparison_sign below = operator.Less
comparison_sign at_most = operator.LessOrEqual
comparison_sign above = operator.Greater
comparison_sign at_least = operator.GreaterOrEqual

abbrev pub sum_operator : SumSign → BinarySign
sum_operator plus = operator.Plus
sum_operator minus = operator.Minus
sum_operator join = operator.Join

abbrev pub product_operator : ProductSign → BinarySign
product_operator times = operator.Times
product_operator over = operator.Over
product_operator modulo = operator.Mod

abbrev pub relop_sign : Relop → BinarySign
relop_sign (compares p c) = comparison_sign c
relop_sign (is_alone p) = operator.Is
relop_sign (is_not p q) = operator.IsNot
relop_sign (is_contained_by p q r) = operator.IsContainedBy
relop_sign (is_not_contained_by p q r t) = operator.IsNotContainedBy
relop_sign (contains p) = operator.Contains
relop_sign (starts_with p q) = operator.StartsWith
relop_sign (ends_with p q) = operator.EndsWith
relop_sign (does_not_contain p q r) = operator.DoesNotContain
relop_sign (does_not_start_with p q r t) = operator.DoesNotStartWith
relop_sign (does_not_end_with p q r t) = operator.DoesNotEndWith

-- from the first word of the sign to the last
abbrev pub relop_place : Relop → Place
relop_place (compares p c) = p
relop_place (is_alone p) = p
relop_place (is_not p q) = span_of p q
relop_place (is_contained_by p q r) = span_of p r
relop_place (is_not_contained_by p q r t) = span_of p t
relop_place (contains p) = p
relop_place (starts_with p q) = span_of p q
relop_place (ends_with p q) = span_of p q
relop_place (does_not_contain p q r) = span_of p r
relop_place (does_not_start_with p q r t) = span_of p t
relop_place (does_not_end_with p q r t) = span_of p t

-- A head with a filter, which has none before. A bare number, string or `it` becomes a body around it, at its place. No other tree is
-- a head.
abbrev pub with_filter : Plain → Plain → Plain
with_filter (numeral p n) f = body p (numeral p n) (a_tree f) no_tree
with_filter (literal p t) f = body p (literal p t) (a_tree f) no_tree
with_filter (it p) f = body p (it p) (a_tree f) no_tree
with_filter (phrase p w a g o) f = phrase p w a (a_tree f) o
with_filter (body p b g o) f = body p b (a_tree f) o
with_filter t f = t

-- A head, with its filter if there is one, and an object, in the same way.
abbrev pub with_object : Plain → Plain → Plain
with_object (numeral p n) o = body p (numeral p n) no_tree (a_tree o)
with_object (literal p t) o = body p (literal p t) no_tree (a_tree o)
with_object (it p) o = body p (it p) no_tree (a_tree o)
with_object (phrase p w a f g) o = phrase p w a f (a_tree o)
with_object (body p b f g) o = body p b f (a_tree o)
with_object t o = t

-- what stands in brackets, whose place includes them
abbrev pub enclosed : Place → Plain → Place → Plain
enclosed p t close = body (span_of p close) t no_tree no_tree

-- where an argument ends
abbrev pub argument_to : Argument → ℕ
argument_to (argument_number p n) = p.to
argument_to (argument_string p t) = p.to
argument_to (argument_brackets p q close) = close.to

abbrev mutual
  pub collection_tree : Collection → Plain
  collection_tree (collection_one x) = tuple_tree x
  collection_tree (collection_more l p x) = collection (more_parts (collection_parts l) (tuple_tree x))

  pub collection_parts : Collection → Parts
  collection_parts (collection_one x) = more_parts no_parts (tuple_tree x)
  collection_parts (collection_more l p x) = more_parts (collection_parts l) (tuple_tree x)

  pub tuple_tree : Tuple → Plain
  tuple_tree (tuple_one x) = choice_tree x
  tuple_tree (tuple_more l p x) = tuple (more_parts (tuple_parts l) (choice_tree x))

  pub tuple_parts : Tuple → Parts
  tuple_parts (tuple_one x) = more_parts no_parts (choice_tree x)
  tuple_parts (tuple_more l p x) = more_parts (tuple_parts l) (choice_tree x)

  pub choice_tree : Choice → Plain
  choice_tree (if_then p t o y e n) = conditional p (collection_tree t) (collection_tree y) (choice_tree n)
  choice_tree (no_if x) = bar_tree x

  pub bar_tree : Bar → Plain
  bar_tree (bar_one x) = either_tree x
  bar_tree (bar_more l p x) = chain (bar_head l) (more_links (bar_links l) p operator.Bar (either_tree x))

  pub bar_head : Bar → Plain
  bar_head (bar_one x) = either_tree x
  bar_head (bar_more l p x) = bar_head l

  pub bar_links : Bar → Linked
  bar_links (bar_one x) = no_links
  bar_links (bar_more l p x) = more_links (bar_links l) p operator.Bar (either_tree x)

  pub either_tree : Either → Plain
  either_tree (either_one x) = both_tree x
  either_tree (either_more l p x) = chain (either_head l) (more_links (either_links l) p operator.Or (both_tree x))

  pub either_head : Either → Plain
  either_head (either_one x) = both_tree x
  either_head (either_more l p x) = either_head l

  pub either_links : Either → Linked
  either_links (either_one x) = no_links
  either_links (either_more l p x) = more_links (either_links l) p operator.Or (both_tree x)

  pub both_tree : Both → Plain
  both_tree (both_one x) = relation_tree x
  both_tree (both_more l p x) = chain (both_head l) (more_links (both_links l) p operator.And (relation_tree x))

  pub both_head : Both → Plain
  both_head (both_one x) = relation_tree x
  both_head (both_more l p x) = both_head l

  pub both_links : Both → Linked
  both_links (both_one x) = no_links
  both_links (both_more l p x) = more_links (both_links l) p operator.And (relation_tree x)

  pub relation_tree : Relation → Plain
  relation_tree (no_relop s) = sum_tree s
  relation_tree (relates s r t) = chain (sum_tree s) (more_links no_links (relop_place r) (relop_sign r) (sum_tree t))

  pub sum_tree : Sum → Plain
  sum_tree (sum_one x) = product_tree x
  sum_tree (sum_more l p s x) = chain (sum_head l) (more_links (sum_links l) p (sum_operator s) (product_tree x))

  pub sum_head : Sum → Plain
  sum_head (sum_one x) = product_tree x
  sum_head (sum_more l p s x) = sum_head l

  pub sum_links : Sum → Linked
  sum_links (sum_one x) = no_links
  sum_links (sum_more l p s x) = more_links (sum_links l) p (sum_operator s) (product_tree x)

  pub product_tree : Product → Plain
  product_tree (product_one x) = unary_tree x
  product_tree (product_more l p s x) = chain (product_head l) (more_links (product_links l) p (product_operator s) (unary_tree x))

  pub product_head : Product → Plain
  product_head (product_one x) = unary_tree x
  product_head (product_more l p s x) = product_head l

  pub product_links : Product → Linked
  product_links (product_one x) = no_links
  product_links (product_more l p s x) = more_links (product_links l) p (product_operator s) (unary_tree x)

  pub unary_tree : Unary → Plain
  unary_tree (signed p s x) = unary p s (unary_tree x)
  unary_tree (no_sign x) = cast_tree x

  pub cast_tree : Cast → Plain
  cast_tree (cast_one x) = reference_tree x
  cast_tree (cast_more l p ws) = cast (cast_head l) (cast_list l ++ (record { place = words_place ws; words = words_text ws } ∷ []))

  pub cast_head : Cast → Plain
  cast_head (cast_one x) = reference_tree x
  cast_head (cast_more l p ws) = cast_head l

  pub cast_list : Cast → List CastTo
  cast_list (cast_one x) = []
  cast_list (cast_more l p ws) = cast_list l ++ (record { place = words_place ws; words = words_text ws } ∷ [])

  pub reference_tree : Reference → Plain
  reference_tree (no_object x) = term_tree x
  reference_tree (of_object x p r) = with_object (term_tree x) (reference_tree r)

  pub term_tree : Term → Plain
  term_tree (no_filter x) = primary_tree x
  term_tree (filtered x w p q close) = with_filter (primary_tree x) (enclosed p (collection_tree q) close)

  pub primary_tree : Primary → Plain
  primary_tree (a_number p n) = numeral p n
  primary_tree (a_string p t) = literal p t
  primary_tree (an_it p) = it p
  primary_tree (brackets p q close) = enclosed p (collection_tree q) close
  primary_tree (some_words ws) = phrase (words_place ws) (words_text ws) no_tree no_tree no_tree
  primary_tree (with_argument ws a) = phrase (record { from = words_from ws; to = argument_to a }) (words_text ws) (a_tree (argument_tree a)) no_tree no_tree

  pub argument_tree : Argument → Plain
  argument_tree (argument_number p n) = numeral p n
  argument_tree (argument_string p t) = literal p t
  argument_tree (argument_brackets p q close) = enclosed p (collection_tree q) close

-- the tree of a question
abbrev pub question_tree : Question → Plain
question_tree = collection_tree
