-- A machine that reads a question token by token. Only private functions cite it.
use Rattle.std.specs.Prelude.{ℕ, ◌+◌, List, [], ◌∷◌, Option, Some, None, cond, nat_lt}
use Rattle.rel_lexer.specs.declared.place.Place.{Place}
use Rattle.rel_lexer.specs.declared.sign.Sign.TheVariants as lex
use Rattle.rel_lexer.specs.declared.operator.UnarySign.{UnarySign}
use Rattle.rel_lexer.specs.declared.operator.UnarySign.TheVariants as one_operand
use Rattle.rel_grammar.specs.declared.vocabulary.Reserved.TheVariants as the
use Rattle.rel_grammar.specs.declared.vocabulary.Helper.TheVariants as aid
use Rattle.rel_grammar.specs.Shapes.{Kind, sign, reserved, not_of_is, word, number, string, helper, Shaped}
use Rattle.rel_grammar.specs.Grammar.{Words, one_word, more_words, equals, differs, below, at_most, above, at_least, Relop, compares, is_alone, is_not, is_contained_by, is_not_contained_by, contains, starts_with, ends_with, does_not_contain, does_not_start_with, does_not_end_with, SumSign, plus, minus, join, ProductSign, times, over, modulo, Collection, collection_one, collection_more, Tuple, tuple_one, tuple_more, Choice, if_then, no_if, Bar, bar_one, bar_more, Either, either_one, either_more, Both, both_one, both_more, Relation, no_relop, relates, Sum, sum_one, sum_more, Product, product_one, product_more, Unary, signed, no_sign, Cast, cast_one, cast_more, Reference, no_object, of_object, Term, no_filter, filtered, Primary, a_number, a_string, an_it, brackets, some_words, with_argument, argument_number, argument_string, argument_brackets}
use Rattle.rel_grammar.specs.Sentences.{deepest}

-- What has been read around a part that is still missing.
mutual
  pub data OverCollection : Type 0 where
    whole : OverCollection
    in_brackets : Place → OverReference → OverCollection
    in_argument : Words → Place → OverReference → OverCollection
    in_filter : Primary → Place → Place → OverReference → OverCollection
    in_test : Place → OverChoice → OverCollection
    in_yes : Place → Collection → Place → OverChoice → OverCollection

  pub data OverTuple : Type 0 where
    collection_first : OverCollection → OverTuple
    collection_next : Collection → Place → OverCollection → OverTuple

  pub data OverChoice : Type 0 where
    tuple_first : OverTuple → OverChoice
    tuple_next : Tuple → Place → OverTuple → OverChoice
    in_no : Place → Collection → Place → Collection → Place → OverChoice → OverChoice

  pub data OverBar : Type 0 where
    under_no_if : OverChoice → OverBar

  pub data OverEither : Type 0 where
    bar_first : OverBar → OverEither
    bar_next : Bar → Place → OverBar → OverEither

  pub data OverBoth : Type 0 where
    either_first : OverEither → OverBoth
    either_next : Either → Place → OverEither → OverBoth

  pub data OverRelation : Type 0 where
    both_first : OverBoth → OverRelation
    both_next : Both → Place → OverBoth → OverRelation

  pub data OverSum : Type 0 where
    left_side : OverRelation → OverSum
    right_side : Sum → Relop → OverRelation → OverSum

  pub data OverProduct : Type 0 where
    sum_first : OverSum → OverProduct
    sum_next : Sum → Place → SumSign → OverSum → OverProduct

  pub data OverUnary : Type 0 where
    product_first : OverProduct → OverUnary
    product_next : Product → Place → ProductSign → OverProduct → OverUnary
    under_sign : Place → UnarySign → OverUnary → OverUnary

  pub data OverReference : Type 0 where
    cast_first : OverUnary → OverReference
    object_of : Term → Place → OverReference → OverReference

-- what may be read of a relation's sign before its last word
pub data Partial : Type 0 where
  read_is : Place → Partial
  read_is_not : Place → Place → Partial
  read_contained : Place → Place → Partial
  read_not_contained : Place → Place → Place → Partial
  read_starts : Place → Partial
  read_ends : Place → Partial
  read_does : Place → Partial
  read_does_not : Place → Place → Partial
  read_start : Place → Place → Place → Partial
  read_end : Place → Place → Place → Partial

pub data State : Type 0 where
  want_choice : OverChoice → State
  want_unary : OverUnary → State
  want_reference : OverReference → State
  in_words : Words → OverReference → State
  after_primary : Primary → OverReference → State
  want_filter : Primary → Place → OverReference → State
  after_term : Term → OverReference → State
  want_cast : Cast → Place → OverUnary → State
  in_cast : Cast → Place → Words → OverUnary → State
  in_relop : Sum → Partial → OverRelation → State

pub data Step : Type 0 where
  to : ℕ → State → Step
  accepts : Collection → Step
  fails : Step

abbrev mutual
  pub depth_collection : OverCollection → ℕ
  depth_collection whole = 0
  depth_collection (in_brackets p C) = depth_reference C + 1
  depth_collection (in_argument ws p C) = depth_reference C + 1
  depth_collection (in_filter x w p C) = depth_reference C + 1
  depth_collection (in_test p C) = depth_choice C + 1
  depth_collection (in_yes p t o C) = depth_choice C + 1

  pub depth_tuple : OverTuple → ℕ
  depth_tuple (collection_first C) = depth_collection C
  depth_tuple (collection_next l p C) = depth_collection C

  pub depth_choice : OverChoice → ℕ
  depth_choice (tuple_first C) = depth_tuple C
  depth_choice (tuple_next l p C) = depth_tuple C
  depth_choice (in_no p t o y e C) = depth_choice C + 1

  pub depth_bar : OverBar → ℕ
  depth_bar (under_no_if C) = depth_choice C

  pub depth_either : OverEither → ℕ
  depth_either (bar_first C) = depth_bar C
  depth_either (bar_next l p C) = depth_bar C

  pub depth_both : OverBoth → ℕ
  depth_both (either_first C) = depth_either C
  depth_both (either_next l p C) = depth_either C

  pub depth_relation : OverRelation → ℕ
  depth_relation (both_first C) = depth_both C
  depth_relation (both_next l p C) = depth_both C

  pub depth_sum : OverSum → ℕ
  depth_sum (left_side C) = depth_relation C
  depth_sum (right_side s r C) = depth_relation C

  pub depth_product : OverProduct → ℕ
  depth_product (sum_first C) = depth_sum C
  depth_product (sum_next l p s C) = depth_sum C

  pub depth_unary : OverUnary → ℕ
  depth_unary (product_first C) = depth_product C
  depth_unary (product_next l p s C) = depth_product C
  depth_unary (under_sign p s C) = depth_unary C + 1

  pub depth_reference : OverReference → ℕ
  depth_reference (cast_first C) = depth_unary C
  depth_reference (object_of x p C) = depth_reference C + 1

-- where each rule begins with a unary
abbrev pub over_product : OverProduct → OverUnary
over_product C = product_first C

abbrev pub over_sum : OverSum → OverUnary
over_sum C = over_product (sum_first C)

abbrev pub over_relation : OverRelation → OverUnary
over_relation C = over_sum (left_side C)

abbrev pub over_both : OverBoth → OverUnary
over_both C = over_relation (both_first C)

abbrev pub over_either : OverEither → OverUnary
over_either C = over_both (either_first C)

abbrev pub over_bar : OverBar → OverUnary
over_bar C = over_either (bar_first C)

abbrev pub over_choice : OverChoice → OverUnary
over_choice C = over_bar (under_no_if C)

-- What comes after a whole part, at the next token or at the end.
abbrev pub end_collection : Collection → OverCollection → Place → Kind → Step
end_collection q (in_brackets p C) close (sign lex.CloseBracket) = to (depth_reference C + 1) (after_primary (brackets p q close) C)
end_collection q (in_argument ws p C) close (sign lex.CloseBracket) = to (depth_reference C + 1) (after_primary (with_argument ws (argument_brackets p q close)) C)
end_collection q (in_filter x w p C) close (sign lex.CloseBracket) = to (depth_reference C + 1) (after_term (filtered x w p q close) C)
end_collection q (in_test p C) o (reserved the.Then) = to (depth_choice C + 1) (want_choice (tuple_first (collection_first (in_yes p q o C))))
end_collection q (in_yes p t o C) e (reserved the.Else) = to (depth_choice C + 1) (want_choice (in_no p t o q e C))
end_collection q C p k = fails

abbrev pub last_collection : Collection → OverCollection → Step
last_collection q whole = accepts q
last_collection q C = fails

abbrev pub next_collection : Collection → OverCollection → Option Shaped → Step
next_collection l C None = last_collection l C
next_collection l C (Some t) = at_collection t.kind
  where
    at_collection : Kind → Step
    at_collection (sign lex.Semicolon) = to (depth_collection C) (want_choice (tuple_first (collection_next l t.place C)))
    at_collection k = end_collection l C t.place k

abbrev pub end_tuple : Tuple → OverTuple → Option Shaped → Step
end_tuple x (collection_first C) = next_collection (collection_one x) C
end_tuple x (collection_next l p C) = next_collection (collection_more l p x) C

abbrev pub next_tuple : Tuple → OverTuple → Option Shaped → Step
next_tuple l C None = end_tuple l C None
next_tuple l C (Some t) = at_tuple t.kind
  where
    at_tuple : Kind → Step
    at_tuple (sign lex.Comma) = to (depth_tuple C) (want_choice (tuple_next l t.place C))
    at_tuple _ = end_tuple l C (Some t)

abbrev pub next_choice : Choice → OverChoice → Option Shaped → Step
next_choice x (tuple_first C) = next_tuple (tuple_one x) C
next_choice x (tuple_next l p C) = next_tuple (tuple_more l p x) C
next_choice x (in_no p t o y e C) = next_choice (if_then p t o y e x) C

abbrev pub end_bar : Bar → OverBar → Option Shaped → Step
end_bar x (under_no_if C) = next_choice (no_if x) C

abbrev pub next_bar : Bar → OverBar → Option Shaped → Step
next_bar l C None = end_bar l C None
next_bar l C (Some t) = at_bar t.kind
  where
    at_bar : Kind → Step
    at_bar (sign lex.Bar) = to (depth_bar C) (want_unary (over_either (bar_next l t.place C)))
    at_bar _ = end_bar l C (Some t)

abbrev pub end_either : Either → OverEither → Option Shaped → Step
end_either x (bar_first C) = next_bar (bar_one x) C
end_either x (bar_next l p C) = next_bar (bar_more l p x) C

abbrev pub next_either : Either → OverEither → Option Shaped → Step
next_either l C None = end_either l C None
next_either l C (Some t) = at_either t.kind
  where
    at_either : Kind → Step
    at_either (reserved the.Or) = to (depth_either C) (want_unary (over_both (either_next l t.place C)))
    at_either _ = end_either l C (Some t)

abbrev pub end_both : Both → OverBoth → Option Shaped → Step
end_both x (either_first C) = next_either (either_one x) C
end_both x (either_next l p C) = next_either (either_more l p x) C

abbrev pub next_both : Both → OverBoth → Option Shaped → Step
next_both l C None = end_both l C None
next_both l C (Some t) = at_both t.kind
  where
    at_both : Kind → Step
    at_both (reserved the.And) = to (depth_both C) (want_unary (over_relation (both_next l t.place C)))
    at_both _ = end_both l C (Some t)

abbrev pub next_relation : Relation → OverRelation → Option Shaped → Step
next_relation x (both_first C) = next_both (both_one x) C
next_relation x (both_next l p C) = next_both (both_more l p x) C

-- what the next token makes of a relation's sign: more of it, the whole of it, or nothing
pub data Heard : Type 0 where
  goes_on : Partial → Heard
  is_whole : Relop → Heard
  no_more : Heard

abbrev pub hear_first : Place → Kind → Heard
hear_first p (sign lex.Equal) = is_whole (compares p equals)
hear_first p (sign lex.NotEqual) = is_whole (compares p differs)
hear_first p (sign lex.Less) = is_whole (compares p below)
hear_first p (sign lex.LessOrEqual) = is_whole (compares p at_most)
hear_first p (sign lex.Greater) = is_whole (compares p above)
hear_first p (sign lex.GreaterOrEqual) = is_whole (compares p at_least)
hear_first p (reserved the.Is) = goes_on (read_is p)
hear_first p (reserved the.Contains) = is_whole (contains p)
hear_first p (reserved the.Starts) = goes_on (read_starts p)
hear_first p (reserved the.Ends) = goes_on (read_ends p)
hear_first p (reserved the.Does) = goes_on (read_does p)
hear_first p _ = no_more

abbrev pub hear : Partial → Place → Kind → Heard
hear (read_is p) q not_of_is = goes_on (read_is_not p q)
hear (read_is p) q (reserved the.Contained) = goes_on (read_contained p q)
hear (read_is_not p q) r (reserved the.Contained) = goes_on (read_not_contained p q r)
hear (read_contained p q) r (word (helper aid.By)) = is_whole (is_contained_by p q r)
hear (read_not_contained p q r) t (word (helper aid.By)) = is_whole (is_not_contained_by p q r t)
hear (read_starts p) q (word (helper aid.With)) = is_whole (starts_with p q)
hear (read_ends p) q (word (helper aid.With)) = is_whole (ends_with p q)
hear (read_does p) q (reserved the.Not) = goes_on (read_does_not p q)
hear (read_does_not p q) r (word (helper aid.Contain)) = is_whole (does_not_contain p q r)
hear (read_does_not p q) r (word (helper aid.Start)) = goes_on (read_start p q r)
hear (read_does_not p q) r (word (helper aid.End)) = goes_on (read_end p q r)
hear (read_start p q r) t (word (helper aid.With)) = is_whole (does_not_start_with p q r t)
hear (read_end p q r) t (word (helper aid.With)) = is_whole (does_not_end_with p q r t)
hear x p k = no_more

abbrev pub end_sum : Sum → OverSum → Option Shaped → Step
end_sum x (right_side l r C) t = next_relation (relates l r x) C t
end_sum x (left_side C) None = next_relation (no_relop x) C None
end_sum x (left_side C) (Some t) = at_relop (hear_first t.place t.kind)
  where
    at_relop : Heard → Step
    at_relop (goes_on y) = to (depth_relation C) (in_relop x y C)
    at_relop (is_whole r) = to (depth_relation C) (want_unary (over_sum (right_side x r C)))
    at_relop no_more = next_relation (no_relop x) C (Some t)

abbrev pub next_sum : Sum → OverSum → Option Shaped → Step
next_sum l C None = end_sum l C None
next_sum l C (Some t) = at_sum t.kind
  where
    at_sum : Kind → Step
    at_sum (sign lex.Plus) = to (depth_sum C) (want_unary (over_product (sum_next l t.place plus C)))
    at_sum (sign lex.Minus) = to (depth_sum C) (want_unary (over_product (sum_next l t.place minus C)))
    at_sum (sign lex.Ampersand) = to (depth_sum C) (want_unary (over_product (sum_next l t.place join C)))
    at_sum _ = end_sum l C (Some t)

abbrev pub end_product : Product → OverProduct → Option Shaped → Step
end_product x (sum_first C) = next_sum (sum_one x) C
end_product x (sum_next l p s C) = next_sum (sum_more l p s x) C

abbrev pub next_product : Product → OverProduct → Option Shaped → Step
next_product l C None = end_product l C None
next_product l C (Some t) = at_product t.kind
  where
    at_product : Kind → Step
    at_product (sign lex.Times) = to (depth_product C) (want_unary (product_next l t.place times C))
    at_product (sign lex.Slash) = to (depth_product C) (want_unary (product_next l t.place over C))
    at_product (reserved the.Mod) = to (depth_product C) (want_unary (product_next l t.place modulo C))
    at_product _ = end_product l C (Some t)

abbrev pub next_unary : Unary → OverUnary → Option Shaped → Step
next_unary x (product_first C) = next_product (product_one x) C
next_unary x (product_next l p s C) = next_product (product_more l p s x) C
next_unary x (under_sign p s C) = next_unary (signed p s x) C

abbrev pub next_cast : Cast → OverUnary → Option Shaped → Step
next_cast l C None = next_unary (no_sign l) C None
next_cast l C (Some t) = at_cast t.kind
  where
    at_cast : Kind → Step
    at_cast (reserved the.As) = to (depth_unary C) (want_cast l t.place C)
    at_cast _ = next_unary (no_sign l) C (Some t)

abbrev pub next_reference : Reference → OverReference → Option Shaped → Step
next_reference x (cast_first C) = next_cast (cast_one x) C
next_reference x (object_of h p C) = next_reference (of_object h p x) C

abbrev pub next_term : Term → OverReference → Option Shaped → Step
next_term x C None = next_reference (no_object x) C None
next_term x C (Some t) = at_term t.kind
  where
    at_term : Kind → Step
    at_term (reserved the.Of) = to (depth_reference C) (want_reference (object_of x t.place C))
    at_term _ = next_reference (no_object x) C (Some t)

abbrev pub next_primary : Primary → OverReference → Option Shaped → Step
next_primary x C None = next_term (no_filter x) C None
next_primary x C (Some t) = at_primary t.kind
  where
    at_primary : Kind → Step
    at_primary (reserved the.Whose) = to (depth_reference C) (want_filter x t.place C)
    at_primary _ = next_term (no_filter x) C (Some t)

-- What a part begins with.
abbrev pub begin_primary : OverReference → Option Shaped → Step
begin_primary C None = fails
begin_primary C (Some t) = at_begin t.kind
  where
    at_begin : Kind → Step
    at_begin (number n) = to (depth_reference C) (after_primary (a_number t.place n) C)
    at_begin (string s) = to (depth_reference C) (after_primary (a_string t.place s) C)
    at_begin (reserved the.It) = to (depth_reference C) (after_primary (an_it t.place) C)
    at_begin (word w) = to (depth_reference C) (in_words (one_word t.place w) C)
    at_begin (sign lex.OpenBracket) = to (depth_reference C + 1) (want_choice (tuple_first (collection_first (in_brackets t.place C))))
    at_begin _ = fails

abbrev pub begin_unary : OverUnary → Option Shaped → Step
begin_unary C None = fails
begin_unary C (Some t) = at_unary t.kind
  where
    at_unary : Kind → Step
    at_unary (reserved the.Not) = to (depth_unary C + 1) (want_unary (under_sign t.place one_operand.Not C))
    at_unary (reserved the.Exists) = to (depth_unary C + 1) (want_unary (under_sign t.place one_operand.Exists C))
    at_unary (reserved the.Exist) = to (depth_unary C + 1) (want_unary (under_sign t.place one_operand.Exist C))
    at_unary (sign lex.Minus) = to (depth_unary C + 1) (want_unary (under_sign t.place one_operand.Minus C))
    at_unary _ = begin_primary (cast_first C) (Some t)

abbrev pub begin_choice : OverChoice → Option Shaped → Step
begin_choice C None = fails
begin_choice C (Some t) = at_choice t.kind
  where
    at_choice : Kind → Step
    at_choice (reserved the.If) = to (depth_choice C + 1) (want_choice (tuple_first (collection_first (in_test t.place C))))
    at_choice _ = begin_unary (over_choice C) (Some t)

-- After words: another, an argument, or what follows a name.
abbrev pub next_word : Words → OverReference → Option Shaped → Step
next_word ws C None = next_primary (some_words ws) C None
next_word ws C (Some t) = at_word t.kind
  where
    at_word : Kind → Step
    at_word (word w) = to (depth_reference C) (in_words (more_words ws t.place w) C)
    at_word (number n) = to (depth_reference C) (after_primary (with_argument ws (argument_number t.place n)) C)
    at_word (string s) = to (depth_reference C) (after_primary (with_argument ws (argument_string t.place s)) C)
    at_word (sign lex.OpenBracket) = to (depth_reference C + 1) (want_choice (tuple_first (collection_first (in_argument ws t.place C))))
    at_word _ = next_primary (some_words ws) C (Some t)

abbrev pub begin_filter : Primary → Place → OverReference → Option Shaped → Step
begin_filter x w C None = fails
begin_filter x w C (Some t) = at_filter t.kind
  where
    at_filter : Kind → Step
    at_filter (sign lex.OpenBracket) = to (depth_reference C + 1) (want_choice (tuple_first (collection_first (in_filter x w t.place C))))
    at_filter _ = fails

abbrev pub begin_cast : Cast → Place → OverUnary → Option Shaped → Step
begin_cast l p C None = fails
begin_cast l p C (Some t) = at_first t.kind
  where
    at_first : Kind → Step
    at_first (word w) = to (depth_unary C) (in_cast l p (one_word t.place w) C)
    at_first _ = fails

abbrev pub next_cast_word : Cast → Place → Words → OverUnary → Option Shaped → Step
next_cast_word l p ws C None = next_cast (cast_more l p ws) C None
next_cast_word l p ws C (Some t) = at_next t.kind
  where
    at_next : Kind → Step
    at_next (word w) = to (depth_unary C) (in_cast l p (more_words ws t.place w) C)
    at_next _ = next_cast (cast_more l p ws) C (Some t)

-- After the first words of a relation's sign, with which only `is` and `is not` may be whole.
abbrev pub left_of_relop : Sum → Partial → OverRelation → Option Shaped → Step
left_of_relop s (read_is p) C = begin_unary (over_sum (right_side s (is_alone p) C))
left_of_relop s (read_is_not p q) C = begin_unary (over_sum (right_side s (is_not p q) C))
left_of_relop s x C = λ t. fails

abbrev pub next_relop : Sum → Partial → OverRelation → Option Shaped → Step
next_relop s x C None = fails
next_relop s x C (Some t) = at_heard (hear x t.place t.kind)
  where
    at_heard : Heard → Step
    at_heard (goes_on y) = to (depth_relation C) (in_relop s y C)
    at_heard (is_whole r) = to (depth_relation C) (want_unary (over_sum (right_side s r C)))
    at_heard no_more = left_of_relop s x C (Some t)

abbrev pub step : State → Option Shaped → Step
step (want_choice C) = begin_choice C
step (want_unary C) = begin_unary C
step (want_reference C) = begin_primary C
step (in_words ws C) = next_word ws C
step (after_primary x C) = next_primary x C
step (want_filter x w C) = begin_filter x w C
step (after_term x C) = next_term x C
step (want_cast l p C) = begin_cast l p C
step (in_cast l p ws C) = next_cast_word l p ws C
step (in_relop s x C) = next_relop s x C

-- What a run ends in: a reading, or what is left from the first token that is wrong.
pub data Outcome : Type 0 where
  reading : Collection → Outcome
  wrong : List Shaped → Outcome

abbrev pub concluded : Step → Outcome
concluded (to d s) = wrong []
concluded (accepts q) = reading q
concluded fails = wrong []

abbrev pub followed : List Shaped → (State → Outcome) → Step → Outcome
followed left more (to d s) = more s
followed left more (accepts q) = wrong left
followed left more fails = wrong left

abbrev pub go_on : (Option Shaped → Step) → List Shaped → Outcome
go_on f [] = concluded (f None)
go_on f (t ∷ ts) = followed (t ∷ ts) (λ s. go_on (step s) ts) (f (Some t))

abbrev pub begin_collection : OverCollection → Option Shaped → Step
begin_collection C = begin_choice (tuple_first (collection_first C))

abbrev pub start : State
start = want_choice (tuple_first (collection_first whole))

-- The same with the limit on depth.
pub data Answer : Type 0 where
  parsed : Collection → Answer
  no_parse : List Shaped → Answer
  too_deep : List Shaped → Answer

abbrev pub ended : Step → Answer
ended (to d s) = no_parse []
ended (accepts q) = parsed q
ended fails = no_parse []

abbrev pub taken : List Shaped → (State → Answer) → Step → Answer
taken left more (to d s) = cond (nat_lt deepest d) (too_deep left) (more s)
taken left more (accepts q) = no_parse left
taken left more fails = no_parse left

abbrev pub go : (Option Shaped → Step) → List Shaped → Answer
go f [] = ended (f None)
go f (t ∷ ts) = taken (t ∷ ts) (λ s. go (step s) ts) (f (Some t))
