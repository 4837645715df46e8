-- The grammar, a type for each of its rules. A value of such a type is a reading: it holds each token's place.
--
--   question   := collection
--   collection := tuple { ";" tuple }
--   tuple      := choice { "," choice }
--   choice     := "if" collection "then" collection "else" choice | bar
--   bar        := either { "|" either }
--   either     := both { "or" both }
--   both       := relation { "and" relation }
--   relation   := sum [ relop sum ]
--   sum        := product { ("+" | "-" | "&") product }
--   product    := unary { ("*" | "/" | "mod") unary }
--   unary      := ("not" | "exists" | "exist" | "-") unary | cast
--   cast       := reference { "as" words }
--   reference  := term [ "of" reference ]
--   term       := primary [ "whose" "(" collection ")" ]
--   primary    := number | string | "it" | "(" collection ")" | words [ argument ]
--   argument   := number | string | "(" collection ")"
--   words      := word { word }
--   relop      := = | != | < | <= | > | >= | is | is not | is contained by | is not contained by | contains
--                 | starts with | ends with | does not contain | does not start with | does not end with
use Rattle.std.specs.Prelude.{ℕ, ℤ, List}
use Rattle.rel_lexer.specs.declared.place.Place.{Place}
use Rattle.rel_lexer.specs.declared.operator.UnarySign.{UnarySign}
use Rattle.rel_grammar.specs.Shapes.{AnyWord}

pub data Words : Type 0 where
  one_word : Place → AnyWord → Words
  more_words : Words → Place → AnyWord → Words

-- the relations that are one sign
pub data Comparison : Type 0 where
  equals : Comparison
  differs : Comparison
  below : Comparison
  at_most : Comparison
  above : Comparison
  at_least : Comparison

-- the signs of a relation, with the place of each of their words
pub data Relop : Type 0 where
  compares : Place → Comparison → Relop
  is_alone : Place → Relop
  is_not : Place → Place → Relop
  is_contained_by : Place → Place → Place → Relop
  is_not_contained_by : Place → Place → Place → Place → Relop
  contains : Place → Relop
  starts_with : Place → Place → Relop
  ends_with : Place → Place → Relop
  does_not_contain : Place → Place → Place → Relop
  does_not_start_with : Place → Place → Place → Place → Relop
  does_not_end_with : Place → Place → Place → Place → Relop

pub data SumSign : Type 0 where
  plus : SumSign
  minus : SumSign
  join : SumSign

pub data ProductSign : Type 0 where
  times : ProductSign
  over : ProductSign
  modulo : ProductSign

mutual
  pub data Collection : Type 0 where
    collection_one : Tuple → Collection
    collection_more : Collection → Place → Tuple → Collection

  pub data Tuple : Type 0 where
    tuple_one : Choice → Tuple
    tuple_more : Tuple → Place → Choice → Tuple

  pub data Choice : Type 0 where
    if_then : Place → Collection → Place → Collection → Place → Choice → Choice
    no_if : Bar → Choice

  pub data Bar : Type 0 where
    bar_one : Either → Bar
    bar_more : Bar → Place → Either → Bar

  pub data Either : Type 0 where
    either_one : Both → Either
    either_more : Either → Place → Both → Either

  pub data Both : Type 0 where
    both_one : Relation → Both
    both_more : Both → Place → Relation → Both

  pub data Relation : Type 0 where
    no_relop : Sum → Relation
    relates : Sum → Relop → Sum → Relation

  pub data Sum : Type 0 where
    sum_one : Product → Sum
    sum_more : Sum → Place → SumSign → Product → Sum

  pub data Product : Type 0 where
    product_one : Unary → Product
    product_more : Product → Place → ProductSign → Unary → Product

  pub data Unary : Type 0 where
    signed : Place → UnarySign → Unary → Unary
    no_sign : Cast → Unary

  pub data Cast : Type 0 where
    cast_one : Reference → Cast
    cast_more : Cast → Place → Words → Cast

  pub data Reference : Type 0 where
    no_object : Term → Reference
    of_object : Term → Place → Reference → Reference

  -- the places are those of `whose` and of the two brackets
  pub data Term : Type 0 where
    no_filter : Primary → Term
    filtered : Primary → Place → Place → Collection → Place → Term

  pub data Primary : Type 0 where
    a_number : Place → ℤ → Primary
    a_string : Place → List ℕ → Primary
    an_it : Place → Primary
    brackets : Place → Collection → Place → Primary
    some_words : Words → Primary
    with_argument : Words → Argument → Primary

  pub data Argument : Type 0 where
    argument_number : Place → ℤ → Argument
    argument_string : Place → List ℕ → Argument
    argument_brackets : Place → Collection → Place → Argument

abbrev pub Question : Type 0
Question = Collection
