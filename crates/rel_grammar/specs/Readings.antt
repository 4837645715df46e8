-- Readings by any rule that gives a tree, so that what holds of each of them can be said once.
use Rattle.std.specs.Prelude.{ℕ, List}
use Rattle.rel_grammar.specs.Grammar.{Collection, Tuple, Choice, Bar, Either, Both, Relation, Sum, Product, Unary, Cast, Reference, Term, Primary}
use Rattle.rel_grammar.specs.Spelling.{Mark, collection_marks, tuple_marks, choice_marks, bar_marks, either_marks, both_marks, relation_marks, sum_marks, product_marks, unary_marks, cast_marks, reference_marks, term_marks, primary_marks}
use Rattle.rel_grammar.specs.Trees.{Plain, collection_tree, tuple_tree, choice_tree, bar_tree, either_tree, both_tree, relation_tree, sum_tree, product_tree, unary_tree, cast_tree, reference_tree, term_tree, primary_tree}

-- A filter, and an argument, is read as a primary is.
pub data Reading : Type 0 where
  a_collection : Collection → Reading
  a_tuple : Tuple → Reading
  a_choice : Choice → Reading
  a_bar : Bar → Reading
  an_either : Either → Reading
  a_both : Both → Reading
  a_relation : Relation → Reading
  a_sum : Sum → Reading
  a_product : Product → Reading
  a_unary : Unary → Reading
  a_cast : Cast → Reading
  a_reference : Reference → Reading
  a_term : Term → Reading
  a_primary : Primary → Reading

-- its tokens, each with its depth
abbrev pub reading_marks : ℕ → Reading → List Mark
reading_marks d (a_collection x) = collection_marks d x
reading_marks d (a_tuple x) = tuple_marks d x
reading_marks d (a_choice x) = choice_marks d x
reading_marks d (a_bar x) = bar_marks d x
reading_marks d (an_either x) = either_marks d x
reading_marks d (a_both x) = both_marks d x
reading_marks d (a_relation x) = relation_marks d x
reading_marks d (a_sum x) = sum_marks d x
reading_marks d (a_product x) = product_marks d x
reading_marks d (a_unary x) = unary_marks d x
reading_marks d (a_cast x) = cast_marks d x
reading_marks d (a_reference x) = reference_marks d x
reading_marks d (a_term x) = term_marks d x
reading_marks d (a_primary x) = primary_marks d x

-- its tree
abbrev pub reading_tree : Reading → Plain
reading_tree (a_collection x) = collection_tree x
reading_tree (a_tuple x) = tuple_tree x
reading_tree (a_choice x) = choice_tree x
reading_tree (a_bar x) = bar_tree x
reading_tree (an_either x) = either_tree x
reading_tree (a_both x) = both_tree x
reading_tree (a_relation x) = relation_tree x
reading_tree (a_sum x) = sum_tree x
reading_tree (a_product x) = product_tree x
reading_tree (a_unary x) = unary_tree x
reading_tree (a_cast x) = cast_tree x
reading_tree (a_reference x) = reference_tree x
reading_tree (a_term x) = term_tree x
reading_tree (a_primary x) = primary_tree x
