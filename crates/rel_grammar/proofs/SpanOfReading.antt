-- The tree of a reading begins with its first token and ends with its last.
use Rattle.std.proofs.Common.{◌≡◌, ℕ, ◌+◌, List, [], ◌∷◌, ◌++◌, refl, sym, ap, ◌∙◌, subst, append_assoc}
use Rattle.std.proofs.lemmas.List.{map-append}
use Rattle.rel_grammar.specs.declared.casts.CastTo.{CastTo}
use Rattle.rel_grammar.specs.Shapes.{Shaped}
use Rattle.rel_grammar.specs.Grammar.{Words, one_word, more_words, Collection, collection_one, collection_more, Tuple, tuple_one, tuple_more, Choice, if_then, no_if, Bar, bar_one, bar_more, Either, either_one, either_more, Both, both_one, both_more, Relation, no_relop, relates, Sum, sum_one, sum_more, Product, product_one, product_more, Unary, signed, no_sign, Cast, cast_one, cast_more, Reference, no_object, of_object, Term, no_filter, filtered, Primary, a_number, a_string, an_it, brackets, some_words, with_argument, Argument, argument_number, argument_string, argument_brackets, Question}
use Rattle.rel_grammar.specs.Spelling.{Mark, words_marks, relop_marks, collection_marks, tuple_marks, choice_marks, bar_marks, either_marks, both_marks, relation_marks, sum_marks, product_marks, unary_marks, cast_marks, reference_marks, term_marks, primary_marks, argument_marks, shapes_of}
use Rattle.rel_grammar.specs.Sentences.{Sentence}
use Rattle.rel_grammar.specs.Readings.{Reading, a_collection, a_tuple, a_choice, a_bar, an_either, a_both, a_relation, a_sum, a_product, a_unary, a_cast, a_reference, a_term, a_primary, reading_marks, reading_tree}
use Rattle.rel_grammar.specs.Trees.{Plain, numeral, literal, it, phrase, body, with_filter, with_object, words_from, words_to, words_place, words_text, argument_to, collection_tree, collection_parts, tuple_tree, tuple_parts, choice_tree, bar_tree, bar_head, either_tree, either_head, both_tree, both_head, relation_tree, sum_tree, sum_head, product_tree, product_head, unary_tree, cast_tree, cast_head, cast_list, reference_tree, term_tree, primary_tree, question_tree}
use Rattle.rel_grammar.specs.Spans.{begin_of, end_of, parts_begin, casts_end, span_of_tree, Spans}

-- These tokens begin at this byte.
record Starts (ms : List Mark) (n : ℕ) : Type 0 where
  pub first : Mark
  pub more : List Mark
  pub is : ms ≡ first ∷ more
  pub at : n ≡ first.token.place.from

-- They end before this byte.
record Stops (ms : List Mark) (n : ℕ) : Type 0 where
  pub before : List Mark
  pub last : Mark
  pub is : ms ≡ before ++ (last ∷ [])
  pub at : n ≡ last.token.place.to

here : (m : Mark) (ms : List Mark) → Starts (m ∷ ms) m.token.place.from
here m ms = record { first = m; more = ms; is = refl; at = refl }

also : (a b : List Mark) (n : ℕ) → Starts a n → Starts (a ++ b) n
also a b n s = record { first = s.first; more = s.more ++ b; is = ap (λ l. l ++ b) s.is; at = s.at }

there : (m : Mark) → Stops (m ∷ []) m.token.place.to
there m = record { before = []; last = m; is = refl; at = refl }

past : (m : Mark) (ms : List Mark) (n : ℕ) → Stops ms n → Stops (m ∷ ms) n
past m ms n s = record { before = m ∷ s.before; last = s.last; is = ap (λ l. m ∷ l) s.is; at = s.at }

behind : (a b : List Mark) (n : ℕ) → Stops b n → Stops (a ++ b) n
behind a b n s = record { before = a ++ s.before; last = s.last; is = ap (λ l. a ++ l) s.is ∙ sym (append_assoc a s.before (s.last ∷ [])); at = s.at }

begin-filter : (t f : Plain) → begin_of (with_filter t f) ≡ begin_of t
begin-filter (numeral p n) f = refl
begin-filter (literal p n) f = refl
begin-filter (it p) f = refl
begin-filter (phrase p w a g o) f = refl
begin-filter (body p b g o) f = refl
begin-filter _ f = refl

begin-object : (t f : Plain) → begin_of (with_object t f) ≡ begin_of t
begin-object (numeral p n) f = refl
begin-object (literal p n) f = refl
begin-object (it p) f = refl
begin-object (phrase p w a g o) f = refl
begin-object (body p b g o) f = refl
begin-object _ f = refl

end-filter : (x : Primary) (f : Plain) → end_of (with_filter (primary_tree x) f) ≡ end_of f
end-filter (a_number p n) f = refl
end-filter (a_string p t) f = refl
end-filter (an_it p) f = refl
end-filter (brackets p q c) f = refl
end-filter (some_words ws) f = refl
end-filter (with_argument ws a) f = refl

end-object-bare : (x : Primary) (o : Plain) → end_of (with_object (primary_tree x) o) ≡ end_of o
end-object-bare (a_number p n) f = refl
end-object-bare (a_string p t) f = refl
end-object-bare (an_it p) f = refl
end-object-bare (brackets p q c) f = refl
end-object-bare (some_words ws) f = refl
end-object-bare (with_argument ws a) f = refl

end-object-filtered : (x : Primary) (f o : Plain) → end_of (with_object (with_filter (primary_tree x) f) o) ≡ end_of o
end-object-filtered (a_number p n) f o = refl
end-object-filtered (a_string p t) f o = refl
end-object-filtered (an_it p) f o = refl
end-object-filtered (brackets p q c) f o = refl
end-object-filtered (some_words ws) f o = refl
end-object-filtered (with_argument ws a) f o = refl

end-casts : (at : ℕ) (cs : List CastTo) (c : CastTo) → casts_end at (cs ++ (c ∷ [])) ≡ c.place.to
end-casts at [] c = refl
end-casts at (x ∷ xs) c = end-casts x.place.to xs c

b_words : (d : ℕ) (ws : Words) → Starts (words_marks d ws) (words_from ws)
b_words d (one_word p w) = here _ []
b_words d (more_words ws p w) = also (words_marks d ws) _ _ (b_words d ws)

b_primary : (d : ℕ) (x : Primary) → Starts (primary_marks d x) (begin_of (primary_tree x))
b_primary d (a_number p n) = here _ []
b_primary d (a_string p t) = here _ []
b_primary d (an_it p) = here _ []
b_primary d (brackets p q c) = here _ _
b_primary d (some_words ws) = b_words d ws
b_primary d (with_argument ws a) = also (words_marks d ws) _ _ (b_words d ws)

b_term : (d : ℕ) (x : Term) → Starts (term_marks d x) (begin_of (term_tree x))
b_term d (no_filter x) = b_primary d x
b_term d (filtered x w p q c) = subst (λ n. Starts (term_marks d (filtered x w p q c)) n) (sym (begin-filter (primary_tree x) _)) (also (primary_marks d x) _ _ (b_primary d x))

b_reference : (d : ℕ) (x : Reference) → Starts (reference_marks d x) (begin_of (reference_tree x))
b_reference d (no_object x) = b_term d x
b_reference d (of_object x p r) = subst (λ n. Starts (reference_marks d (of_object x p r)) n) (sym (begin-object (term_tree x) _)) (also (term_marks d x) _ _ (b_term d x))

b_casts : (d : ℕ) (x : Cast) → Starts (cast_marks d x) (begin_of (cast_head x))
b_casts d (cast_one x) = b_reference d x
b_casts d (cast_more l p ws) = also (cast_marks d l) _ _ (b_casts d l)

b_cast : (d : ℕ) (x : Cast) → Starts (cast_marks d x) (begin_of (cast_tree x))
b_cast d (cast_one x) = b_reference d x
b_cast d (cast_more l p ws) = also (cast_marks d l) _ _ (b_casts d l)

b_unary : (d : ℕ) (x : Unary) → Starts (unary_marks d x) (begin_of (unary_tree x))
b_unary d (signed p s x) = here _ _
b_unary d (no_sign x) = b_cast d x

b_products : (d : ℕ) (x : Product) → Starts (product_marks d x) (begin_of (product_head x))
b_products d (product_one x) = b_unary d x
b_products d (product_more l p s x) = also (product_marks d l) _ _ (b_products d l)

b_product : (d : ℕ) (x : Product) → Starts (product_marks d x) (begin_of (product_tree x))
b_product d (product_one x) = b_unary d x
b_product d (product_more l p s x) = also (product_marks d l) _ _ (b_products d l)

b_sums : (d : ℕ) (x : Sum) → Starts (sum_marks d x) (begin_of (sum_head x))
b_sums d (sum_one x) = b_product d x
b_sums d (sum_more l p s x) = also (sum_marks d l) _ _ (b_sums d l)

b_sum : (d : ℕ) (x : Sum) → Starts (sum_marks d x) (begin_of (sum_tree x))
b_sum d (sum_one x) = b_product d x
b_sum d (sum_more l p s x) = also (sum_marks d l) _ _ (b_sums d l)

b_relation : (d : ℕ) (x : Relation) → Starts (relation_marks d x) (begin_of (relation_tree x))
b_relation d (no_relop s) = b_sum d s
b_relation d (relates s r t) = also (sum_marks d s) _ _ (b_sum d s)

b_boths : (d : ℕ) (x : Both) → Starts (both_marks d x) (begin_of (both_head x))
b_boths d (both_one x) = b_relation d x
b_boths d (both_more l p x) = also (both_marks d l) _ _ (b_boths d l)

b_both : (d : ℕ) (x : Both) → Starts (both_marks d x) (begin_of (both_tree x))
b_both d (both_one x) = b_relation d x
b_both d (both_more l p x) = also (both_marks d l) _ _ (b_boths d l)

b_eithers : (d : ℕ) (x : Either) → Starts (either_marks d x) (begin_of (either_head x))
b_eithers d (either_one x) = b_both d x
b_eithers d (either_more l p x) = also (either_marks d l) _ _ (b_eithers d l)

b_either : (d : ℕ) (x : Either) → Starts (either_marks d x) (begin_of (either_tree x))
b_either d (either_one x) = b_both d x
b_either d (either_more l p x) = also (either_marks d l) _ _ (b_eithers d l)

b_bars : (d : ℕ) (x : Bar) → Starts (bar_marks d x) (begin_of (bar_head x))
b_bars d (bar_one x) = b_either d x
b_bars d (bar_more l p x) = also (bar_marks d l) _ _ (b_bars d l)

b_bar : (d : ℕ) (x : Bar) → Starts (bar_marks d x) (begin_of (bar_tree x))
b_bar d (bar_one x) = b_either d x
b_bar d (bar_more l p x) = also (bar_marks d l) _ _ (b_bars d l)

b_choice : (d : ℕ) (x : Choice) → Starts (choice_marks d x) (begin_of (choice_tree x))
b_choice d (if_then p t o y e n) = here _ _
b_choice d (no_if x) = b_bar d x

b_tuples : (d : ℕ) (x : Tuple) (at : ℕ) → Starts (tuple_marks d x) (parts_begin (tuple_parts x) at)
b_tuples d (tuple_one x) at = b_choice d x
b_tuples d (tuple_more l p x) at = also (tuple_marks d l) _ _ (b_tuples d l (begin_of (choice_tree x)))

b_tuple : (d : ℕ) (x : Tuple) → Starts (tuple_marks d x) (begin_of (tuple_tree x))
b_tuple d (tuple_one x) = b_choice d x
b_tuple d (tuple_more l p x) = also (tuple_marks d l) _ _ (b_tuples d l (begin_of (choice_tree x)))

b_collections : (d : ℕ) (x : Collection) (at : ℕ) → Starts (collection_marks d x) (parts_begin (collection_parts x) at)
b_collections d (collection_one x) at = b_tuple d x
b_collections d (collection_more l p x) at = also (collection_marks d l) _ _ (b_collections d l (begin_of (tuple_tree x)))

b_collection : (d : ℕ) (x : Collection) → Starts (collection_marks d x) (begin_of (collection_tree x))
b_collection d (collection_one x) = b_tuple d x
b_collection d (collection_more l p x) = also (collection_marks d l) _ _ (b_collections d l (begin_of (tuple_tree x)))

e_words : (d : ℕ) (ws : Words) → Stops (words_marks d ws) (words_to ws)
e_words d (one_word p w) = there _
e_words d (more_words ws p w) = behind (words_marks d ws) _ _ (there _)

e_argument : (d : ℕ) (x : Argument) → Stops (argument_marks d x) (argument_to x)
e_argument d (argument_number p n) = there _
e_argument d (argument_string p t) = there _
e_argument d (argument_brackets p q c) = past _ _ _ (behind (collection_marks (d + 1) q) _ _ (there _))

e_primary : (d : ℕ) (x : Primary) → Stops (primary_marks d x) (end_of (primary_tree x))
e_primary d (a_number p n) = there _
e_primary d (a_string p t) = there _
e_primary d (an_it p) = there _
e_primary d (brackets p q c) = past _ _ _ (behind (collection_marks (d + 1) q) _ _ (there _))
e_primary d (some_words ws) = e_words d ws
e_primary d (with_argument ws a) = behind (words_marks d ws) _ _ (e_argument d a)

e_term : (d : ℕ) (x : Term) → Stops (term_marks d x) (end_of (term_tree x))
e_term d (no_filter x) = e_primary d x
e_term d (filtered x w p q c) = subst (λ n. Stops (term_marks d (filtered x w p q c)) n) (sym (end-filter x _)) (behind (primary_marks d x) _ _ (past _ _ _ (past _ _ _ (behind (collection_marks (d + 1) q) _ _ (there _)))))

end-object : (x : Term) (o : Plain) → end_of (with_object (term_tree x) o) ≡ end_of o
end-object (no_filter x) o = end-object-bare x o
end-object (filtered x w p q c) o = end-object-filtered x _ o

e_reference : (d : ℕ) (x : Reference) → Stops (reference_marks d x) (end_of (reference_tree x))
e_reference d (no_object x) = e_term d x
e_reference d (of_object x p r) = subst (λ n. Stops (reference_marks d (of_object x p r)) n) (sym (end-object x _)) (behind (term_marks d x) _ _ (past _ _ _ (e_reference (d + 1) r)))

e_cast : (d : ℕ) (x : Cast) → Stops (cast_marks d x) (end_of (cast_tree x))
e_cast d (cast_one x) = e_reference d x
e_cast d (cast_more l p ws) = subst (λ n. Stops (cast_marks d (cast_more l p ws)) n) (sym (end-casts (end_of (cast_head l)) (cast_list l) (record { place = words_place ws; words = words_text ws }))) (behind (cast_marks d l) _ _ (past _ _ _ (e_words d ws)))

e_unary : (d : ℕ) (x : Unary) → Stops (unary_marks d x) (end_of (unary_tree x))
e_unary d (signed p s x) = past _ _ _ (e_unary (d + 1) x)
e_unary d (no_sign x) = e_cast d x

e_product : (d : ℕ) (x : Product) → Stops (product_marks d x) (end_of (product_tree x))
e_product d (product_one x) = e_unary d x
e_product d (product_more l p s x) = behind (product_marks d l) _ _ (past _ _ _ (e_unary d x))

e_sum : (d : ℕ) (x : Sum) → Stops (sum_marks d x) (end_of (sum_tree x))
e_sum d (sum_one x) = e_product d x
e_sum d (sum_more l p s x) = behind (sum_marks d l) _ _ (past _ _ _ (e_product d x))

e_relation : (d : ℕ) (x : Relation) → Stops (relation_marks d x) (end_of (relation_tree x))
e_relation d (no_relop s) = e_sum d s
e_relation d (relates s r t) = behind (sum_marks d s) _ _ (behind (relop_marks d r) _ _ (e_sum d t))

e_both : (d : ℕ) (x : Both) → Stops (both_marks d x) (end_of (both_tree x))
e_both d (both_one x) = e_relation d x
e_both d (both_more l p x) = behind (both_marks d l) _ _ (past _ _ _ (e_relation d x))

e_either : (d : ℕ) (x : Either) → Stops (either_marks d x) (end_of (either_tree x))
e_either d (either_one x) = e_both d x
e_either d (either_more l p x) = behind (either_marks d l) _ _ (past _ _ _ (e_both d x))

e_bar : (d : ℕ) (x : Bar) → Stops (bar_marks d x) (end_of (bar_tree x))
e_bar d (bar_one x) = e_either d x
e_bar d (bar_more l p x) = behind (bar_marks d l) _ _ (past _ _ _ (e_either d x))

e_choice : (d : ℕ) (x : Choice) → Stops (choice_marks d x) (end_of (choice_tree x))
e_choice d (if_then p t o y e n) = past _ _ _ (behind (collection_marks (d + 1) t) _ _ (past _ _ _ (behind (collection_marks (d + 1) y) _ _ (past _ _ _ (e_choice (d + 1) n)))))
e_choice d (no_if x) = e_bar d x

e_tuple : (d : ℕ) (x : Tuple) → Stops (tuple_marks d x) (end_of (tuple_tree x))
e_tuple d (tuple_one x) = e_choice d x
e_tuple d (tuple_more l p x) = behind (tuple_marks d l) _ _ (past _ _ _ (e_choice d x))

e_collection : (d : ℕ) (x : Collection) → Stops (collection_marks d x) (end_of (collection_tree x))
e_collection d (collection_one x) = e_tuple d x
e_collection d (collection_more l p x) = behind (collection_marks d l) _ _ (past _ _ _ (e_tuple d x))

spans_of : (ms : List Mark) (t : Plain) → Starts ms (begin_of t) → Stops ms (end_of t) → Spans (shapes_of ms) (span_of_tree t)
spans_of ms t b l = record {
  first = b.first.token;
  more = shapes_of b.more;
  begins = ap shapes_of b.is;
  from = b.at;
  before = shapes_of l.before;
  last = l.last.token;
  ends = ap shapes_of l.is ∙ map-append (λ m. m.token) l.before (l.last ∷ []);
  to = l.at;
}

pub reading_spans : (d : ℕ) (x : Reading) → Spans (shapes_of (reading_marks d x)) (span_of_tree (reading_tree x))
reading_spans d (a_collection x) = spans_of _ (collection_tree x) (b_collection d x) (e_collection d x)
reading_spans d (a_tuple x) = spans_of _ (tuple_tree x) (b_tuple d x) (e_tuple d x)
reading_spans d (a_choice x) = spans_of _ (choice_tree x) (b_choice d x) (e_choice d x)
reading_spans d (a_bar x) = spans_of _ (bar_tree x) (b_bar d x) (e_bar d x)
reading_spans d (an_either x) = spans_of _ (either_tree x) (b_either d x) (e_either d x)
reading_spans d (a_both x) = spans_of _ (both_tree x) (b_both d x) (e_both d x)
reading_spans d (a_relation x) = spans_of _ (relation_tree x) (b_relation d x) (e_relation d x)
reading_spans d (a_sum x) = spans_of _ (sum_tree x) (b_sum d x) (e_sum d x)
reading_spans d (a_product x) = spans_of _ (product_tree x) (b_product d x) (e_product d x)
reading_spans d (a_unary x) = spans_of _ (unary_tree x) (b_unary d x) (e_unary d x)
reading_spans d (a_cast x) = spans_of _ (cast_tree x) (b_cast d x) (e_cast d x)
reading_spans d (a_reference x) = spans_of _ (reference_tree x) (b_reference d x) (e_reference d x)
reading_spans d (a_term x) = spans_of _ (term_tree x) (b_term d x) (e_term d x)
reading_spans d (a_primary x) = spans_of _ (primary_tree x) (b_primary d x) (e_primary d x)

pub question_spans : (tokens : List Shaped) (q : Question) → Sentence tokens q → Spans tokens (span_of_tree (question_tree q))
question_spans tokens q e = subst (λ ts. Spans ts (span_of_tree (question_tree q))) (sym e) (reading_spans 0 (a_collection q))
