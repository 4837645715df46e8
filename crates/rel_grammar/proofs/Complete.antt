-- The machine reads each sentence.
use Rattle.std.proofs.Common.{◌≡◌, ℕ, ◌+◌, ◌≤◌, ◌<◌, List, [], ◌∷◌, ◌++◌, Option, refl, sym, ◌∙◌, ap, arith}
use Rattle.rel_lexer.specs.declared.place.Place.{Place}
use Rattle.rel_lexer.specs.declared.sign.Sign.TheVariants as lex
use Rattle.rel_lexer.specs.declared.operator.UnarySign.{UnarySign}
use Rattle.rel_lexer.specs.declared.operator.UnarySign.TheVariants as one_operand
use Rattle.rel_grammar.specs.declared.vocabulary.Reserved.TheVariants as the
use Rattle.rel_grammar.specs.Shapes.{Kind, sign, reserved, not_of_is, word, number, string, Shaped}
use Rattle.rel_grammar.specs.Grammar.{Words, one_word, more_words, Comparison, equals, differs, below, at_most, above, at_least, Relop, compares, is_alone, is_not, is_contained_by, is_not_contained_by, contains, starts_with, ends_with, does_not_contain, does_not_start_with, does_not_end_with, SumSign, plus, minus, join, ProductSign, times, over, modulo, Collection, collection_one, collection_more, Tuple, tuple_one, tuple_more, Choice, if_then, no_if, Bar, bar_one, bar_more, Either, either_one, either_more, Both, both_one, both_more, Relation, no_relop, relates, Sum, sum_one, sum_more, Product, product_one, product_more, Unary, signed, no_sign, Cast, cast_one, cast_more, Reference, no_object, of_object, Term, no_filter, filtered, Primary, a_number, a_string, an_it, brackets, some_words, with_argument, Argument, argument_number, argument_string, argument_brackets, Question}
use Rattle.rel_grammar.specs.Spelling.{Mark, mark, comparison_kind, sum_kind, product_kind, unary_kind, words_marks, relop_marks, collection_marks, tuple_marks, choice_marks, bar_marks, either_marks, both_marks, relation_marks, sum_marks, product_marks, unary_marks, cast_marks, reference_marks, term_marks, primary_marks, argument_marks, shapes_of}
use Rattle.rel_grammar.specs.Machine.{OverCollection, whole, in_brackets, in_argument, in_filter, in_test, in_yes, OverTuple, collection_first, collection_next, OverChoice, tuple_first, tuple_next, in_no, OverBar, under_no_if, OverEither, bar_first, bar_next, OverBoth, either_first, either_next, OverRelation, both_first, both_next, OverSum, left_side, right_side, OverProduct, sum_first, sum_next, OverUnary, product_first, product_next, under_sign, OverReference, cast_first, object_of, read_is, read_is_not, Step, over_product, over_sum, over_relation, over_both, over_either, over_choice, next_collection, end_tuple, next_tuple, next_choice, end_bar, next_bar, end_either, next_either, end_both, next_both, next_relation, end_sum, next_sum, end_product, next_product, next_unary, next_cast, next_reference, next_term, next_primary, begin_primary, begin_unary, begin_choice, next_word, begin_cast, next_cast_word, next_relop, begin_collection, step, start, reading, go_on}

abbrev pub tok : Kind → Place → Shaped
tok kind place = record { kind = kind; place = place }

-- how loosely a kind of token holds the parts beside it
abbrev pub rank : Kind → ℕ
rank (word w) = 1
rank (number n) = 1
rank (string t) = 1
rank (sign lex.OpenBracket) = 1
rank (reserved the.Whose) = 2
rank (reserved the.Of) = 3
rank (reserved the.As) = 4
rank (sign lex.Times) = 5
rank (sign lex.Slash) = 5
rank (reserved the.Mod) = 5
rank (sign lex.Plus) = 6
rank (sign lex.Minus) = 6
rank (sign lex.Ampersand) = 6
rank (sign lex.Equal) = 7
rank (sign lex.NotEqual) = 7
rank (sign lex.Less) = 7
rank (sign lex.LessOrEqual) = 7
rank (sign lex.Greater) = 7
rank (sign lex.GreaterOrEqual) = 7
rank (reserved the.Is) = 7
rank (reserved the.Contains) = 7
rank (reserved the.Starts) = 7
rank (reserved the.Ends) = 7
rank (reserved the.Does) = 7
rank (reserved the.And) = 8
rank (reserved the.Or) = 9
rank (sign lex.Bar) = 10
rank (sign lex.Comma) = 11
rank _ = 12

-- The next token, if there is one, is no part of what stands before it.
abbrev pub EndsAt : ℕ → List Shaped → Type 0
EndsAt n [] = Unit {0}
EndsAt n (t ∷ ts) = n < rank t.kind

lower : (m n : ℕ) (rest : List Shaped) → m ≤ n → EndsAt n rest → EndsAt m rest
lower m n [] l h = tt
lower m n (t ∷ ts) l h = omega arith

split : (a b : List Mark) (m : Mark) (rest : List Shaped) → shapes_of (a ++ (m ∷ b)) ++ rest ≡ shapes_of a ++ (m.token ∷ (shapes_of b ++ rest))
split [] b m rest = refl
split (x ∷ a) b m rest = ap (λ l. x.token ∷ l) (split a b m rest)

split_two : (a b : List Mark) (rest : List Shaped) → shapes_of (a ++ b) ++ rest ≡ shapes_of a ++ (shapes_of b ++ rest)
split_two [] b rest = refl
split_two (x ∷ a) b rest = ap (λ l. x.token ∷ l) (split_two a b rest)

-- A token that is no part of what stands before it ends it.
ends_words_at : (k : Kind) (p : Place) (ws : Words) (C : OverReference) (ts : List Shaped) → 1 < rank k → go_on (next_word ws C) (tok k p ∷ ts) ≡ go_on (next_primary (some_words ws) C) (tok k p ∷ ts)
ends_words_at (word w) p ws C ts h = absurd (omega arith)
ends_words_at (number n) p ws C ts h = absurd (omega arith)
ends_words_at (string x) p ws C ts h = absurd (omega arith)
ends_words_at (sign lex.OpenBracket) p ws C ts h = absurd (omega arith)
ends_words_at _ p ws C ts h = refl

ends_words : (ws : Words) (C : OverReference) (rest : List Shaped) → EndsAt 1 rest → go_on (next_word ws C) rest ≡ go_on (next_primary (some_words ws) C) rest
ends_words ws C [] h = refl
ends_words ws C (t ∷ ts) h = ends_words_at t.kind t.place ws C ts h

ends_cast_words_at : (k : Kind) (p : Place) (l : Cast) (o : Place) (ws : Words) (C : OverUnary) (ts : List Shaped) → 1 < rank k → go_on (next_cast_word l o ws C) (tok k p ∷ ts) ≡ go_on (next_cast (cast_more l o ws) C) (tok k p ∷ ts)
ends_cast_words_at (word w) p l o ws C ts h = absurd (omega arith)
ends_cast_words_at _ p l o ws C ts h = refl

ends_cast_words : (l : Cast) (o : Place) (ws : Words) (C : OverUnary) (rest : List Shaped) → EndsAt 1 rest → go_on (next_cast_word l o ws C) rest ≡ go_on (next_cast (cast_more l o ws) C) rest
ends_cast_words l o ws C [] h = refl
ends_cast_words l o ws C (t ∷ ts) h = ends_cast_words_at t.kind t.place l o ws C ts h

ends_primary_at : (k : Kind) (p : Place) (x : Primary) (C : OverReference) (ts : List Shaped) → 2 < rank k → go_on (next_primary x C) (tok k p ∷ ts) ≡ go_on (next_term (no_filter x) C) (tok k p ∷ ts)
ends_primary_at (reserved the.Whose) p x C ts h = absurd (omega arith)
ends_primary_at _ p x C ts h = refl

ends_primary : (x : Primary) (C : OverReference) (rest : List Shaped) → EndsAt 2 rest → go_on (next_primary x C) rest ≡ go_on (next_term (no_filter x) C) rest
ends_primary x C [] h = refl
ends_primary x C (t ∷ ts) h = ends_primary_at t.kind t.place x C ts h

ends_term_at : (k : Kind) (p : Place) (x : Term) (C : OverReference) (ts : List Shaped) → 3 < rank k → go_on (next_term x C) (tok k p ∷ ts) ≡ go_on (next_reference (no_object x) C) (tok k p ∷ ts)
ends_term_at (reserved the.Of) p x C ts h = absurd (omega arith)
ends_term_at _ p x C ts h = refl

ends_term : (x : Term) (C : OverReference) (rest : List Shaped) → EndsAt 3 rest → go_on (next_term x C) rest ≡ go_on (next_reference (no_object x) C) rest
ends_term x C [] h = refl
ends_term x C (t ∷ ts) h = ends_term_at t.kind t.place x C ts h

ends_cast_at : (k : Kind) (p : Place) (x : Cast) (C : OverUnary) (ts : List Shaped) → 4 < rank k → go_on (next_cast x C) (tok k p ∷ ts) ≡ go_on (next_unary (no_sign x) C) (tok k p ∷ ts)
ends_cast_at (reserved the.As) p x C ts h = absurd (omega arith)
ends_cast_at _ p x C ts h = refl

ends_cast : (x : Cast) (C : OverUnary) (rest : List Shaped) → EndsAt 4 rest → go_on (next_cast x C) rest ≡ go_on (next_unary (no_sign x) C) rest
ends_cast x C [] h = refl
ends_cast x C (t ∷ ts) h = ends_cast_at t.kind t.place x C ts h

ends_bar_at : (k : Kind) (p : Place) (l : Bar) (C : OverBar) (ts : List Shaped) → 10 < rank k → go_on (next_bar l C) (tok k p ∷ ts) ≡ go_on (end_bar l C) (tok k p ∷ ts)
ends_bar_at (sign lex.Bar) p l C ts h = absurd (omega arith)
ends_bar_at _ p l C ts h = refl

ends_bar : (l : Bar) (C : OverBar) (rest : List Shaped) → EndsAt 10 rest → go_on (next_bar l C) rest ≡ go_on (end_bar l C) rest
ends_bar l C [] h = refl
ends_bar l C (t ∷ ts) h = ends_bar_at t.kind t.place l C ts h

ends_either_at : (k : Kind) (p : Place) (l : Either) (C : OverEither) (ts : List Shaped) → 9 < rank k → go_on (next_either l C) (tok k p ∷ ts) ≡ go_on (end_either l C) (tok k p ∷ ts)
ends_either_at (reserved the.Or) p l C ts h = absurd (omega arith)
ends_either_at _ p l C ts h = refl

ends_either : (l : Either) (C : OverEither) (rest : List Shaped) → EndsAt 9 rest → go_on (next_either l C) rest ≡ go_on (end_either l C) rest
ends_either l C [] h = refl
ends_either l C (t ∷ ts) h = ends_either_at t.kind t.place l C ts h

ends_both_at : (k : Kind) (p : Place) (l : Both) (C : OverBoth) (ts : List Shaped) → 8 < rank k → go_on (next_both l C) (tok k p ∷ ts) ≡ go_on (end_both l C) (tok k p ∷ ts)
ends_both_at (reserved the.And) p l C ts h = absurd (omega arith)
ends_both_at _ p l C ts h = refl

ends_both : (l : Both) (C : OverBoth) (rest : List Shaped) → EndsAt 8 rest → go_on (next_both l C) rest ≡ go_on (end_both l C) rest
ends_both l C [] h = refl
ends_both l C (t ∷ ts) h = ends_both_at t.kind t.place l C ts h

ends_sum_at : (k : Kind) (p : Place) (l : Sum) (C : OverSum) (ts : List Shaped) → 6 < rank k → go_on (next_sum l C) (tok k p ∷ ts) ≡ go_on (end_sum l C) (tok k p ∷ ts)
ends_sum_at (sign lex.Plus) p l C ts h = absurd (omega arith)
ends_sum_at (sign lex.Minus) p l C ts h = absurd (omega arith)
ends_sum_at (sign lex.Ampersand) p l C ts h = absurd (omega arith)
ends_sum_at _ p l C ts h = refl

ends_sum : (l : Sum) (C : OverSum) (rest : List Shaped) → EndsAt 6 rest → go_on (next_sum l C) rest ≡ go_on (end_sum l C) rest
ends_sum l C [] h = refl
ends_sum l C (t ∷ ts) h = ends_sum_at t.kind t.place l C ts h

ends_product_at : (k : Kind) (p : Place) (l : Product) (C : OverProduct) (ts : List Shaped) → 5 < rank k → go_on (next_product l C) (tok k p ∷ ts) ≡ go_on (end_product l C) (tok k p ∷ ts)
ends_product_at (sign lex.Times) p l C ts h = absurd (omega arith)
ends_product_at (sign lex.Slash) p l C ts h = absurd (omega arith)
ends_product_at (reserved the.Mod) p l C ts h = absurd (omega arith)
ends_product_at _ p l C ts h = refl

ends_product : (l : Product) (C : OverProduct) (rest : List Shaped) → EndsAt 5 rest → go_on (next_product l C) rest ≡ go_on (end_product l C) rest
ends_product l C [] h = refl
ends_product l C (t ∷ ts) h = ends_product_at t.kind t.place l C ts h

ends_tuple_at : (k : Kind) (p : Place) (l : Tuple) (C : OverTuple) (ts : List Shaped) → 11 < rank k → go_on (next_tuple l C) (tok k p ∷ ts) ≡ go_on (end_tuple l C) (tok k p ∷ ts)
ends_tuple_at (sign lex.Comma) p l C ts h = absurd (omega arith)
ends_tuple_at _ p l C ts h = refl

ends_tuple : (l : Tuple) (C : OverTuple) (rest : List Shaped) → EndsAt 11 rest → go_on (next_tuple l C) rest ≡ go_on (end_tuple l C) rest
ends_tuple l C [] h = refl
ends_tuple l C (t ∷ ts) h = ends_tuple_at t.kind t.place l C ts h

ends_left_at : (k : Kind) (p : Place) (s : Sum) (C : OverRelation) (ts : List Shaped) → 7 < rank k → go_on (end_sum s (left_side C)) (tok k p ∷ ts) ≡ go_on (next_relation (no_relop s) C) (tok k p ∷ ts)
ends_left_at (sign lex.Equal) p s C ts h = absurd (omega arith)
ends_left_at (sign lex.NotEqual) p s C ts h = absurd (omega arith)
ends_left_at (sign lex.Less) p s C ts h = absurd (omega arith)
ends_left_at (sign lex.LessOrEqual) p s C ts h = absurd (omega arith)
ends_left_at (sign lex.Greater) p s C ts h = absurd (omega arith)
ends_left_at (sign lex.GreaterOrEqual) p s C ts h = absurd (omega arith)
ends_left_at (reserved the.Is) p s C ts h = absurd (omega arith)
ends_left_at (reserved the.Contains) p s C ts h = absurd (omega arith)
ends_left_at (reserved the.Starts) p s C ts h = absurd (omega arith)
ends_left_at (reserved the.Ends) p s C ts h = absurd (omega arith)
ends_left_at (reserved the.Does) p s C ts h = absurd (omega arith)
ends_left_at _ p s C ts h = refl

ends_left : (s : Sum) (C : OverRelation) (rest : List Shaped) → EndsAt 7 rest → go_on (end_sum s (left_side C)) rest ≡ go_on (next_relation (no_relop s) C) rest
ends_left s C [] h = refl
ends_left s C (t ∷ ts) h = ends_left_at t.kind t.place s C ts h

-- What each part begins with.
abbrev BeginsPrimary : Kind → Type 0
BeginsPrimary (word w) = Unit {0}
BeginsPrimary (number n) = Unit {0}
BeginsPrimary (string t) = Unit {0}
BeginsPrimary (reserved the.It) = Unit {0}
BeginsPrimary (sign lex.OpenBracket) = Unit {0}
BeginsPrimary _ = ⊥

abbrev BeginsUnary : Kind → Type 0
BeginsUnary (reserved the.Not) = Unit {0}
BeginsUnary (reserved the.Exists) = Unit {0}
BeginsUnary (reserved the.Exist) = Unit {0}
BeginsUnary (sign lex.Minus) = Unit {0}
BeginsUnary k = BeginsPrimary k

loosely : (k : Kind) → BeginsPrimary k → BeginsUnary k
loosely (reserved the.Not) h = elim h [ ]
loosely (reserved the.Exists) h = elim h [ ]
loosely (reserved the.Exist) h = elim h [ ]
loosely (sign lex.Minus) h = elim h [ ]
loosely _ h = h

abbrev Starts : (Kind → Type 0) → List Mark → Type 0
Starts P ms = (m : Mark) × (more : List Mark) × (ms ≡ m ∷ more) × P m.token.kind

starts_more : (P : Kind → Type 0) (a b : List Mark) → Starts P a → Starts P (a ++ b)
starts_more P a b s = (s.0, s.1 ++ b, ap (λ l. l ++ b) s.2, s.3)

words_start : (ws : Words) (d : ℕ) → Starts BeginsPrimary (words_marks d ws)
words_start (one_word p w) d = (mark d (word w) p, [], refl, tt)
words_start (more_words ws p w) d = starts_more BeginsPrimary (words_marks d ws) (mark d (word w) p ∷ []) (words_start ws d)

primary_starts : (x : Primary) (d : ℕ) → Starts BeginsPrimary (primary_marks d x)
primary_starts (a_number p n) d = (mark d (number n) p, [], refl, tt)
primary_starts (a_string p t) d = (mark d (string t) p, [], refl, tt)
primary_starts (an_it p) d = (mark d (reserved the.It) p, [], refl, tt)
primary_starts (brackets p q close) d = (mark (d + 1) (sign lex.OpenBracket) p, collection_marks (d + 1) q ++ (mark (d + 1) (sign lex.CloseBracket) close ∷ []), refl, tt)
primary_starts (some_words ws) d = words_start ws d
primary_starts (with_argument ws a) d = starts_more BeginsPrimary (words_marks d ws) (argument_marks d a) (words_start ws d)

term_starts : (x : Term) (d : ℕ) → Starts BeginsPrimary (term_marks d x)
term_starts (no_filter x) d = primary_starts x d
term_starts (filtered x w p q close) d = starts_more BeginsPrimary (primary_marks d x) _ (primary_starts x d)

reference_starts : (r : Reference) (d : ℕ) → Starts BeginsPrimary (reference_marks d r)
reference_starts (no_object x) d = term_starts x d
reference_starts (of_object x p r) d = starts_more BeginsPrimary (term_marks d x) (mark d (reserved the.Of) p ∷ reference_marks (d + 1) r) (term_starts x d)

cast_starts : (x : Cast) (d : ℕ) → Starts BeginsPrimary (cast_marks d x)
cast_starts (cast_one x) d = reference_starts x d
cast_starts (cast_more l p ws) d = starts_more BeginsPrimary (cast_marks d l) (mark d (reserved the.As) p ∷ words_marks d ws) (cast_starts l d)

unary_kind_begins : (s : UnarySign) → BeginsUnary (unary_kind s)
unary_kind_begins one_operand.Not = tt
unary_kind_begins one_operand.Exists = tt
unary_kind_begins one_operand.Exist = tt
unary_kind_begins one_operand.Minus = tt

unary_starts : (u : Unary) (d : ℕ) → Starts BeginsUnary (unary_marks d u)
unary_starts (signed p s u) d = (mark (d + 1) (unary_kind s) p, unary_marks (d + 1) u, refl, unary_kind_begins s)
unary_starts (no_sign x) d = let s = cast_starts x d in (s.0, s.1, s.2, loosely s.0.token.kind s.3)

product_starts : (l : Product) (d : ℕ) → Starts BeginsUnary (product_marks d l)
product_starts (product_one x) d = unary_starts x d
product_starts (product_more l p s x) d = starts_more BeginsUnary (product_marks d l) (mark d (product_kind s) p ∷ unary_marks d x) (product_starts l d)

sum_starts : (l : Sum) (d : ℕ) → Starts BeginsUnary (sum_marks d l)
sum_starts (sum_one x) d = product_starts x d
sum_starts (sum_more l p s x) d = starts_more BeginsUnary (sum_marks d l) (mark d (sum_kind s) p ∷ product_marks d x) (sum_starts l d)

relation_starts : (r : Relation) (d : ℕ) → Starts BeginsUnary (relation_marks d r)
relation_starts (no_relop s) d = sum_starts s d
relation_starts (relates s r t) d = starts_more BeginsUnary (sum_marks d s) (relop_marks d r ++ sum_marks d t) (sum_starts s d)

both_starts : (l : Both) (d : ℕ) → Starts BeginsUnary (both_marks d l)
both_starts (both_one x) d = relation_starts x d
both_starts (both_more l p x) d = starts_more BeginsUnary (both_marks d l) (mark d (reserved the.And) p ∷ relation_marks d x) (both_starts l d)

either_starts : (l : Either) (d : ℕ) → Starts BeginsUnary (either_marks d l)
either_starts (either_one x) d = both_starts x d
either_starts (either_more l p x) d = starts_more BeginsUnary (either_marks d l) (mark d (reserved the.Or) p ∷ both_marks d x) (either_starts l d)

bar_starts : (l : Bar) (d : ℕ) → Starts BeginsUnary (bar_marks d l)
bar_starts (bar_one x) d = either_starts x d
bar_starts (bar_more l p x) d = starts_more BeginsUnary (bar_marks d l) (mark d (sign lex.Bar) p ∷ either_marks d x) (bar_starts l d)

-- What begins so is read by the rule below.
no_sign_at : (k : Kind) (p : Place) (C : OverUnary) (ts : List Shaped) → BeginsPrimary k → go_on (begin_unary C) (tok k p ∷ ts) ≡ go_on (begin_primary (cast_first C)) (tok k p ∷ ts)
no_sign_at (reserved the.Not) p C ts h = elim h [ ]
no_sign_at (reserved the.Exists) p C ts h = elim h [ ]
no_sign_at (reserved the.Exist) p C ts h = elim h [ ]
no_sign_at (sign lex.Minus) p C ts h = elim h [ ]
no_sign_at _ p C ts h = refl

no_if_at : (k : Kind) (p : Place) (C : OverChoice) (ts : List Shaped) → BeginsUnary k → go_on (begin_choice C) (tok k p ∷ ts) ≡ go_on (begin_unary (over_choice C)) (tok k p ∷ ts)
no_if_at (reserved the.If) p C ts h = elim h [ ]
no_if_at _ p C ts h = refl

is_at : (k : Kind) (q : Place) (s : Sum) (p : Place) (C : OverRelation) (ts : List Shaped) → BeginsUnary k → go_on (next_relop s (read_is p) C) (tok k q ∷ ts) ≡ go_on (begin_unary (over_sum (right_side s (is_alone p) C))) (tok k q ∷ ts)
is_at (reserved the.Contained) q s p C ts h = elim h [ ]
is_at not_of_is q s p C ts h = elim h [ ]
is_at _ q s p C ts h = refl

not_at : (k : Kind) (q : Place) (s : Sum) (p o : Place) (C : OverRelation) (ts : List Shaped) → BeginsUnary k → go_on (next_relop s (read_is_not p o) C) (tok k q ∷ ts) ≡ go_on (begin_unary (over_sum (right_side s (is_not p o) C))) (tok k q ∷ ts)
not_at (reserved the.Contained) q s p o C ts h = elim h [ ]
not_at _ q s p o C ts h = refl

starting : (P : Kind → Type 0) (f g : Option Shaped → Step) (ms : List Mark) (rest : List Shaped) → Starts P ms → ((k : Kind) (p : Place) (ts : List Shaped) → P k → go_on f (tok k p ∷ ts) ≡ go_on g (tok k p ∷ ts)) → go_on f (shapes_of ms ++ rest) ≡ go_on g (shapes_of ms ++ rest)
starting P f g ms rest s h =
    let e : shapes_of ms ++ rest ≡ s.0.token ∷ (shapes_of s.1 ++ rest) = ap (λ l. shapes_of l ++ rest) s.2 in
    ap (go_on f) e ∙ h s.0.token.kind s.0.token.place (shapes_of s.1 ++ rest) s.3 ∙ sym (ap (go_on g) e)

-- a relation's sign, behind which a sum begins
comparison_at : (c : Comparison) (p : Place) (s : Sum) (C : OverRelation) (ts : List Shaped) → go_on (end_sum s (left_side C)) (tok (comparison_kind c) p ∷ ts) ≡ go_on (begin_unary (over_sum (right_side s (compares p c) C))) ts
comparison_at equals p s C ts = refl
comparison_at differs p s C ts = refl
comparison_at below p s C ts = refl
comparison_at at_most p s C ts = refl
comparison_at above p s C ts = refl
comparison_at at_least p s C ts = refl

complete_relop : (r : Relop) (d : ℕ) (s : Sum) (C : OverRelation) (ms : List Mark) (rest : List Shaped) → Starts BeginsUnary ms → go_on (end_sum s (left_side C)) (shapes_of (relop_marks d r) ++ (shapes_of ms ++ rest)) ≡ go_on (begin_unary (over_sum (right_side s r C))) (shapes_of ms ++ rest)
complete_relop (compares p c) d s C ms rest h = comparison_at c p s C (shapes_of ms ++ rest)
complete_relop (is_alone p) d s C ms rest h = starting BeginsUnary (next_relop s (read_is p) C) (begin_unary (over_sum (right_side s (is_alone p) C))) ms rest h (λ k q ts b. is_at k q s p C ts b)
complete_relop (is_not p o) d s C ms rest h = starting BeginsUnary (next_relop s (read_is_not p o) C) (begin_unary (over_sum (right_side s (is_not p o) C))) ms rest h (λ k q ts b. not_at k q s p o C ts b)
complete_relop (is_contained_by p q r) d s C ms rest h = refl
complete_relop (is_not_contained_by p q r t) d s C ms rest h = refl
complete_relop (contains p) d s C ms rest h = refl
complete_relop (starts_with p q) d s C ms rest h = refl
complete_relop (ends_with p q) d s C ms rest h = refl
complete_relop (does_not_contain p q r) d s C ms rest h = refl
complete_relop (does_not_start_with p q r t) d s C ms rest h = refl
complete_relop (does_not_end_with p q r t) d s C ms rest h = refl

relop_ends : (r : Relop) (d : ℕ) (rest : List Shaped) → EndsAt 6 (shapes_of (relop_marks d r) ++ rest)
relop_ends (compares p equals) d rest = omega arith
relop_ends (compares p differs) d rest = omega arith
relop_ends (compares p below) d rest = omega arith
relop_ends (compares p at_most) d rest = omega arith
relop_ends (compares p above) d rest = omega arith
relop_ends (compares p at_least) d rest = omega arith
relop_ends (is_alone p) d rest = omega arith
relop_ends (is_not p o) d rest = omega arith
relop_ends (is_contained_by p q r) d rest = omega arith
relop_ends (is_not_contained_by p q r t) d rest = omega arith
relop_ends (contains p) d rest = omega arith
relop_ends (starts_with p q) d rest = omega arith
relop_ends (ends_with p q) d rest = omega arith
relop_ends (does_not_contain p q r) d rest = omega arith
relop_ends (does_not_start_with p q r t) d rest = omega arith
relop_ends (does_not_end_with p q r t) d rest = omega arith

-- An operator of a level, behind which a part begins.
sum_sign_at : (s : SumSign) (p : Place) (l : Sum) (C : OverSum) (ts : List Shaped) → go_on (next_sum l C) (tok (sum_kind s) p ∷ ts) ≡ go_on (begin_unary (over_product (sum_next l p s C))) ts
sum_sign_at plus p l C ts = refl
sum_sign_at minus p l C ts = refl
sum_sign_at join p l C ts = refl

product_sign_at : (s : ProductSign) (p : Place) (l : Product) (C : OverProduct) (ts : List Shaped) → go_on (next_product l C) (tok (product_kind s) p ∷ ts) ≡ go_on (begin_unary (product_next l p s C)) ts
product_sign_at times p l C ts = refl
product_sign_at over p l C ts = refl
product_sign_at modulo p l C ts = refl

unary_sign_at : (s : UnarySign) (p : Place) (C : OverUnary) (ts : List Shaped) → go_on (begin_unary C) (tok (unary_kind s) p ∷ ts) ≡ go_on (begin_unary (under_sign p s C)) ts
unary_sign_at one_operand.Not p C ts = refl
unary_sign_at one_operand.Exists p C ts = refl
unary_sign_at one_operand.Exist p C ts = refl
unary_sign_at one_operand.Minus p C ts = refl

sum_sign_ends : (s : SumSign) (p : Place) (ts : List Shaped) → EndsAt 5 (tok (sum_kind s) p ∷ ts)
sum_sign_ends plus p ts = omega arith
sum_sign_ends minus p ts = omega arith
sum_sign_ends join p ts = omega arith

product_sign_ends : (s : ProductSign) (p : Place) (ts : List Shaped) → EndsAt 4 (tok (product_kind s) p ∷ ts)
product_sign_ends times p ts = omega arith
product_sign_ends over p ts = omega arith
product_sign_ends modulo p ts = omega arith

-- A part is read as itself, over whatever stands around it.
complete_words : (ws : Words) (d : ℕ) (C : OverReference) (rest : List Shaped) → go_on (begin_primary C) (shapes_of (words_marks d ws) ++ rest) ≡ go_on (next_word ws C) rest
complete_words (one_word p w) d C rest = refl
complete_words (more_words ws p w) d C rest =
    ap (go_on (begin_primary C)) (split (words_marks d ws) [] (mark d (word w) p) rest) ∙ complete_words ws d C (tok (word w) p ∷ rest)

complete_cast_words : (ws : Words) (d : ℕ) (l : Cast) (o : Place) (C : OverUnary) (rest : List Shaped) → go_on (begin_cast l o C) (shapes_of (words_marks d ws) ++ rest) ≡ go_on (next_cast_word l o ws C) rest
complete_cast_words (one_word p w) d l o C rest = refl
complete_cast_words (more_words ws p w) d l o C rest =
    ap (go_on (begin_cast l o C)) (split (words_marks d ws) [] (mark d (word w) p) rest) ∙ complete_cast_words ws d l o C (tok (word w) p ∷ rest)

mutual
  complete_collection : (q : Collection) (d : ℕ) (C : OverCollection) (rest : List Shaped) → EndsAt 11 rest → go_on (begin_collection C) (shapes_of (collection_marks d q) ++ rest) ≡ go_on (next_collection q C) rest
  complete_collection (collection_one x) d C rest h = complete_tuple x d (collection_first C) rest (lower 10 11 rest (omega arith) h) ∙ ends_tuple x (collection_first C) rest h
  complete_collection (collection_more q p x) d C rest h =
      ap (go_on (begin_collection C)) (split (collection_marks d q) (tuple_marks d x) (mark d (sign lex.Semicolon) p) rest)
      ∙ complete_collection q d C (tok (sign lex.Semicolon) p ∷ (shapes_of (tuple_marks d x) ++ rest)) (omega arith)
      ∙ complete_tuple x d (collection_next q p C) rest (lower 10 11 rest (omega arith) h) ∙ ends_tuple x (collection_next q p C) rest h

  complete_tuple : (l : Tuple) (d : ℕ) (C : OverTuple) (rest : List Shaped) → EndsAt 10 rest → go_on (begin_choice (tuple_first C)) (shapes_of (tuple_marks d l) ++ rest) ≡ go_on (next_tuple l C) rest
  complete_tuple (tuple_one x) d C rest h = complete_choice x d (tuple_first C) rest h
  complete_tuple (tuple_more l p x) d C rest h =
      ap (go_on (begin_choice (tuple_first C))) (split (tuple_marks d l) (choice_marks d x) (mark d (sign lex.Comma) p) rest)
      ∙ complete_tuple l d C (tok (sign lex.Comma) p ∷ (shapes_of (choice_marks d x) ++ rest)) (omega arith)
      ∙ complete_choice x d (tuple_next l p C) rest h

  complete_choice : (c : Choice) (d : ℕ) (C : OverChoice) (rest : List Shaped) → EndsAt 10 rest → go_on (begin_choice C) (shapes_of (choice_marks d c) ++ rest) ≡ go_on (next_choice c C) rest
  complete_choice (if_then p t o y e n) d C rest h =
      ap (go_on (begin_collection (in_test p C))) (split (collection_marks (d + 1) t) (collection_marks (d + 1) y ++ (mark (d + 1) (reserved the.Else) e ∷ choice_marks (d + 1) n)) (mark (d + 1) (reserved the.Then) o) rest)
      ∙ complete_collection t (d + 1) (in_test p C) (tok (reserved the.Then) o ∷ (shapes_of (collection_marks (d + 1) y ++ (mark (d + 1) (reserved the.Else) e ∷ choice_marks (d + 1) n)) ++ rest)) (omega arith)
      ∙ ap (go_on (begin_collection (in_yes p t o C))) (split (collection_marks (d + 1) y) (choice_marks (d + 1) n) (mark (d + 1) (reserved the.Else) e) rest)
      ∙ complete_collection y (d + 1) (in_yes p t o C) (tok (reserved the.Else) e ∷ (shapes_of (choice_marks (d + 1) n) ++ rest)) (omega arith)
      ∙ complete_choice n (d + 1) (in_no p t o y e C) rest h
  complete_choice (no_if b) d C rest h =
      starting BeginsUnary (begin_choice C) (begin_unary (over_choice C)) (bar_marks d b) rest (bar_starts b d) (λ k p ts s. no_if_at k p C ts s)
      ∙ complete_bar b d (under_no_if C) rest (lower 9 10 rest (omega arith) h) ∙ ends_bar b (under_no_if C) rest h

  complete_relation : (r : Relation) (d : ℕ) (C : OverRelation) (rest : List Shaped) → EndsAt 7 rest → go_on (begin_unary (over_relation C)) (shapes_of (relation_marks d r) ++ rest) ≡ go_on (next_relation r C) rest
  complete_relation (no_relop s) d C rest h = complete_sum s d (left_side C) rest (lower 5 7 rest (omega arith) h) ∙ ends_sum s (left_side C) rest (lower 6 7 rest (omega arith) h) ∙ ends_left s C rest h
  complete_relation (relates s r t) d C rest h =
      let more : List Shaped = shapes_of (relop_marks d r) ++ (shapes_of (sum_marks d t) ++ rest) in
      ap (go_on (begin_unary (over_relation C))) (split_two (sum_marks d s) (relop_marks d r ++ sum_marks d t) rest ∙ ap (λ l. shapes_of (sum_marks d s) ++ l) (split_two (relop_marks d r) (sum_marks d t) rest))
      ∙ complete_sum s d (left_side C) more (lower 5 6 more (omega arith) (relop_ends r d (shapes_of (sum_marks d t) ++ rest)))
      ∙ ends_sum s (left_side C) more (relop_ends r d (shapes_of (sum_marks d t) ++ rest))
      ∙ complete_relop r d s C (sum_marks d t) rest (sum_starts t d)
      ∙ complete_sum t d (right_side s r C) rest (lower 5 7 rest (omega arith) h)
      ∙ ends_sum t (right_side s r C) rest (lower 6 7 rest (omega arith) h)

  complete_bar : (l : Bar) (d : ℕ) (C : OverBar) (rest : List Shaped) → EndsAt 9 rest → go_on (begin_unary (over_either (bar_first C))) (shapes_of (bar_marks d l) ++ rest) ≡ go_on (next_bar l C) rest
  complete_bar (bar_one x) d C rest h = complete_either x d (bar_first C) rest (lower 8 9 rest (omega arith) h) ∙ ends_either x (bar_first C) rest h
  complete_bar (bar_more l p x) d C rest h =
      ap (go_on (begin_unary (over_either (bar_first C)))) (split (bar_marks d l) (either_marks d x) (mark d (sign lex.Bar) p) rest)
      ∙ complete_bar l d C (tok (sign lex.Bar) p ∷ (shapes_of (either_marks d x) ++ rest)) (omega arith)
      ∙ complete_either x d (bar_next l p C) rest (lower 8 9 rest (omega arith) h) ∙ ends_either x (bar_next l p C) rest h

  complete_either : (l : Either) (d : ℕ) (C : OverEither) (rest : List Shaped) → EndsAt 8 rest → go_on (begin_unary (over_both (either_first C))) (shapes_of (either_marks d l) ++ rest) ≡ go_on (next_either l C) rest
  complete_either (either_one x) d C rest h = complete_both x d (either_first C) rest (lower 7 8 rest (omega arith) h) ∙ ends_both x (either_first C) rest h
  complete_either (either_more l p x) d C rest h =
      ap (go_on (begin_unary (over_both (either_first C)))) (split (either_marks d l) (both_marks d x) (mark d (reserved the.Or) p) rest)
      ∙ complete_either l d C (tok (reserved the.Or) p ∷ (shapes_of (both_marks d x) ++ rest)) (omega arith)
      ∙ complete_both x d (either_next l p C) rest (lower 7 8 rest (omega arith) h) ∙ ends_both x (either_next l p C) rest h

  complete_both : (l : Both) (d : ℕ) (C : OverBoth) (rest : List Shaped) → EndsAt 7 rest → go_on (begin_unary (over_relation (both_first C))) (shapes_of (both_marks d l) ++ rest) ≡ go_on (next_both l C) rest
  complete_both (both_one x) d C rest h = complete_relation x d (both_first C) rest h
  complete_both (both_more l p x) d C rest h =
      ap (go_on (begin_unary (over_relation (both_first C)))) (split (both_marks d l) (relation_marks d x) (mark d (reserved the.And) p) rest)
      ∙ complete_both l d C (tok (reserved the.And) p ∷ (shapes_of (relation_marks d x) ++ rest)) (omega arith)
      ∙ complete_relation x d (both_next l p C) rest h

  complete_sum : (l : Sum) (d : ℕ) (C : OverSum) (rest : List Shaped) → EndsAt 5 rest → go_on (begin_unary (over_product (sum_first C))) (shapes_of (sum_marks d l) ++ rest) ≡ go_on (next_sum l C) rest
  complete_sum (sum_one x) d C rest h = complete_product x d (sum_first C) rest (lower 4 5 rest (omega arith) h) ∙ ends_product x (sum_first C) rest h
  complete_sum (sum_more l p s x) d C rest h =
      ap (go_on (begin_unary (over_product (sum_first C)))) (split (sum_marks d l) (product_marks d x) (mark d (sum_kind s) p) rest)
      ∙ complete_sum l d C (tok (sum_kind s) p ∷ (shapes_of (product_marks d x) ++ rest)) (sum_sign_ends s p (shapes_of (product_marks d x) ++ rest))
      ∙ sum_sign_at s p l C (shapes_of (product_marks d x) ++ rest)
      ∙ complete_product x d (sum_next l p s C) rest (lower 4 5 rest (omega arith) h) ∙ ends_product x (sum_next l p s C) rest h

  complete_product : (l : Product) (d : ℕ) (C : OverProduct) (rest : List Shaped) → EndsAt 4 rest → go_on (begin_unary (product_first C)) (shapes_of (product_marks d l) ++ rest) ≡ go_on (next_product l C) rest
  complete_product (product_one x) d C rest h = complete_unary x d (product_first C) rest h
  complete_product (product_more l p s x) d C rest h =
      ap (go_on (begin_unary (product_first C))) (split (product_marks d l) (unary_marks d x) (mark d (product_kind s) p) rest)
      ∙ complete_product l d C (tok (product_kind s) p ∷ (shapes_of (unary_marks d x) ++ rest)) (product_sign_ends s p (shapes_of (unary_marks d x) ++ rest))
      ∙ product_sign_at s p l C (shapes_of (unary_marks d x) ++ rest)
      ∙ complete_unary x d (product_next l p s C) rest h

  complete_unary : (u : Unary) (d : ℕ) (C : OverUnary) (rest : List Shaped) → EndsAt 4 rest → go_on (begin_unary C) (shapes_of (unary_marks d u) ++ rest) ≡ go_on (next_unary u C) rest
  complete_unary (signed p s u) d C rest h = unary_sign_at s p C (shapes_of (unary_marks (d + 1) u) ++ rest) ∙ complete_unary u (d + 1) (under_sign p s C) rest h
  complete_unary (no_sign x) d C rest h =
      starting BeginsPrimary (begin_unary C) (begin_primary (cast_first C)) (cast_marks d x) rest (cast_starts x d) (λ k p ts s. no_sign_at k p C ts s)
      ∙ complete_cast x d C rest (lower 3 4 rest (omega arith) h) ∙ ends_cast x C rest h

  complete_cast : (x : Cast) (d : ℕ) (C : OverUnary) (rest : List Shaped) → EndsAt 3 rest → go_on (begin_primary (cast_first C)) (shapes_of (cast_marks d x) ++ rest) ≡ go_on (next_cast x C) rest
  complete_cast (cast_one x) d C rest h = complete_reference x d (cast_first C) rest h
  complete_cast (cast_more l p ws) d C rest h =
      ap (go_on (begin_primary (cast_first C))) (split (cast_marks d l) (words_marks d ws) (mark d (reserved the.As) p) rest)
      ∙ complete_cast l d C (tok (reserved the.As) p ∷ (shapes_of (words_marks d ws) ++ rest)) (omega arith)
      ∙ complete_cast_words ws d l p C rest
      ∙ ends_cast_words l p ws C rest (lower 1 3 rest (omega arith) h)

  complete_reference : (r : Reference) (d : ℕ) (C : OverReference) (rest : List Shaped) → EndsAt 3 rest → go_on (begin_primary C) (shapes_of (reference_marks d r) ++ rest) ≡ go_on (next_reference r C) rest
  complete_reference (no_object x) d C rest h = complete_term x d C rest (lower 2 3 rest (omega arith) h) ∙ ends_term x C rest h
  complete_reference (of_object x p r) d C rest h =
      ap (go_on (begin_primary C)) (split (term_marks d x) (reference_marks (d + 1) r) (mark d (reserved the.Of) p) rest)
      ∙ complete_term x d C (tok (reserved the.Of) p ∷ (shapes_of (reference_marks (d + 1) r) ++ rest)) (omega arith)
      ∙ complete_reference r (d + 1) (object_of x p C) rest h

  complete_term : (x : Term) (d : ℕ) (C : OverReference) (rest : List Shaped) → EndsAt 2 rest → go_on (begin_primary C) (shapes_of (term_marks d x) ++ rest) ≡ go_on (next_term x C) rest
  complete_term (no_filter x) d C rest h = complete_primary x d C rest (lower 1 2 rest (omega arith) h) ∙ ends_primary x C rest h
  complete_term (filtered x w p q close) d C rest h =
      ap (go_on (begin_primary C)) (split (primary_marks d x) (mark (d + 1) (sign lex.OpenBracket) p ∷ (collection_marks (d + 1) q ++ (mark (d + 1) (sign lex.CloseBracket) close ∷ []))) (mark d (reserved the.Whose) w) rest)
      ∙ complete_primary x d C (tok (reserved the.Whose) w ∷ (tok (sign lex.OpenBracket) p ∷ (shapes_of (collection_marks (d + 1) q ++ (mark (d + 1) (sign lex.CloseBracket) close ∷ [])) ++ rest))) (omega arith)
      ∙ ap (go_on (begin_collection (in_filter x w p C))) (split (collection_marks (d + 1) q) [] (mark (d + 1) (sign lex.CloseBracket) close) rest)
      ∙ complete_collection q (d + 1) (in_filter x w p C) (tok (sign lex.CloseBracket) close ∷ rest) (omega arith)

  complete_primary : (x : Primary) (d : ℕ) (C : OverReference) (rest : List Shaped) → EndsAt 1 rest → go_on (begin_primary C) (shapes_of (primary_marks d x) ++ rest) ≡ go_on (next_primary x C) rest
  complete_primary (a_number p n) d C rest h = refl
  complete_primary (a_string p t) d C rest h = refl
  complete_primary (an_it p) d C rest h = refl
  complete_primary (brackets p q close) d C rest h =
      ap (go_on (begin_collection (in_brackets p C))) (split (collection_marks (d + 1) q) [] (mark (d + 1) (sign lex.CloseBracket) close) rest)
      ∙ complete_collection q (d + 1) (in_brackets p C) (tok (sign lex.CloseBracket) close ∷ rest) (omega arith)
  complete_primary (some_words ws) d C rest h = complete_words ws d C rest ∙ ends_words ws C rest h
  complete_primary (with_argument ws a) d C rest h =
      ap (go_on (begin_primary C)) (split_two (words_marks d ws) (argument_marks d a) rest)
      ∙ complete_words ws d C (shapes_of (argument_marks d a) ++ rest)
      ∙ complete_argument a d ws C rest

  complete_argument : (a : Argument) (d : ℕ) (ws : Words) (C : OverReference) (rest : List Shaped) → go_on (next_word ws C) (shapes_of (argument_marks d a) ++ rest) ≡ go_on (next_primary (with_argument ws a) C) rest
  complete_argument (argument_number p n) d ws C rest = refl
  complete_argument (argument_string p t) d ws C rest = refl
  complete_argument (argument_brackets p q close) d ws C rest =
      ap (go_on (begin_collection (in_argument ws p C))) (split (collection_marks (d + 1) q) [] (mark (d + 1) (sign lex.CloseBracket) close) rest)
      ∙ complete_collection q (d + 1) (in_argument ws p C) (tok (sign lex.CloseBracket) close ∷ rest) (omega arith)

append-nil : (ts : List Shaped) → ts ++ [] ≡ ts
append-nil [] = refl
append-nil (t ∷ ts) = ap (λ l. t ∷ l) (append-nil ts)

-- Each sentence is read as itself.
pub complete : (q : Question) → go_on (step start) (shapes_of (collection_marks 0 q)) ≡ reading q
complete q = ap (go_on (step start)) (sym (append-nil (shapes_of (collection_marks 0 q)))) ∙ complete_collection q 0 whole [] tt
