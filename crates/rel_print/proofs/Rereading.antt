-- What is written for the tree of a reading reads as the same tree but for places.
use Rattle.std.proofs.Common.{◌≡◌, ℕ, ◌+◌, ◌≤◌, Bool, false, List, [], ◌∷◌, ◌++◌, refl, sym, ap, ◌∙◌, subst, Option, Some, None, codes, arith}
use Rattle.rel_lexer.specs.declared.place.Place.{Place}
use Rattle.rel_lexer.specs.declared.sign.Sign.{Sign}
use Rattle.rel_lexer.specs.declared.sign.Sign.TheVariants as lex
use Rattle.rel_lexer.specs.declared.operator.UnarySign.{UnarySign}
use Rattle.rel_lexer.specs.declared.operator.UnarySign.TheVariants as one_operand
use Rattle.rel_lexer.specs.declared.operator.BinarySign.{BinarySign}
use Rattle.rel_lexer.specs.declared.operator.BinarySign.TheVariants as operator
use Rattle.rel_grammar.specs.declared.vocabulary.Reserved.TheVariants as the
use Rattle.rel_grammar.specs.declared.vocabulary.Helper.TheVariants as aid
use Rattle.rel_grammar.specs.declared.casts.CastTo.{CastTo}
use Rattle.rel_print.specs.declared.pen.Pen.{Pen}
use Rattle.rel_grammar.specs.Shapes.{sign, number, string, word_spelling}
use Rattle.rel_grammar.specs.Grammar.{Words, one_word, more_words, equals, differs, below, at_most, above, at_least, Relop, compares, is_alone, is_not, is_contained_by, is_not_contained_by, contains, starts_with, ends_with, does_not_contain, does_not_start_with, does_not_end_with, SumSign, plus, minus, ProductSign, times, over, modulo, Collection, collection_one, collection_more, Tuple, tuple_one, tuple_more, Choice, if_then, no_if, Bar, bar_one, bar_more, Either, either_one, either_more, Both, both_one, both_more, Relation, no_relop, relates, Sum, sum_one, sum_more, Product, product_one, product_more, Unary, signed, no_sign, Cast, cast_one, cast_more, Reference, no_object, of_object, Term, no_filter, filtered, Primary, a_number, a_string, an_it, brackets, some_words, with_argument, Argument, argument_number, argument_string, argument_brackets}
use Rattle.rel_grammar.specs.Grammar as grammar
use Rattle.rel_grammar.specs.Spelling.{Mark, mark, sum_kind, product_kind, unary_kind, words_marks, relop_marks, collection_marks, tuple_marks, choice_marks, bar_marks, either_marks, both_marks, relation_marks, sum_marks, product_marks, unary_marks, cast_marks, reference_marks, term_marks, primary_marks, argument_marks, shapes_of}
use Rattle.rel_grammar.specs.Trees.{Plain, numeral, literal, it, phrase, body, cast, unary, chain, conditional, tuple, collection, no_tree, a_tree, Linked, no_links, more_links, Parts, no_parts, more_parts, with_filter, with_object, enclosed, words_text, words_place, sum_operator, product_operator, relop_sign, collection_tree, collection_parts, tuple_tree, tuple_parts, choice_tree, bar_tree, bar_head, bar_links, either_tree, either_head, either_links, both_tree, both_head, both_links, relation_tree, sum_tree, sum_head, sum_links, product_tree, product_head, product_links, unary_tree, cast_tree, cast_head, cast_list, reference_tree, term_tree, primary_tree, argument_tree}
use Rattle.rel_grammar.specs.Reads.{as_head, put_filter, put_object}
use Rattle.rel_print.specs.Pages.{put_words, put_number, put_sign, put_string}
use Rattle.rel_print.specs.Written.{written, written_binary, written_unary, written_casts, written_links, written_parts, written_argument, written_filter, separated, in_brackets_unless, is_single}
use Rattle.rel_print.specs.Bare.{nowhere, bare, bare_casts, bare_links, bare_parts}
use Rattle.std.proofs.lemmas.List.{map-append}
use Rattle.rel_grammar.specs.Sentences.{IsShallow}
use Rattle.rel_print.proofs.Rewriting.{Alone, alone_number, alone_string, alone_it, alone_kind, none, bared, kinds, untag, IsGoodKind, Redone, seq, remade, deeper, rewritten, tok, one_token, Spells, Costs}
use Rattle.rel_print.proofs.Spelled.{spell_number, spell_string, spell_reserved, costs_number, costs_string, costs_reserved, tok_word, tok_sign, tok_reserved, tok_helper, tok_not, join_words}

-- trees of parts that are the same but for places
chained : (s : BinarySign) (f g : Plain) (ls ms : Linked) (t u : Plain) → f ≡ g → ls ≡ ms → t ≡ u → chain f (more_links ls nowhere s t) ≡ chain g (more_links ms nowhere s u)
chained s f g ls ms t u a b c = ap (λ x. chain x (more_links ls nowhere s t)) a ∙ ap (λ x. chain g (more_links x nowhere s t)) b ∙ ap (λ x. chain g (more_links ms nowhere s x)) c

linked_same : (s : BinarySign) (ls ms : Linked) (t u : Plain) → ls ≡ ms → t ≡ u → more_links ls nowhere s t ≡ more_links ms nowhere s u
linked_same s ls ms t u b c = ap (λ x. more_links x nowhere s t) b ∙ ap (λ x. more_links ms nowhere s x) c

parts_same : (ps qs : Parts) (t u : Plain) → ps ≡ qs → t ≡ u → more_parts ps t ≡ more_parts qs u
parts_same ps qs t u b c = ap (λ x. more_parts x t) b ∙ ap (more_parts qs) c

bare-filter : (t f : Plain) → bare (with_filter t f) ≡ put_filter (bare (as_head t)) (bare f)
bare-filter (numeral p n) f = refl
bare-filter (literal p n) f = refl
bare-filter (it p) f = refl
bare-filter (phrase p w a g o) f = refl
bare-filter (body p b g o) f = refl
bare-filter _ f = refl

bare-object : (t f : Plain) → bare (with_object t f) ≡ put_object (bare (as_head t)) (bare f)
bare-object (numeral p n) f = refl
bare-object (literal p n) f = refl
bare-object (it p) f = refl
bare-object (phrase p w a g o) f = refl
bare-object (body p b g o) f = refl
bare-object _ f = refl

filter_same : (t u f g : Plain) → bare (as_head t) ≡ bare (as_head u) → bare f ≡ bare g → bare (with_filter t f) ≡ bare (with_filter u g)
filter_same t u f g a b = bare-filter t f ∙ ap (λ x. put_filter x (bare f)) a ∙ ap (put_filter (bare (as_head u))) b ∙ sym (bare-filter u g)

object_same : (t u f g : Plain) → bare (as_head t) ≡ bare (as_head u) → bare f ≡ bare g → bare (with_object t f) ≡ bare (with_object u g)
object_same t u f g a b = bare-object t f ∙ ap (λ x. put_object x (bare f)) a ∙ ap (put_object (bare (as_head u))) b ∙ sym (bare-object u g)

head-filtered : (x : Primary) (f : Plain) → as_head (with_filter (primary_tree x) f) ≡ with_filter (primary_tree x) f
head-filtered (a_number p n) f = refl
head-filtered (a_string p n) f = refl
head-filtered (an_it p) f = refl
head-filtered (brackets p q c) f = refl
head-filtered (some_words ws) f = refl
head-filtered (with_argument ws a) f = refl

bare_casts-append : (cs : List CastTo) (c : CastTo) → bare_casts (cs ++ (c ∷ [])) ≡ bare_casts cs ++ (record { place = nowhere; words = c.words } ∷ [])
bare_casts-append [] c = refl
bare_casts-append (x ∷ cs) c = ap (λ l. record { place = nowhere; words = x.words } ∷ l) (bare_casts-append cs c)

-- what is written of a head before an object
abbrev followed_write : Plain → Pen → Pen
followed_write (phrase p w a f o) pen = written_filter f (written_argument a (put_words w pen))
followed_write (body p b f o) pen = written_filter f (in_brackets_unless (is_single b) (written b) pen)
followed_write t pen = written t pen

eq_filter : (x : Primary) (f : Plain) (pen : Pen) → written f (put_words (codes "whose") (followed_write (primary_tree x) pen)) ≡ written (with_filter (primary_tree x) f) pen
eq_filter (a_number p n) f pen = refl
eq_filter (a_string p n) f pen = refl
eq_filter (an_it p) f pen = refl
eq_filter (brackets p q c) f pen = refl
eq_filter (some_words ws) f pen = refl
eq_filter (with_argument ws a) f pen = refl

eq_filter_head : (x : Primary) (f : Plain) (pen : Pen) → written f (put_words (codes "whose") (followed_write (primary_tree x) pen)) ≡ followed_write (with_filter (primary_tree x) f) pen
eq_filter_head (a_number p n) f pen = refl
eq_filter_head (a_string p n) f pen = refl
eq_filter_head (an_it p) f pen = refl
eq_filter_head (brackets p q c) f pen = refl
eq_filter_head (some_words ws) f pen = refl
eq_filter_head (with_argument ws a) f pen = refl

eq_object_bare : (x : Primary) (o : Plain) (pen : Pen) → written o (put_words (codes "of") (followed_write (primary_tree x) pen)) ≡ written (with_object (primary_tree x) o) pen
eq_object_bare (a_number p n) f pen = refl
eq_object_bare (a_string p n) f pen = refl
eq_object_bare (an_it p) f pen = refl
eq_object_bare (brackets p q c) f pen = refl
eq_object_bare (some_words ws) f pen = refl
eq_object_bare (with_argument ws a) f pen = refl

eq_object_filtered : (x : Primary) (f o : Plain) (pen : Pen) → written o (put_words (codes "of") (followed_write (with_filter (primary_tree x) f) pen)) ≡ written (with_object (with_filter (primary_tree x) f) o) pen
eq_object_filtered (a_number p n) f o pen = refl
eq_object_filtered (a_string p n) f o pen = refl
eq_object_filtered (an_it p) f o pen = refl
eq_object_filtered (brackets p q c) f o pen = refl
eq_object_filtered (some_words ws) f o pen = refl
eq_object_filtered (with_argument ws a) f o pen = refl

eq_object : (x : Term) (o : Plain) (pen : Pen) → written o (put_words (codes "of") (followed_write (term_tree x) pen)) ≡ written (with_object (term_tree x) o) pen
eq_object (no_filter x) o pen = eq_object_bare x o pen
eq_object (filtered x w p q c) o pen = eq_object_filtered x _ o pen

eq_casts : (x : Cast) (pen : Pen) → written_casts (cast_list x) (written (cast_head x) pen) ≡ written (cast_tree x) pen
eq_casts (cast_one x) pen = refl
eq_casts (cast_more l p ws) pen = refl

casts_more : (cs : List CastTo) (c : CastTo) (pen : Pen) → put_words c.words (put_words (codes "as") (written_casts cs pen)) ≡ written_casts (cs ++ (c ∷ [])) pen
casts_more [] c pen = refl
casts_more (x ∷ cs) c pen = casts_more cs c (put_words x.words (put_words (codes "as") pen))

eq_products : (x : Product) (pen : Pen) → written_links (product_links x) (written (product_head x) pen) ≡ written (product_tree x) pen
eq_products (product_one x) pen = refl
eq_products (product_more l p s x) pen = refl

eq_sums : (x : Sum) (pen : Pen) → written_links (sum_links x) (written (sum_head x) pen) ≡ written (sum_tree x) pen
eq_sums (sum_one x) pen = refl
eq_sums (sum_more l p s x) pen = refl

eq_boths : (x : Both) (pen : Pen) → written_links (both_links x) (written (both_head x) pen) ≡ written (both_tree x) pen
eq_boths (both_one x) pen = refl
eq_boths (both_more l p x) pen = refl

eq_eithers : (x : Either) (pen : Pen) → written_links (either_links x) (written (either_head x) pen) ≡ written (either_tree x) pen
eq_eithers (either_one x) pen = refl
eq_eithers (either_more l p x) pen = refl

eq_bars : (x : Bar) (pen : Pen) → written_links (bar_links x) (written (bar_head x) pen) ≡ written (bar_tree x) pen
eq_bars (bar_one x) pen = refl
eq_bars (bar_more l p x) pen = refl

eq_tuples : (x : Tuple) (pen : Pen) → written_parts lex.Comma (tuple_parts x) pen ≡ written (tuple_tree x) pen
eq_tuples (tuple_one x) pen = refl
eq_tuples (tuple_more l p x) pen = refl

eq_collections : (x : Collection) (pen : Pen) → written_parts lex.Semicolon (collection_parts x) pen ≡ written (collection_tree x) pen
eq_collections (collection_one x) pen = refl
eq_collections (collection_more l p x) pen = refl

separate_tuples : (s : Sign) (x : Tuple) (pen : Pen) → put_sign s pen ≡ separated s (tuple_parts x) pen
separate_tuples s (tuple_one x) pen = refl
separate_tuples s (tuple_more l p x) pen = refl

separate_collections : (s : Sign) (x : Collection) (pen : Pen) → put_sign s pen ≡ separated s (collection_parts x) pen
separate_collections s (collection_one x) pen = refl
separate_collections s (collection_more l p x) pen = refl

-- The tree of a single token is that of this token alone.
abbrev alone_of : Plain → Option Alone
alone_of (numeral p n) = Some (alone_number n)
alone_of (literal p t) = Some (alone_string t)
alone_of (it p) = Some alone_it
alone_of _ = None

alone-filter : (t f : Plain) → alone_of (with_filter t f) ≡ None
alone-filter (numeral p n) f = refl
alone-filter (literal p n) f = refl
alone-filter (it p) f = refl
alone-filter _ f = refl

alone-object : (t f : Plain) → alone_of (with_object t f) ≡ None
alone-object (numeral p n) f = refl
alone-object (literal p n) f = refl
alone-object (it p) f = refl
alone-object _ f = refl

abbrev Lone : Plain → (ℕ → List Mark) → Type 0
Lone t marks = (a : Alone) → alone_of t ≡ Some a → (d : ℕ) → kinds (marks d) ≡ alone_kind a ∷ []

same_alone : (a b : Alone) → Some a ≡ Some b → a ≡ b
same_alone a b e = cc

l_primary : (x : Primary) → Lone (primary_tree x) (λ d. primary_marks d x)
l_primary (a_number p n) a e d = ap (λ b. alone_kind b ∷ []) (same_alone (alone_number n) a e)
l_primary (a_string p t) a e d = ap (λ b. alone_kind b ∷ []) (same_alone (alone_string t) a e)
l_primary (an_it p) a e d = ap (λ b. alone_kind b ∷ []) (same_alone alone_it a e)
l_primary (brackets p q c) a e d = cc
l_primary (some_words ws) a e d = cc
l_primary (with_argument ws b) a e d = cc

no_alone : (t : Plain) (a : Alone) → alone_of t ≡ None → alone_of t ≡ Some a → ⊥
no_alone t a e h = cc

l_term : (x : Term) → Lone (term_tree x) (λ d. term_marks d x)
l_term (no_filter x) a e d = l_primary x a e d
l_term (filtered x w p q c) a e d = absurd (no_alone (with_filter (primary_tree x) (enclosed p (collection_tree q) c)) a (alone-filter (primary_tree x) (enclosed p (collection_tree q) c)) e)

l_reference : (x : Reference) → Lone (reference_tree x) (λ d. reference_marks d x)
l_reference (no_object x) a e d = l_term x a e d
l_reference (of_object x p r) a e d = absurd (no_alone (with_object (term_tree x) (reference_tree r)) a (alone-object (term_tree x) (reference_tree r)) e)

l_cast : (x : Cast) → Lone (cast_tree x) (λ d. cast_marks d x)
l_cast (cast_one x) a e d = l_reference x a e d
l_cast (cast_more l p ws) a e d = cc

l_unary : (x : Unary) → Lone (unary_tree x) (λ d. unary_marks d x)
l_unary (signed p s x) a e d = cc
l_unary (no_sign x) a e d = l_cast x a e d

l_product : (x : Product) → Lone (product_tree x) (λ d. product_marks d x)
l_product (product_one x) a e d = l_unary x a e d
l_product (product_more l p s x) a e d = cc

l_sum : (x : Sum) → Lone (sum_tree x) (λ d. sum_marks d x)
l_sum (sum_one x) a e d = l_product x a e d
l_sum (sum_more l p s x) a e d = cc

l_relation : (x : Relation) → Lone (relation_tree x) (λ d. relation_marks d x)
l_relation (no_relop x) a e d = l_sum x a e d
l_relation (relates x r y) a e d = cc

l_both : (x : Both) → Lone (both_tree x) (λ d. both_marks d x)
l_both (both_one x) a e d = l_relation x a e d
l_both (both_more l p x) a e d = cc

l_either : (x : Either) → Lone (either_tree x) (λ d. either_marks d x)
l_either (either_one x) a e d = l_both x a e d
l_either (either_more l p x) a e d = cc

l_bar : (x : Bar) → Lone (bar_tree x) (λ d. bar_marks d x)
l_bar (bar_one x) a e d = l_either x a e d
l_bar (bar_more l p x) a e d = cc

l_choice : (x : Choice) → Lone (choice_tree x) (λ d. choice_marks d x)
l_choice (if_then p t o y e n) a h d = cc
l_choice (no_if x) a h d = l_bar x a h d

l_tuple : (x : Tuple) → Lone (tuple_tree x) (λ d. tuple_marks d x)
l_tuple (tuple_one x) a e d = l_choice x a e d
l_tuple (tuple_more l p x) a e d = cc

l_collection : (x : Collection) → Lone (collection_tree x) (λ d. collection_marks d x)
l_collection (collection_one x) a e d = l_tuple x a e d
l_collection (collection_more l p x) a e d = cc

-- Names for what is proved of each rule: how its readings are written and read once more.
abbrev RWords : Words → Type 0
RWords ws = Redone words_marks (λ v. words_text v ≡ words_text ws) (λ d. words_marks d ws) (put_words (words_text ws))

r_words : (ws : Words) → RWords ws
r_words (one_word p w) = remade (λ q. one_word q w) (λ d q. refl) (λ q s. refl) (tok_word w p)
r_words (more_words ws p w) = rewritten (join_words (words_text ws) (word_spelling w)) (remade (λ y. more_words y.0 y.1 w) (λ d y. refl) (λ y s. ap (λ t. (t ++ (32 ∷ [])) ++ word_spelling w) s.0) (seq (r_words ws) (tok_word w p)))

abbrev RRelop : Relop → Type 0
RRelop r = Redone relop_marks (λ y. relop_sign y ≡ relop_sign r) (λ d. relop_marks d r) (written_binary (relop_sign r))

join_three : (a b c : List ℕ) (pen : Pen) → put_words c (put_words b (put_words a pen)) ≡ put_words ((((a ++ (32 ∷ [])) ++ b) ++ (32 ∷ [])) ++ c) pen
join_three a b c pen = ap (put_words c) (join_words a b pen) ∙ join_words ((a ++ (32 ∷ [])) ++ b) c pen

join_four : (a b c e : List ℕ) (pen : Pen) → put_words e (put_words c (put_words b (put_words a pen))) ≡ put_words ((((((a ++ (32 ∷ [])) ++ b) ++ (32 ∷ [])) ++ c) ++ (32 ∷ [])) ++ e) pen
join_four a b c e pen = ap (put_words e) (join_three a b c pen) ∙ join_words ((((a ++ (32 ∷ [])) ++ b) ++ (32 ∷ [])) ++ c) e pen

r_relop : (r : Relop) → RRelop r
r_relop (compares p equals) = remade (λ q. compares q equals) (λ d q. refl) (λ q s. refl) (tok_sign lex.Equal p)
r_relop (compares p differs) = remade (λ q. compares q differs) (λ d q. refl) (λ q s. refl) (tok_sign lex.NotEqual p)
r_relop (compares p below) = remade (λ q. compares q below) (λ d q. refl) (λ q s. refl) (tok_sign lex.Less p)
r_relop (compares p at_most) = remade (λ q. compares q at_most) (λ d q. refl) (λ q s. refl) (tok_sign lex.LessOrEqual p)
r_relop (compares p above) = remade (λ q. compares q above) (λ d q. refl) (λ q s. refl) (tok_sign lex.Greater p)
r_relop (compares p at_least) = remade (λ q. compares q at_least) (λ d q. refl) (λ q s. refl) (tok_sign lex.GreaterOrEqual p)
r_relop (is_alone p) = remade is_alone (λ d q. refl) (λ q s. refl) (tok_reserved the.Is p)
r_relop (is_not p q) = rewritten (join_words (codes "is") (codes "not")) (remade (λ y. is_not y.0 y.1) (λ d y. refl) (λ y s. refl) (seq (tok_reserved the.Is p) (tok_not q)))
r_relop (is_contained_by p q r) = rewritten (join_three (codes "is") (codes "contained") (codes "by")) (remade (λ y. is_contained_by y.0 y.1.0 y.1.1) (λ d y. refl) (λ y s. refl) (seq (tok_reserved the.Is p) (seq (tok_reserved the.Contained q) (tok_helper aid.By r))))
r_relop (is_not_contained_by p q r t) = rewritten (join_four (codes "is") (codes "not") (codes "contained") (codes "by")) (remade (λ y. is_not_contained_by y.0 y.1.0 y.1.1.0 y.1.1.1) (λ d y. refl) (λ y s. refl) (seq (tok_reserved the.Is p) (seq (tok_not q) (seq (tok_reserved the.Contained r) (tok_helper aid.By t)))))
r_relop (contains p) = remade contains (λ d q. refl) (λ q s. refl) (tok_reserved the.Contains p)
r_relop (starts_with p q) = rewritten (join_words (codes "starts") (codes "with")) (remade (λ y. starts_with y.0 y.1) (λ d y. refl) (λ y s. refl) (seq (tok_reserved the.Starts p) (tok_helper aid.With q)))
r_relop (ends_with p q) = rewritten (join_words (codes "ends") (codes "with")) (remade (λ y. ends_with y.0 y.1) (λ d y. refl) (λ y s. refl) (seq (tok_reserved the.Ends p) (tok_helper aid.With q)))
r_relop (does_not_contain p q r) = rewritten (join_three (codes "does") (codes "not") (codes "contain")) (remade (λ y. does_not_contain y.0 y.1.0 y.1.1) (λ d y. refl) (λ y s. refl) (seq (tok_reserved the.Does p) (seq (tok_reserved the.Not q) (tok_helper aid.Contain r))))
r_relop (does_not_start_with p q r t) = rewritten (join_four (codes "does") (codes "not") (codes "start") (codes "with")) (remade (λ y. does_not_start_with y.0 y.1.0 y.1.1.0 y.1.1.1) (λ d y. refl) (λ y s. refl) (seq (tok_reserved the.Does p) (seq (tok_reserved the.Not q) (seq (tok_helper aid.Start r) (tok_helper aid.With t)))))
r_relop (does_not_end_with p q r t) = rewritten (join_four (codes "does") (codes "not") (codes "end") (codes "with")) (remade (λ y. does_not_end_with y.0 y.1.0 y.1.1.0 y.1.1.1) (λ d y. refl) (λ y s. refl) (seq (tok_reserved the.Does p) (seq (tok_reserved the.Not q) (seq (tok_helper aid.End r) (tok_helper aid.With t)))))

tok_sum : (s : SumSign) (p : Place) → Redone {Y = Place} (λ d q. mark d (sum_kind s) q ∷ []) (λ q. Unit {0}) (λ d. mark d (sum_kind s) p ∷ []) (written_binary (sum_operator s))
tok_sum plus p = tok_sign lex.Plus p
tok_sum minus p = tok_sign lex.Minus p
tok_sum grammar.join p = tok_sign lex.Ampersand p

tok_product : (s : ProductSign) (p : Place) → Redone {Y = Place} (λ d q. mark d (product_kind s) q ∷ []) (λ q. Unit {0}) (λ d. mark d (product_kind s) p ∷ []) (written_binary (product_operator s))
tok_product times p = tok_sign lex.Times p
tok_product over p = tok_sign lex.Slash p
tok_product modulo p = tok_reserved the.Mod p

tok_unary : (s : UnarySign) (p : Place) → Redone {Y = Place} (λ d q. mark d (unary_kind s) q ∷ []) (λ q. Unit {0}) (λ d. mark d (unary_kind s) p ∷ []) (written_unary s)
tok_unary one_operand.Not p = tok_reserved the.Not p
tok_unary one_operand.Exists p = tok_reserved the.Exists p
tok_unary one_operand.Exist p = tok_reserved the.Exist p
tok_unary one_operand.Minus p = tok_sign lex.Minus p

abbrev pub RCollection : Collection → Type 0
RCollection x = Redone collection_marks (λ y. (bare (collection_tree y) ≡ bare (collection_tree x)) × (bare_parts (collection_parts y) ≡ bare_parts (collection_parts x))) (λ d. collection_marks d x) (written_parts lex.Semicolon (collection_parts x))

abbrev RTuple : Tuple → Type 0
RTuple x = Redone tuple_marks (λ y. (bare (tuple_tree y) ≡ bare (tuple_tree x)) × (bare_parts (tuple_parts y) ≡ bare_parts (tuple_parts x))) (λ d. tuple_marks d x) (written_parts lex.Comma (tuple_parts x))

abbrev RChoice : Choice → Type 0
RChoice x = Redone choice_marks (λ y. bare (choice_tree y) ≡ bare (choice_tree x)) (λ d. choice_marks d x) (written (choice_tree x))

abbrev RBar : Bar → Type 0
RBar x = Redone bar_marks (λ y. (bare (bar_tree y) ≡ bare (bar_tree x)) × (bare (bar_head y) ≡ bare (bar_head x)) × (bare_links (bar_links y) ≡ bare_links (bar_links x))) (λ d. bar_marks d x) (λ pen. written_links (bar_links x) (written (bar_head x) pen))

abbrev REither : Either → Type 0
REither x = Redone either_marks (λ y. (bare (either_tree y) ≡ bare (either_tree x)) × (bare (either_head y) ≡ bare (either_head x)) × (bare_links (either_links y) ≡ bare_links (either_links x))) (λ d. either_marks d x) (λ pen. written_links (either_links x) (written (either_head x) pen))

abbrev RBoth : Both → Type 0
RBoth x = Redone both_marks (λ y. (bare (both_tree y) ≡ bare (both_tree x)) × (bare (both_head y) ≡ bare (both_head x)) × (bare_links (both_links y) ≡ bare_links (both_links x))) (λ d. both_marks d x) (λ pen. written_links (both_links x) (written (both_head x) pen))

abbrev RRelation : Relation → Type 0
RRelation x = Redone relation_marks (λ y. bare (relation_tree y) ≡ bare (relation_tree x)) (λ d. relation_marks d x) (written (relation_tree x))

abbrev RSum : Sum → Type 0
RSum x = Redone sum_marks (λ y. (bare (sum_tree y) ≡ bare (sum_tree x)) × (bare (sum_head y) ≡ bare (sum_head x)) × (bare_links (sum_links y) ≡ bare_links (sum_links x))) (λ d. sum_marks d x) (λ pen. written_links (sum_links x) (written (sum_head x) pen))

abbrev RProduct : Product → Type 0
RProduct x = Redone product_marks (λ y. (bare (product_tree y) ≡ bare (product_tree x)) × (bare (product_head y) ≡ bare (product_head x)) × (bare_links (product_links y) ≡ bare_links (product_links x))) (λ d. product_marks d x) (λ pen. written_links (product_links x) (written (product_head x) pen))

abbrev RUnary : Unary → Type 0
RUnary x = Redone unary_marks (λ y. bare (unary_tree y) ≡ bare (unary_tree x)) (λ d. unary_marks d x) (written (unary_tree x))

abbrev RCast : Cast → Type 0
RCast x = Redone cast_marks (λ y. (bare (cast_tree y) ≡ bare (cast_tree x)) × (bare (cast_head y) ≡ bare (cast_head x)) × (bare_casts (cast_list y) ≡ bare_casts (cast_list x))) (λ d. cast_marks d x) (λ pen. written_casts (cast_list x) (written (cast_head x) pen))

abbrev RReference : Reference → Type 0
RReference x = Redone reference_marks (λ y. bare (reference_tree y) ≡ bare (reference_tree x)) (λ d. reference_marks d x) (written (reference_tree x))

abbrev RTerm : Term → Type 0
RTerm x = Redone term_marks (λ y. bare (term_tree y) ≡ bare (term_tree x)) (λ d. term_marks d x) (written (term_tree x))

-- before an object
abbrev RTermHead : Term → Type 0
RTermHead x = Redone term_marks (λ y. bare (as_head (term_tree y)) ≡ bare (as_head (term_tree x))) (λ d. term_marks d x) (followed_write (term_tree x))

abbrev RPrimary : Primary → Type 0
RPrimary x = Redone primary_marks (λ y. bare (primary_tree y) ≡ bare (primary_tree x)) (λ d. primary_marks d x) (written (primary_tree x))

-- before a filter or an object
abbrev RHead : Primary → Type 0
RHead x = Redone primary_marks (λ y. bare (as_head (primary_tree y)) ≡ bare (as_head (primary_tree x))) (λ d. primary_marks d x) (followed_write (primary_tree x))

abbrev RArgument : Argument → Type 0
RArgument x = Redone argument_marks (λ y. bare (argument_tree y) ≡ bare (argument_tree x)) (λ d. argument_marks d x) (written (argument_tree x))

-- A part in brackets.
abbrev pub RWhole : Collection → Type 0
RWhole x = Redone collection_marks (λ y. (bare (collection_tree y) ≡ bare (collection_tree x)) × (bare_parts (collection_parts y) ≡ bare_parts (collection_parts x))) (λ d. collection_marks d x) (written (collection_tree x))

pub as_whole : (x : Collection) → RCollection x → RWhole x
as_whole x r = rewritten (eq_collections x) r

related_same : (f g : Plain) (r s : BinarySign) (t u : Plain) → f ≡ g → r ≡ s → t ≡ u → chain f (more_links no_links nowhere r t) ≡ chain g (more_links no_links nowhere s u)
related_same f g r s t u a b c = ap (λ x. chain x (more_links no_links nowhere r t)) a ∙ ap (λ x. chain g (more_links no_links nowhere x t)) b ∙ ap (λ x. chain g (more_links no_links nowhere s x)) c

casts_same : (cs ds : List CastTo) (c e : CastTo) → bare_casts cs ≡ bare_casts ds → c.words ≡ e.words → bare_casts (cs ++ (c ∷ [])) ≡ bare_casts (ds ++ (e ∷ []))
casts_same cs ds c e a b = bare_casts-append cs c ∙ ap (λ l. l ++ (record { place = nowhere; words = c.words } ∷ [])) a ∙ ap (λ w. bare_casts ds ++ (record { place = nowhere; words = w } ∷ [])) b ∙ sym (bare_casts-append ds e)

cast_same : (t u : Plain) (cs ds : List CastTo) → t ≡ u → cs ≡ ds → cast t cs ≡ cast u ds
cast_same t u cs ds a b = ap (λ x. cast x cs) a ∙ ap (cast u) b

conditional_same : (a b c x y z : Plain) → a ≡ x → b ≡ y → c ≡ z → conditional nowhere a b c ≡ conditional nowhere x y z
conditional_same a b c x y z e f g = ap (λ k. conditional nowhere k b c) e ∙ ap (λ k. conditional nowhere x k c) f ∙ ap (conditional nowhere x y) g

phrase_same : (w v : List ℕ) (a b : Plain) → w ≡ v → a ≡ b → phrase nowhere w (a_tree a) no_tree no_tree ≡ phrase nowhere v (a_tree b) no_tree no_tree
phrase_same w v a b e f = ap (λ k. phrase nowhere k (a_tree a) no_tree no_tree) e ∙ ap (λ k. phrase nowhere v (a_tree k) no_tree no_tree) f

-- Brackets round a single token are left out before a filter or an object.
lone_head : (p : Place) (q : Collection) (c : Place) (a : Alone) (f : Place → Primary) (same : Primary → Type 0) (w : Pen → Pen)
    → ((d : ℕ) → kinds (collection_marks d q) ≡ alone_kind a ∷ [])
    → ((d : ℕ) (x : Place) → primary_marks d (f x) ≡ mark d (alone_kind a) x ∷ [])
    → ((x : Place) → same (f x))
    → (IsGoodKind (alone_kind a) → Spells w (untag (alone_kind a) ∷ []))
    → Costs w (untag (alone_kind a) ∷ [])
    → Redone primary_marks same (λ d. primary_marks d (brackets p q c)) w
lone_head p q c a f same w lone marks alike s cost = record {
  cut = bared a none;
  whole = λ d. ap (λ l. sign lex.OpenBracket ∷ (l ++ (sign lex.CloseBracket ∷ []))) (sym (lone (d + 1))) ∙ ap (λ l. sign lex.OpenBracket ∷ l) (sym (map-append (λ (m : Mark). m.token.kind) (collection_marks (d + 1) q) (mark (d + 1) (sign lex.CloseBracket) c ∷ [])));
  spells = λ g. s g.0;
  costs = cost;
  back = λ ts e.
      let t = one_token (alone_kind a) ts e in
      record {
        y = f t.0;
        is = λ d. ap shapes_of (marks d t.0) ∙ t.1;
        alike = alike t.0;
        shallow = λ d h. let low : d ≤ 64 = omega (arith, h.0) in subst IsShallow (sym (marks d t.0)) (low, tt);
      };
}

abbrev RHeadOf : Place → Collection → Place → Plain → Bool → Type 0
RHeadOf p q c t b = Redone primary_marks (λ y. bare (as_head (primary_tree y)) ≡ body nowhere (bare t) no_tree no_tree) (λ d. primary_marks d (brackets p q c)) (in_brackets_unless b (written t))

bracketed_head : (p : Place) (q : Collection) (c : Place) (t : Plain) → collection_tree q ≡ t → RCollection q → RHeadOf p q c t false
bracketed_head p q c t e r = rewritten (λ pen. ap (λ u. in_brackets_unless false (written u) pen) e) (remade (λ y. brackets y.0 y.1.0 y.1.1) (λ d y. refl) (λ y s. ap (λ u. body nowhere u no_tree no_tree) (s.1.0.0 ∙ ap bare e)) (deeper (seq (tok_sign lex.OpenBracket p) (seq (as_whole q r) (tok_sign lex.CloseBracket c)))))

head_brackets : (p : Place) (q : Collection) (c : Place) (t : Plain) → collection_tree q ≡ t → RCollection q → RHeadOf p q c t (is_single t)
head_brackets p q c (numeral x n) e r = lone_head p q c (alone_number n) (λ k. a_number k n) _ _ (λ d. l_collection q (alone_number n) (ap alone_of e) d) (λ d k. refl) (λ k. refl) (spell_number n) (costs_number n)
head_brackets p q c (literal x n) e r = lone_head p q c (alone_string n) (λ k. a_string k n) _ _ (λ d. l_collection q (alone_string n) (ap alone_of e) d) (λ d k. refl) (λ k. refl) (spell_string n) (costs_string n)
head_brackets p q c (it x) e r = lone_head p q c alone_it an_it _ _ (λ d. l_collection q alone_it (ap alone_of e) d) (λ d k. refl) (λ k. refl) (λ g. spell_reserved the.It) (costs_reserved the.It)
head_brackets p q c (phrase x w a f o) e r = bracketed_head p q c (phrase x w a f o) e r
head_brackets p q c (body x b f o) e r = bracketed_head p q c (body x b f o) e r
head_brackets p q c (cast t cs) e r = bracketed_head p q c (cast t cs) e r
head_brackets p q c (unary x s t) e r = bracketed_head p q c (unary x s t) e r
head_brackets p q c (chain t ls) e r = bracketed_head p q c (chain t ls) e r
head_brackets p q c (conditional x t y n) e r = bracketed_head p q c (conditional x t y n) e r
head_brackets p q c (tuple ps) e r = bracketed_head p q c (tuple ps) e r
head_brackets p q c (collection ps) e r = bracketed_head p q c (collection ps) e r

mutual
  pub r_collection : (x : Collection) → RCollection x
  r_collection (collection_one x) = remade collection_one (λ d y. refl) (λ y s. (s.0, ap (more_parts no_parts) s.0)) (rewritten (eq_tuples x) (r_tuple x))
  r_collection (collection_more l p x) = rewritten (λ pen. ap (written (tuple_tree x)) (separate_collections lex.Semicolon l (written_parts lex.Semicolon (collection_parts l) pen)))
      (remade (λ y. collection_more y.0 y.1.0 y.1.1) (λ d y. refl) (λ y s. (ap collection (parts_same _ _ _ _ s.0.1 s.1.1.0), parts_same _ _ _ _ s.0.1 s.1.1.0)) (seq (r_collection l) (seq (tok_sign lex.Semicolon p) (rewritten (eq_tuples x) (r_tuple x)))))

  r_tuple : (x : Tuple) → RTuple x
  r_tuple (tuple_one x) = remade tuple_one (λ d y. refl) (λ y s. (s, ap (more_parts no_parts) s)) (r_choice x)
  r_tuple (tuple_more l p x) = rewritten (λ pen. ap (written (choice_tree x)) (separate_tuples lex.Comma l (written_parts lex.Comma (tuple_parts l) pen)))
      (remade (λ y. tuple_more y.0 y.1.0 y.1.1) (λ d y. refl) (λ y s. (ap tuple (parts_same _ _ _ _ s.0.1 s.1.1), parts_same _ _ _ _ s.0.1 s.1.1)) (seq (r_tuple l) (seq (tok_sign lex.Comma p) (r_choice x))))

  r_choice : (x : Choice) → RChoice x
  r_choice (if_then p t o y e n) = remade (λ z. if_then z.0 z.1.0 z.1.1.0 z.1.1.1.0 z.1.1.1.1.0 z.1.1.1.1.1) (λ d z. refl) (λ z s. conditional_same _ _ _ _ _ _ s.1.0.0 s.1.1.1.0.0 s.1.1.1.1.1)
      (deeper (seq (tok_reserved the.If p) (seq (as_whole t (r_collection t)) (seq (tok_reserved the.Then o) (seq (as_whole y (r_collection y)) (seq (tok_reserved the.Else e) (r_choice n)))))))
  r_choice (no_if x) = remade no_if (λ d y. refl) (λ y s. s.0) (rewritten (eq_bars x) (r_bar x))

  r_bar : (x : Bar) → RBar x
  r_bar (bar_one x) = remade bar_one (λ d y. refl) (λ y s. (s.0, s.0, refl)) (rewritten (eq_eithers x) (r_either x))
  r_bar (bar_more l p x) = remade (λ y. bar_more y.0 y.1.0 y.1.1) (λ d y. refl) (λ y s. (chained operator.Bar _ _ _ _ _ _ s.0.1 s.0.2 s.1.1.0, s.0.1, linked_same operator.Bar _ _ _ _ s.0.2 s.1.1.0)) (seq (r_bar l) (seq (tok_sign lex.Bar p) (rewritten (eq_eithers x) (r_either x))))

  r_either : (x : Either) → REither x
  r_either (either_one x) = remade either_one (λ d y. refl) (λ y s. (s.0, s.0, refl)) (rewritten (eq_boths x) (r_both x))
  r_either (either_more l p x) = remade (λ y. either_more y.0 y.1.0 y.1.1) (λ d y. refl) (λ y s. (chained operator.Or _ _ _ _ _ _ s.0.1 s.0.2 s.1.1.0, s.0.1, linked_same operator.Or _ _ _ _ s.0.2 s.1.1.0)) (seq (r_either l) (seq (tok_reserved the.Or p) (rewritten (eq_boths x) (r_both x))))

  r_both : (x : Both) → RBoth x
  r_both (both_one x) = remade both_one (λ d y. refl) (λ y s. (s, s, refl)) (r_relation x)
  r_both (both_more l p x) = remade (λ y. both_more y.0 y.1.0 y.1.1) (λ d y. refl) (λ y s. (chained operator.And _ _ _ _ _ _ s.0.1 s.0.2 s.1.1, s.0.1, linked_same operator.And _ _ _ _ s.0.2 s.1.1)) (seq (r_both l) (seq (tok_reserved the.And p) (r_relation x)))

  r_relation : (x : Relation) → RRelation x
  r_relation (no_relop s) = remade no_relop (λ d y. refl) (λ y k. k.0) (rewritten (eq_sums s) (r_sum s))
  r_relation (relates s r t) = remade (λ y. relates y.0 y.1.0 y.1.1) (λ d y. refl) (λ y k. related_same _ _ _ _ _ _ k.0.0 k.1.0 k.1.1.0) (seq (rewritten (eq_sums s) (r_sum s)) (seq (r_relop r) (rewritten (eq_sums t) (r_sum t))))

  r_sum : (x : Sum) → RSum x
  r_sum (sum_one x) = remade sum_one (λ d y. refl) (λ y s. (s.0, s.0, refl)) (rewritten (eq_products x) (r_product x))
  r_sum (sum_more l p s x) = remade (λ y. sum_more y.0 y.1.0 s y.1.1) (λ d y. refl) (λ y k. (chained (sum_operator s) _ _ _ _ _ _ k.0.1 k.0.2 k.1.1.0, k.0.1, linked_same (sum_operator s) _ _ _ _ k.0.2 k.1.1.0)) (seq (r_sum l) (seq (tok_sum s p) (rewritten (eq_products x) (r_product x))))

  r_product : (x : Product) → RProduct x
  r_product (product_one x) = remade product_one (λ d y. refl) (λ y s. (s, s, refl)) (r_unary x)
  r_product (product_more l p s x) = remade (λ y. product_more y.0 y.1.0 s y.1.1) (λ d y. refl) (λ y k. (chained (product_operator s) _ _ _ _ _ _ k.0.1 k.0.2 k.1.1, k.0.1, linked_same (product_operator s) _ _ _ _ k.0.2 k.1.1)) (seq (r_product l) (seq (tok_product s p) (r_unary x)))

  r_unary : (x : Unary) → RUnary x
  r_unary (signed p s x) = remade (λ y. signed y.0 s y.1) (λ d y. refl) (λ y k. ap (unary nowhere s) k.1) (deeper (seq (tok_unary s p) (r_unary x)))
  r_unary (no_sign x) = remade no_sign (λ d y. refl) (λ y k. k.0) (rewritten (eq_casts x) (r_cast x))

  r_cast : (x : Cast) → RCast x
  r_cast (cast_one x) = remade cast_one (λ d y. refl) (λ y k. (k, k, refl)) (r_reference x)
  r_cast (cast_more l p ws) = rewritten (λ pen. casts_more (cast_list l) (record { place = words_place ws; words = words_text ws }) (written (cast_head l) pen))
      (remade (λ y. cast_more y.0 y.1.0 y.1.1) (λ d y. refl)
      (λ y k.
      let cs = casts_same (cast_list y.0) (cast_list l) (record { place = words_place y.1.1; words = words_text y.1.1 }) (record { place = words_place ws; words = words_text ws }) k.0.2 k.1.1 in
      (cast_same _ _ _ _ k.0.1 cs, k.0.1, cs))
      (seq (r_cast l) (seq (tok_reserved the.As p) (r_words ws))))

  r_reference : (x : Reference) → RReference x
  r_reference (no_object x) = remade no_object (λ d y. refl) (λ y k. k) (r_term x)
  r_reference (of_object x p r) = rewritten (eq_object x (reference_tree r))
      (remade (λ y. of_object y.0 y.1.0 y.1.1) (λ d y. refl) (λ y k. object_same (term_tree y.0) (term_tree x) (reference_tree y.1.1) (reference_tree r) k.0 k.1.1) (seq (r_term_head x) (seq (tok_reserved the.Of p) (deeper (r_reference r)))))

  r_term : (x : Term) → RTerm x
  r_term (no_filter x) = remade no_filter (λ d y. refl) (λ y k. k) (r_primary x)
  r_term (filtered x w p q c) = rewritten (eq_filter x (enclosed p (collection_tree q) c))
      (remade (λ y. filtered y.0 y.1.0 y.1.1.0 y.1.1.1.0 y.1.1.1.1) (λ d y. refl)
      (λ y k. filter_same (primary_tree y.0) (primary_tree x) (enclosed y.1.1.0 (collection_tree y.1.1.1.0) y.1.1.1.1) (enclosed p (collection_tree q) c) k.0 (ap (λ u. body nowhere u no_tree no_tree) k.1.1.1.0.0))
      (seq (r_head x) (seq (tok_reserved the.Whose w) (deeper (seq (tok_sign lex.OpenBracket p) (seq (as_whole q (r_collection q)) (tok_sign lex.CloseBracket c)))))))

  r_term_head : (x : Term) → RTermHead x
  r_term_head (no_filter x) = remade no_filter (λ d y. refl) (λ y k. k) (r_head x)
  r_term_head (filtered x w p q c) = rewritten (eq_filter_head x (enclosed p (collection_tree q) c))
      (remade (λ y. filtered y.0 y.1.0 y.1.1.0 y.1.1.1.0 y.1.1.1.1) (λ d y. refl)
      (λ y k. ap bare (head-filtered y.0 (enclosed y.1.1.0 (collection_tree y.1.1.1.0) y.1.1.1.1))
      ∙ filter_same (primary_tree y.0) (primary_tree x) (enclosed y.1.1.0 (collection_tree y.1.1.1.0) y.1.1.1.1) (enclosed p (collection_tree q) c) k.0 (ap (λ u. body nowhere u no_tree no_tree) k.1.1.1.0.0)
      ∙ sym (ap bare (head-filtered x (enclosed p (collection_tree q) c))))
      (seq (r_head x) (seq (tok_reserved the.Whose w) (deeper (seq (tok_sign lex.OpenBracket p) (seq (as_whole q (r_collection q)) (tok_sign lex.CloseBracket c)))))))

  r_primary : (x : Primary) → RPrimary x
  r_primary (a_number p n) = remade (λ q. a_number q n) (λ d q. refl) (λ q s. refl) (tok (number n) p (put_number n) (spell_number n) (costs_number n))
  r_primary (a_string p t) = remade (λ q. a_string q t) (λ d q. refl) (λ q s. refl) (tok (string t) p (put_string t) (spell_string t) (costs_string t))
  r_primary (an_it p) = remade an_it (λ d q. refl) (λ q s. refl) (tok_reserved the.It p)
  r_primary (brackets p q c) = remade (λ y. brackets y.0 y.1.0 y.1.1) (λ d y. refl) (λ y s. ap (λ t. body nowhere t no_tree no_tree) s.1.0.0) (deeper (seq (tok_sign lex.OpenBracket p) (seq (as_whole q (r_collection q)) (tok_sign lex.CloseBracket c))))
  r_primary (some_words ws) = remade some_words (λ d y. refl) (λ y s. ap (λ t. phrase nowhere t no_tree no_tree no_tree) s) (r_words ws)
  r_primary (with_argument ws a) = remade (λ y. with_argument y.0 y.1) (λ d y. refl) (λ y s. phrase_same _ _ _ _ s.0 s.1) (seq (r_words ws) (r_argument a))

  r_head : (x : Primary) → RHead x
  r_head (a_number p n) = remade (λ q. a_number q n) (λ d q. refl) (λ q s. refl) (tok (number n) p (put_number n) (spell_number n) (costs_number n))
  r_head (a_string p t) = remade (λ q. a_string q t) (λ d q. refl) (λ q s. refl) (tok (string t) p (put_string t) (spell_string t) (costs_string t))
  r_head (an_it p) = remade an_it (λ d q. refl) (λ q s. refl) (tok_reserved the.It p)
  r_head (brackets p q c) = head_brackets p q c (collection_tree q) refl (r_collection q)
  r_head (some_words ws) = remade some_words (λ d y. refl) (λ y s. ap (λ t. phrase nowhere t no_tree no_tree no_tree) s) (r_words ws)
  r_head (with_argument ws a) = remade (λ y. with_argument y.0 y.1) (λ d y. refl) (λ y s. phrase_same _ _ _ _ s.0 s.1) (seq (r_words ws) (r_argument a))

  r_argument : (x : Argument) → RArgument x
  r_argument (argument_number p n) = remade (λ q. argument_number q n) (λ d q. refl) (λ q s. refl) (tok (number n) p (put_number n) (spell_number n) (costs_number n))
  r_argument (argument_string p t) = remade (λ q. argument_string q t) (λ d q. refl) (λ q s. refl) (tok (string t) p (put_string t) (spell_string t) (costs_string t))
  r_argument (argument_brackets p q c) = remade (λ y. argument_brackets y.0 y.1.0 y.1.1) (λ d y. refl) (λ y s. ap (λ t. body nowhere t no_tree no_tree) s.1.0.0) (deeper (seq (tok_sign lex.OpenBracket p) (seq (as_whole q (r_collection q)) (tok_sign lex.CloseBracket c))))
