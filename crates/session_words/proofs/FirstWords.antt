-- Each phrase of a tree stands as deep as its first word.
use Rattle.std.proofs.Common.{◌≡◌, ℕ, ◌+◌, List, [], ◌∷◌, ◌++◌, refl, sym, ap, subst, ◌∙◌, append_assoc}
use Rattle.rel_lexer.specs.declared.place.Place.{Place}
use Rattle.rel_grammar.specs.Grammar.{Words, one_word, more_words, Collection, collection_one, collection_more, Tuple, tuple_one, tuple_more, Choice, if_then, no_if, Bar, bar_one, bar_more, Either, either_one, either_more, Both, both_one, both_more, Relation, no_relop, relates, Sum, sum_one, sum_more, Product, product_one, product_more, Unary, signed, no_sign, Cast, cast_one, cast_more, Reference, no_object, of_object, Term, no_filter, filtered, Primary, a_number, a_string, an_it, brackets, some_words, with_argument, Argument, argument_number, argument_string, argument_brackets, Question}
use Rattle.rel_grammar.specs.Sentences.{question_marks}
use Rattle.rel_grammar.specs.Spelling.{Mark, words_marks, collection_marks, tuple_marks, choice_marks, bar_marks, either_marks, both_marks, relation_marks, sum_marks, product_marks, unary_marks, cast_marks, reference_marks, term_marks, primary_marks, argument_marks}
use Rattle.rel_grammar.specs.Trees.{Plain, numeral, literal, it, phrase, body, Held, no_tree, a_tree, with_filter, with_object, enclosed, span_of, words_from, words_place, words_text, argument_to, argument_tree, collection_tree, collection_parts, tuple_tree, tuple_parts, choice_tree, bar_tree, bar_head, bar_links, either_tree, either_head, either_links, both_tree, both_head, both_links, relation_tree, sum_tree, sum_head, sum_links, product_tree, product_head, product_links, unary_tree, cast_tree, cast_head, reference_tree, term_tree, primary_tree, question_tree}
use Rattle.session_words.specs.Depths.{AreAsDeep, HasWordAt, Standing, held_phrases, link_phrases, part_phrases, phrases}

-- ---- tokens among others
word_ahead : (a b : List Mark) (d n : ℕ) → HasWordAt b d n → HasWordAt (a ++ b) d n
word_ahead a b d n p = record {
  before = a ++ p.before;
  word = p.word;
  place = p.place;
  after = p.after;
  is = ap (λ l. a ++ l) p.is ∙ sym (append_assoc a p.before _);
  begins = p.begins;
}

word_behind : (a b : List Mark) (d n : ℕ) → HasWordAt a d n → HasWordAt (a ++ b) d n
word_behind a b d n p = record {
  before = p.before;
  word = p.word;
  place = p.place;
  after = p.after ++ b;
  is = ap (λ l. l ++ b) p.is ∙ append_assoc p.before _ b;
  begins = p.begins;
}

ahead : (a b : List Mark) (ss : List Standing) → AreAsDeep b ss → AreAsDeep (a ++ b) ss
ahead a b [] all = tt
ahead a b (s ∷ ss) all = (word_ahead a b s.depth s.place.from all.0, ahead a b ss all.1)

behind : (a b : List Mark) (ss : List Standing) → AreAsDeep a ss → AreAsDeep (a ++ b) ss
behind a b [] all = tt
behind a b (s ∷ ss) all = (word_behind a b s.depth s.place.from all.0, behind a b ss all.1)

past : (m : Mark) (ms : List Mark) (ss : List Standing) → AreAsDeep ms ss → AreAsDeep (m ∷ ms) ss
past m ms ss all = ahead (m ∷ []) ms ss all

both : (ms : List Mark) (ss rest : List Standing) → AreAsDeep ms ss → AreAsDeep ms rest → AreAsDeep ms (ss ++ rest)
both ms [] rest first second = second
both ms (s ∷ ss) rest first second = (first.0, both ms ss rest first.1 second)

left_of : (ms : List Mark) (ss rest : List Standing) → AreAsDeep ms (ss ++ rest) → AreAsDeep ms ss
left_of ms [] rest all = tt
left_of ms (s ∷ ss) rest all = (all.0, left_of ms ss rest all.1)

right_of : (ms : List Mark) (ss rest : List Standing) → AreAsDeep ms (ss ++ rest) → AreAsDeep ms rest
right_of ms [] rest all = all
right_of ms (s ∷ ss) rest all = right_of ms ss rest all.1

-- phrases of two stretches of tokens
joined : (a b : List Mark) (ss rest : List Standing) → AreAsDeep a ss → AreAsDeep b rest → AreAsDeep (a ++ b) (ss ++ rest)
joined a b ss rest first second = both (a ++ b) ss rest (behind a b ss first) (ahead a b rest second)

-- phrases of one more stretch of tokens behind two others
regrouped : (a b : List Mark) (xs ys zs : List Standing) → AreAsDeep a (xs ++ ys) → AreAsDeep b zs → AreAsDeep (a ++ b) (xs ++ (ys ++ zs))
regrouped a b xs ys zs first second =
    both (a ++ b) xs (ys ++ zs) (behind a b xs (left_of a xs ys first)) (joined a b ys zs (right_of a xs ys first) second)

alone : (ms : List Mark) (ss : List Standing) → AreAsDeep ms ss → AreAsDeep ms (ss ++ [])
alone ms ss all = both ms ss [] all tt

-- ---- words
first_word : (d : ℕ) (ws : Words) → HasWordAt (words_marks d ws) d (words_from ws)
first_word d (one_word p w) = record { before = []; word = w; place = p; after = []; is = refl; begins = refl }
first_word d (more_words ws p w) = word_behind (words_marks d ws) _ d (words_from ws) (first_word d ws)

-- ---- heads with what follows them
abbrev attached : Primary → Held → Held → Plain
attached (a_number p n) f o = body p (numeral p n) f o
attached (a_string p t) f o = body p (literal p t) f o
attached (an_it p) f o = body p (it p) f o
attached (brackets p q close) f o = body (span_of p close) (collection_tree q) f o
attached (some_words ws) f o = phrase (words_place ws) (words_text ws) no_tree f o
attached (with_argument ws a) f o = phrase (record { from = words_from ws; to = argument_to a }) (words_text ws) (a_tree (argument_tree a)) f o

filtered-is : (x : Primary) (f : Plain) → attached x (a_tree f) no_tree ≡ with_filter (primary_tree x) f
filtered-is (a_number p n) f = refl
filtered-is (a_string p t) f = refl
filtered-is (an_it p) f = refl
filtered-is (brackets p q close) f = refl
filtered-is (some_words ws) f = refl
filtered-is (with_argument ws a) f = refl

object-is : (x : Primary) (o : Plain) → attached x no_tree (a_tree o) ≡ with_object (primary_tree x) o
object-is (a_number p n) o = refl
object-is (a_string p t) o = refl
object-is (an_it p) o = refl
object-is (brackets p q close) o = refl
object-is (some_words ws) o = refl
object-is (with_argument ws a) o = refl

both-is : (x : Primary) (f o : Plain) → attached x (a_tree f) (a_tree o) ≡ with_object (with_filter (primary_tree x) f) o
both-is (a_number p n) f o = refl
both-is (a_string p t) f o = refl
both-is (an_it p) f o = refl
both-is (brackets p q close) f o = refl
both-is (some_words ws) f o = refl
both-is (with_argument ws a) f o = refl

head : (ms : List Mark) (d : ℕ) (x : Primary) (f o : Held) → AreAsDeep ms (phrases d (primary_tree x)) → AreAsDeep ms (held_phrases d f)
    → AreAsDeep ms (held_phrases (d + 1) o) → AreAsDeep ms (phrases d (attached x f o))
head ms d (a_number p n) f o own filter object = both ms (held_phrases d f) (held_phrases (d + 1) o) filter object
head ms d (a_string p t) f o own filter object = both ms (held_phrases d f) (held_phrases (d + 1) o) filter object
head ms d (an_it p) f o own filter object = both ms (held_phrases d f) (held_phrases (d + 1) o) filter object
head ms d (brackets p q close) f o own filter object =
    both ms (phrases (d + 1) (collection_tree q)) (held_phrases d f ++ held_phrases (d + 1) o) (left_of ms (phrases (d + 1) (collection_tree q)) [] own)
    (both ms (held_phrases d f) (held_phrases (d + 1) o) filter object)
head ms d (some_words ws) f o own filter object = (own.0, both ms (held_phrases d f) (held_phrases (d + 1) o) filter object)
head ms d (with_argument ws a) f o own filter object = (
  own.0,
  both ms (phrases d (argument_tree a)) (held_phrases d f ++ held_phrases (d + 1) o) (left_of ms (phrases d (argument_tree a)) [] own.1)
      (both ms (held_phrases d f) (held_phrases (d + 1) o) filter object),
)

-- ---- levels by their lists
collection_of : (d : ℕ) (x : Collection) → AreAsDeep (collection_marks d x) (part_phrases d (collection_parts x)) → AreAsDeep (collection_marks d x) (phrases d (collection_tree x))
collection_of d (collection_one x) all = all
collection_of d (collection_more l p x) all = all

tuple_of : (d : ℕ) (x : Tuple) → AreAsDeep (tuple_marks d x) (part_phrases d (tuple_parts x)) → AreAsDeep (tuple_marks d x) (phrases d (tuple_tree x))
tuple_of d (tuple_one x) all = all
tuple_of d (tuple_more l p x) all = all

bar_of : (d : ℕ) (x : Bar) → AreAsDeep (bar_marks d x) (phrases d (bar_head x) ++ link_phrases d (bar_links x)) → AreAsDeep (bar_marks d x) (phrases d (bar_tree x))
bar_of d (bar_one x) all = left_of (either_marks d x) (phrases d (either_tree x)) [] all
bar_of d (bar_more l p x) all = all

either_of : (d : ℕ) (x : Either) → AreAsDeep (either_marks d x) (phrases d (either_head x) ++ link_phrases d (either_links x)) → AreAsDeep (either_marks d x) (phrases d (either_tree x))
either_of d (either_one x) all = left_of (both_marks d x) (phrases d (both_tree x)) [] all
either_of d (either_more l p x) all = all

both_of : (d : ℕ) (x : Both) → AreAsDeep (both_marks d x) (phrases d (both_head x) ++ link_phrases d (both_links x)) → AreAsDeep (both_marks d x) (phrases d (both_tree x))
both_of d (both_one x) all = left_of (relation_marks d x) (phrases d (relation_tree x)) [] all
both_of d (both_more l p x) all = all

sum_of : (d : ℕ) (x : Sum) → AreAsDeep (sum_marks d x) (phrases d (sum_head x) ++ link_phrases d (sum_links x)) → AreAsDeep (sum_marks d x) (phrases d (sum_tree x))
sum_of d (sum_one x) all = left_of (product_marks d x) (phrases d (product_tree x)) [] all
sum_of d (sum_more l p s x) all = all

product_of : (d : ℕ) (x : Product) → AreAsDeep (product_marks d x) (phrases d (product_head x) ++ link_phrases d (product_links x)) → AreAsDeep (product_marks d x) (phrases d (product_tree x))
product_of d (product_one x) all = left_of (unary_marks d x) (phrases d (unary_tree x)) [] all
product_of d (product_more l p s x) all = all

cast_of : (d : ℕ) (x : Cast) → AreAsDeep (cast_marks d x) (phrases d (cast_head x)) → AreAsDeep (cast_marks d x) (phrases d (cast_tree x))
cast_of d (cast_one x) all = all
cast_of d (cast_more l p ws) all = all

-- what stands in brackets is one level deeper
brackets_of : (d : ℕ) (p : Place) (q : Collection) (close : Place) → AreAsDeep (collection_marks (d + 1) q) (part_phrases (d + 1) (collection_parts q))
    → AreAsDeep (primary_marks d (brackets p q close)) (phrases d (enclosed p (collection_tree q) close))
brackets_of d p q close inside =
    past _ _ (phrases d (enclosed p (collection_tree q) close))
    (behind (collection_marks (d + 1) q) _ (phrases d (enclosed p (collection_tree q) close))
    (alone (collection_marks (d + 1) q) (phrases (d + 1) (collection_tree q)) (collection_of (d + 1) q inside)))

-- ---- the parts of a question
mutual
  collection_deep : (d : ℕ) (x : Collection) → AreAsDeep (collection_marks d x) (part_phrases d (collection_parts x))
  collection_deep d (collection_one x) = tuple_of d x (tuple_deep d x)
  collection_deep d (collection_more l p x) =
      joined (collection_marks d l) _ (part_phrases d (collection_parts l)) (phrases d (tuple_tree x)) (collection_deep d l) (past _ _ (phrases d (tuple_tree x)) (tuple_of d x (tuple_deep d x)))

  tuple_deep : (d : ℕ) (x : Tuple) → AreAsDeep (tuple_marks d x) (part_phrases d (tuple_parts x))
  tuple_deep d (tuple_one x) = choice_deep d x
  tuple_deep d (tuple_more l p x) =
      joined (tuple_marks d l) _ (part_phrases d (tuple_parts l)) (phrases d (choice_tree x)) (tuple_deep d l) (past _ _ (phrases d (choice_tree x)) (choice_deep d x))

  choice_deep : (d : ℕ) (x : Choice) → AreAsDeep (choice_marks d x) (phrases d (choice_tree x))
  choice_deep d (if_then p t o y e n) =
      let one = d + 1 in
      past _ _ _ (joined (collection_marks one t) _ (phrases one (collection_tree t)) _ (collection_of one t (collection_deep one t))
      (past _ _ _ (joined (collection_marks one y) _ (phrases one (collection_tree y)) (phrases one (choice_tree n)) (collection_of one y (collection_deep one y))
      (past _ _ (phrases one (choice_tree n)) (choice_deep one n)))))
  choice_deep d (no_if x) = bar_of d x (bar_deep d x)

  bar_deep : (d : ℕ) (x : Bar) → AreAsDeep (bar_marks d x) (phrases d (bar_head x) ++ link_phrases d (bar_links x))
  bar_deep d (bar_one x) = alone (either_marks d x) (phrases d (either_tree x)) (either_of d x (either_deep d x))
  bar_deep d (bar_more l p x) =
      regrouped (bar_marks d l) _ (phrases d (bar_head l)) (link_phrases d (bar_links l)) (phrases d (either_tree x)) (bar_deep d l)
      (past _ _ (phrases d (either_tree x)) (either_of d x (either_deep d x)))

  either_deep : (d : ℕ) (x : Either) → AreAsDeep (either_marks d x) (phrases d (either_head x) ++ link_phrases d (either_links x))
  either_deep d (either_one x) = alone (both_marks d x) (phrases d (both_tree x)) (both_of d x (both_deep d x))
  either_deep d (either_more l p x) =
      regrouped (either_marks d l) _ (phrases d (either_head l)) (link_phrases d (either_links l)) (phrases d (both_tree x)) (either_deep d l)
      (past _ _ (phrases d (both_tree x)) (both_of d x (both_deep d x)))

  both_deep : (d : ℕ) (x : Both) → AreAsDeep (both_marks d x) (phrases d (both_head x) ++ link_phrases d (both_links x))
  both_deep d (both_one x) = alone (relation_marks d x) (phrases d (relation_tree x)) (relation_deep d x)
  both_deep d (both_more l p x) =
      regrouped (both_marks d l) _ (phrases d (both_head l)) (link_phrases d (both_links l)) (phrases d (relation_tree x)) (both_deep d l)
      (past _ _ (phrases d (relation_tree x)) (relation_deep d x))

  relation_deep : (d : ℕ) (x : Relation) → AreAsDeep (relation_marks d x) (phrases d (relation_tree x))
  relation_deep d (no_relop s) = sum_of d s (sum_deep d s)
  relation_deep d (relates s r t) =
      joined (sum_marks d s) _ (phrases d (sum_tree s)) (phrases d (sum_tree t)) (sum_of d s (sum_deep d s))
      (ahead _ (sum_marks d t) (phrases d (sum_tree t)) (sum_of d t (sum_deep d t)))

  sum_deep : (d : ℕ) (x : Sum) → AreAsDeep (sum_marks d x) (phrases d (sum_head x) ++ link_phrases d (sum_links x))
  sum_deep d (sum_one x) = alone (product_marks d x) (phrases d (product_tree x)) (product_of d x (product_deep d x))
  sum_deep d (sum_more l p s x) =
      regrouped (sum_marks d l) _ (phrases d (sum_head l)) (link_phrases d (sum_links l)) (phrases d (product_tree x)) (sum_deep d l)
      (past _ _ (phrases d (product_tree x)) (product_of d x (product_deep d x)))

  product_deep : (d : ℕ) (x : Product) → AreAsDeep (product_marks d x) (phrases d (product_head x) ++ link_phrases d (product_links x))
  product_deep d (product_one x) = alone (unary_marks d x) (phrases d (unary_tree x)) (unary_deep d x)
  product_deep d (product_more l p s x) =
      regrouped (product_marks d l) _ (phrases d (product_head l)) (link_phrases d (product_links l)) (phrases d (unary_tree x)) (product_deep d l)
      (past _ _ (phrases d (unary_tree x)) (unary_deep d x))

  unary_deep : (d : ℕ) (x : Unary) → AreAsDeep (unary_marks d x) (phrases d (unary_tree x))
  unary_deep d (signed p s x) = past _ _ (phrases (d + 1) (unary_tree x)) (unary_deep (d + 1) x)
  unary_deep d (no_sign x) = cast_of d x (cast_deep d x)

  cast_deep : (d : ℕ) (x : Cast) → AreAsDeep (cast_marks d x) (phrases d (cast_head x))
  cast_deep d (cast_one x) = reference_deep d x
  cast_deep d (cast_more l p ws) = behind (cast_marks d l) _ (phrases d (cast_head l)) (cast_deep d l)

  reference_deep : (d : ℕ) (x : Reference) → AreAsDeep (reference_marks d x) (phrases d (reference_tree x))
  reference_deep d (no_object x) = term_deep d x
  reference_deep d (of_object (no_filter x) p r) =
      let ms = reference_marks d (of_object (no_filter x) p r) in
      let AreAs : Plain → Type 0 = λ t. AreAsDeep ms (phrases d t) in
      subst AreAs (object-is x (reference_tree r))
      (head ms d x no_tree (a_tree (reference_tree r)) (behind (primary_marks d x) _ (phrases d (primary_tree x)) (primary_deep d x)) tt
      (ahead (primary_marks d x) _ (phrases (d + 1) (reference_tree r)) (past _ _ (phrases (d + 1) (reference_tree r)) (reference_deep (d + 1) r))))
  reference_deep d (of_object (filtered x w q c close) p r) =
      let ms = reference_marks d (of_object (filtered x w q c close) p r) in
      let term = term_marks d (filtered x w q c close) in
      let test = enclosed q (collection_tree c) close in
      let AreAs : Plain → Type 0 = λ t. AreAsDeep ms (phrases d t) in
      subst AreAs (both-is x test (reference_tree r))
      (head ms d x (a_tree test) (a_tree (reference_tree r))
      (behind term _ (phrases d (primary_tree x)) (behind (primary_marks d x) _ (phrases d (primary_tree x)) (primary_deep d x)))
      (behind term _ (phrases d test) (ahead (primary_marks d x) _ (phrases d test) (past _ _ (phrases d test) (brackets_of d q c close (collection_deep (d + 1) c)))))
      (ahead term _ (phrases (d + 1) (reference_tree r)) (past _ _ (phrases (d + 1) (reference_tree r)) (reference_deep (d + 1) r))))

  term_deep : (d : ℕ) (x : Term) → AreAsDeep (term_marks d x) (phrases d (term_tree x))
  term_deep d (no_filter x) = primary_deep d x
  term_deep d (filtered x w q c close) =
      let ms = term_marks d (filtered x w q c close) in
      let test = enclosed q (collection_tree c) close in
      let AreAs : Plain → Type 0 = λ t. AreAsDeep ms (phrases d t) in
      subst AreAs (filtered-is x test)
      (head ms d x (a_tree test) no_tree (behind (primary_marks d x) _ (phrases d (primary_tree x)) (primary_deep d x))
      (ahead (primary_marks d x) _ (phrases d test) (past _ _ (phrases d test) (brackets_of d q c close (collection_deep (d + 1) c)))) tt)

  primary_deep : (d : ℕ) (x : Primary) → AreAsDeep (primary_marks d x) (phrases d (primary_tree x))
  primary_deep d (a_number p n) = tt
  primary_deep d (a_string p t) = tt
  primary_deep d (an_it p) = tt
  primary_deep d (brackets p q close) = brackets_of d p q close (collection_deep (d + 1) q)
  primary_deep d (some_words ws) = (first_word d ws, tt)
  primary_deep d (with_argument ws a) = (
    word_behind (words_marks d ws) _ d (words_from ws) (first_word d ws),
    ahead (words_marks d ws) (argument_marks d a) (phrases d (argument_tree a) ++ []) (alone (argument_marks d a) (phrases d (argument_tree a)) (argument_deep d a)),
  )

  argument_deep : (d : ℕ) (x : Argument) → AreAsDeep (argument_marks d x) (phrases d (argument_tree x))
  argument_deep d (argument_number p n) = tt
  argument_deep d (argument_string p t) = tt
  argument_deep d (argument_brackets p q close) = brackets_of d p q close (collection_deep (d + 1) q)

pub as_deep : (q : Question) → AreAsDeep (question_marks q) (phrases 0 (question_tree q))
as_deep q = collection_of 0 q (collection_deep 0 q)
