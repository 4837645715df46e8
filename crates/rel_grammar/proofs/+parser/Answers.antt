use Rattle.std.proofs.Common.{◌∙◌, ap, arith, length, false, refl}
use Rattle.std.proofs.lemmas.Result.{err_from_is_err_and, MatchResult-weaker}
use Rattle.rel_grammar.specs.Trees.{more_links}
use Rattle.rel_grammar.specs.Views.{shown, shown_parts, shown_links}
use Rattle.rel_grammar.proofs.ListJoins as list
use Rattle.rel_grammar.proofs.ChainJoins as chain
use Rattle.rel_grammar.proofs.HeadJoins as head
use Rattle.rel_grammar.proofs.PrimaryJoins as primary
use Rattle.rel_grammar.proofs.ChoiceJoins as choice
use Rattle.rel_grammar.proofs.+parser.Goals as goal

-- collection
pub parser::collection-loop-parts-init : goal.parser::collection-loop-parts-init
parser::collection-loop-parts-init t c = list.collection_first_read c.args.depth _ (shown c.in_ok-first.first) _ _ _ (shown_parts c.new-parts.result) (shown_parts c.push.new.self) c.in_ok-first.ensures (c.in-Some.ensures false) c.new-parts.ensures c.in_ok-push.ensures

pub parser::collection-loop-parts-preserved : goal.parser::collection-loop-parts-preserved
parser::collection-loop-parts-preserved t c = list.collection_more_read c.args.depth _ (shown_parts c.loop-parts.parts) (shown_parts c.push-in-loop-parts.new.self) _ (shown c.in_ok-part.part) _ _ _ c.requires c.loop-parts.invariant c.in_ok-part.ensures (c.in-Some-after.ensures false) c.in_ok-push-2.ensures

pub parser::collection-loop-parts-smaller : goal.parser::collection-loop-parts-smaller
parser::collection-loop-parts-smaller t c = let s = c.in_ok-part.ensures in let k = s.shorter in omega (arith, k, ap length (c.in-Some-after.ensures false))

pub parser::collection-returns-in-None : goal.parser::collection-returns-in-None
parser::collection-returns-in-None t c = list.collection_last_read c.args.depth _ (shown_parts c.loop-parts.parts) (shown_parts c.push-in-loop-parts.new.self) _ (shown c.in_ok-part.part) _ (shown c.collection.result) c.requires c.loop-parts.invariant c.in_ok-part.ensures (c.in-None.ensures false) c.in_ok-push-2.ensures c.collection.ensures

pub parser::collection-returns-in_default : goal.parser::collection-returns-in_default
parser::collection-returns-in_default t c = list.collection_one_read c.args.depth _ (shown c.in_ok-first.first) _ c.in_ok-first.ensures (c.in_default.ensures false)

pub parser::collection-returns-in_err-first : goal.parser::collection-returns-in_err-first
parser::collection-returns-in_err-first t c = let p = err_from_is_err_and c.from_residual.result c.from_residual.ensures.1 in rw (p.1, p.2) (list.collection_first_fails c.args.depth c.args.end _ _ c.in_err-first.ensures)

pub parser::collection-returns-in_err-part : goal.parser::collection-returns-in_err-part
parser::collection-returns-in_err-part t c = let p = err_from_is_err_and c.from_residual-in_err-part.result c.from_residual-in_err-part.ensures.1 in rw (p.1, p.2) (list.collection_fails c.args.depth c.args.end _ (shown_parts c.loop-parts.parts) _ _ c.requires c.loop-parts.invariant c.in_err-part.ensures)

-- tuple
pub parser::tuple-loop-parts-init : goal.parser::tuple-loop-parts-init
parser::tuple-loop-parts-init t c = list.tuple_first_read c.args.depth _ (shown c.in_ok-first.first) _ _ _ (shown_parts c.new-parts.result) (shown_parts c.push.new.self) c.in_ok-first.ensures (c.in-Some.ensures false) c.new-parts.ensures c.in_ok-push.ensures

pub parser::tuple-loop-parts-preserved : goal.parser::tuple-loop-parts-preserved
parser::tuple-loop-parts-preserved t c = list.tuple_more_read c.args.depth _ (shown_parts c.loop-parts.parts) (shown_parts c.push-in-loop-parts.new.self) _ (shown c.in_ok-part.part) _ _ _ c.requires c.loop-parts.invariant c.in_ok-part.ensures (c.in-Some-after.ensures false) c.in_ok-push-2.ensures

pub parser::tuple-loop-parts-smaller : goal.parser::tuple-loop-parts-smaller
parser::tuple-loop-parts-smaller t c = let s = c.in_ok-part.ensures in let k = s.shorter in omega (arith, k, ap length (c.in-Some-after.ensures false))

pub parser::tuple-returns-in-None : goal.parser::tuple-returns-in-None
parser::tuple-returns-in-None t c = list.tuple_last_read c.args.depth _ (shown_parts c.loop-parts.parts) (shown_parts c.push-in-loop-parts.new.self) _ (shown c.in_ok-part.part) _ (shown c.tuple.result) c.requires c.loop-parts.invariant c.in_ok-part.ensures (c.in-None.ensures false) c.in_ok-push-2.ensures c.tuple.ensures

pub parser::tuple-returns-in_default : goal.parser::tuple-returns-in_default
parser::tuple-returns-in_default t c = list.tuple_one_read c.args.depth _ (shown c.in_ok-first.first) _ c.in_ok-first.ensures (c.in_default.ensures false)

pub parser::tuple-returns-in_err-first : goal.parser::tuple-returns-in_err-first
parser::tuple-returns-in_err-first t c = let p = err_from_is_err_and c.from_residual.result c.from_residual.ensures.1 in rw (p.1, p.2) (list.tuple_first_fails c.args.depth c.args.end _ _ c.in_err-first.ensures)

pub parser::tuple-returns-in_err-part : goal.parser::tuple-returns-in_err-part
parser::tuple-returns-in_err-part t c = let p = err_from_is_err_and c.from_residual-in_err-part.result c.from_residual-in_err-part.ensures.1 in rw (p.1, p.2) (list.tuple_fails c.args.depth c.args.end _ (shown_parts c.loop-parts.parts) _ _ c.requires c.loop-parts.invariant c.in_err-part.ensures)

-- choice
pub parser::choice-returns-in-None : goal.parser::choice-returns-in-None
parser::choice-returns-in-None t c = MatchResult-weaker c.chain.result c.chain.ensures (λ r h. choice.choice_plain c.args.depth _ (shown r.0) _ (c.in-None.ensures false) h) (λ e h. choice.choice_plain_fails c.args.depth c.args.end _ e (c.in-None.ensures false) h)

pub parser::choice-returns-in-Some : goal.parser::choice-returns-in-Some
parser::choice-returns-in-Some t c = rw (c.in-Some.ensures false) c.conditional.ensures

-- what stands after an `if`
pub parser::conditional-returns : goal.parser::conditional-returns
parser::conditional-returns t c = choice.choice_reads c.args.depth _ c.args.place (shown c.in_ok-test.test) (shown c.in_ok-yes.yes) _ (shown c.in_ok-no.no) _ (shown c.in_ok-conditional.field-0) (choice.else_reads c.args.depth _ c.args.place (shown c.in_ok-test.test) _ (shown c.in_ok-yes.yes) _ (omega arith) (choice.then_reads c.args.depth _ c.args.place _ (shown c.in_ok-test.test) _ (omega arith) refl c.in_ok-test.ensures) c.in_ok-yes.ensures) c.in_ok-no.ensures c.in_ok-conditional.ensures

pub parser::conditional-returns-in_err-no : goal.parser::conditional-returns-in_err-no
parser::conditional-returns-in_err-no t c = let p = err_from_is_err_and c.from_residual-in_err-no.result c.from_residual-in_err-no.ensures.1 in rw (p.1, p.2) (choice.no_fails c.args.depth c.args.end _ c.args.place (shown c.in_ok-test.test) (shown c.in_ok-yes.yes) _ _ (choice.else_reads c.args.depth _ c.args.place (shown c.in_ok-test.test) _ (shown c.in_ok-yes.yes) _ (omega arith) (choice.then_reads c.args.depth _ c.args.place _ (shown c.in_ok-test.test) _ (omega arith) refl c.in_ok-test.ensures) c.in_ok-yes.ensures) c.in_err-no.ensures)

pub parser::conditional-returns-in_err-test : goal.parser::conditional-returns-in_err-test
parser::conditional-returns-in_err-test t c = let p = err_from_is_err_and c.from_residual.result c.from_residual.ensures.1 in rw (p.1, p.2) (choice.test_fails c.args.depth c.args.end _ c.args.place _ _ (omega arith) refl c.in_err-test.ensures)

pub parser::conditional-returns-in_err-yes : goal.parser::conditional-returns-in_err-yes
parser::conditional-returns-in_err-yes t c = let p = err_from_is_err_and c.from_residual-in_err-yes.result c.from_residual-in_err-yes.ensures.1 in rw (p.1, p.2) (choice.yes_fails c.args.depth c.args.end _ c.args.place (shown c.in_ok-test.test) _ _ (choice.then_reads c.args.depth _ c.args.place _ (shown c.in_ok-test.test) _ (omega arith) refl c.in_ok-test.ensures) c.in_err-yes.ensures)

pub parser::conditional-returns-then-depth-eq-DEEPEST : goal.parser::conditional-returns-then-depth-eq-DEEPEST
parser::conditional-returns-then-depth-eq-DEEPEST t c = choice.choice_deep c.args.depth c.args.end _ c.args.place _ c.if-depth-eq-DEEPEST.true refl

-- a part and the word behind it
pub parser::up_to-returns-in-None : goal.parser::up_to-returns-in-None
parser::up_to-returns-in-None t c = choice.word_lacks c.args.depth c.args.word c.args.end _ (shown c.in_ok-part.part) _ c.place_at.result c.in_ok-part.ensures (c.in-None.ensures false) (c.place_at.ensures false)

pub parser::up_to-returns-in-Some : goal.parser::up_to-returns-in-Some
parser::up_to-returns-in-Some t c = choice.word_read c.args.depth c.args.word _ (shown c.in_ok-part.part) _ _ _ c.in_ok-part.ensures (c.in-Some.ensures false)

pub parser::up_to-returns-in_err-part : goal.parser::up_to-returns-in_err-part
parser::up_to-returns-in_err-part t c = let p = err_from_is_err_and c.from_residual.result c.from_residual.ensures.1 in rw (p.1, p.2) (choice.word_fails c.args.depth c.args.word c.args.end _ _ c.in_err-part.ensures)

-- chain
pub parser::chain-loop-links-init : goal.parser::chain-loop-links-init
parser::chain-loop-links-init t c = chain.chain_begins c.args.level c.args.depth _ (shown c.in_ok-first.first) _ _ _ _ (shown_links c.new-links.result) c.in_ok-first.ensures c.in-Some.ensures c.new-links.ensures

pub parser::chain-loop-links-preserved : goal.parser::chain-loop-links-preserved
parser::chain-loop-links-preserved t c = chain.chain_more_read c.args.level c.args.depth _ _ (shown_links c.loop-links.links) (shown_links c.push.new.self) _ _ _ (shown c.in_ok-right.right) _ _ _ _ c.requires c.loop-links.invariant c.in_ok-right.ensures c.in-Some-split_sign.ensures (c.in_ok-push.ensures ∙ ap (λ x. more_links (shown_links c.loop-links.links) x.0 x.1 x.2) c.link.ensures)

pub parser::chain-loop-links-smaller : goal.parser::chain-loop-links-smaller
parser::chain-loop-links-smaller t c = let s = c.in_ok-right.ensures in let k = s.shorter in omega (arith, k, ap length c.in-Some-split_sign.ensures.1)

pub parser::chain-returns-in-None : goal.parser::chain-returns-in-None
parser::chain-returns-in-None t c = chain.chain_last_read c.args.level c.args.depth _ _ (shown_links c.loop-links.links) (shown_links c.push.new.self) _ _ _ (shown c.in_ok-right.right) _ (shown c.in_ok-chain-in-None.field-0) c.requires c.loop-links.invariant c.in_ok-right.ensures c.in-None.ensures (c.in_ok-push.ensures ∙ ap (λ x. more_links (shown_links c.loop-links.links) x.0 x.1 x.2) c.link.ensures) c.in_ok-chain-in-None.ensures

pub parser::chain-returns-in_default : goal.parser::chain-returns-in_default
parser::chain-returns-in_default t c = chain.chain_one_read c.args.level c.args.depth _ (shown c.in_ok-first.first) _ c.in_ok-first.ensures c.in_default.ensures

pub parser::chain-returns-in_err-first : goal.parser::chain-returns-in_err-first
parser::chain-returns-in_err-first t c = let p = err_from_is_err_and c.from_residual.result c.from_residual.ensures.1 in rw (p.1, p.2) (chain.chain_first_fails c.args.level c.args.depth c.args.end _ _ c.in_err-first.ensures)

pub parser::chain-returns-in_err-right : goal.parser::chain-returns-in_err-right
parser::chain-returns-in_err-right t c = let p = err_from_is_err_and c.from_residual-in_err-right.result c.from_residual-in_err-right.ensures.1 in rw (p.1, p.2) (chain.chain_fails c.args.level c.args.depth c.args.end _ _ (shown_links c.loop-links.links) _ _ _ _ c.requires c.loop-links.invariant c.in_err-right.ensures)

-- operand
pub parser::operand-returns-in-Bar : goal.parser::operand-returns-in-Bar
parser::operand-returns-in-Bar t c = rw c.in-Bar.is (MatchResult-weaker c.chain.result c.chain.ensures (λ r h. chain.bar_part c.args.depth _ (shown r.0) _ h) (λ e h. h))

pub parser::operand-returns-in-Both : goal.parser::operand-returns-in-Both
parser::operand-returns-in-Both t c = rw c.in-Both.is c.relation.ensures

pub parser::operand-returns-in-Either : goal.parser::operand-returns-in-Either
parser::operand-returns-in-Either t c = rw c.in-Either.is (MatchResult-weaker c.chain-in-Either.result c.chain-in-Either.ensures (λ r h. chain.either_part c.args.depth _ (shown r.0) _ h) (λ e h. h))

pub parser::operand-returns-in-Product : goal.parser::operand-returns-in-Product
parser::operand-returns-in-Product t c = rw c.in-Product.is c.unary.ensures

pub parser::operand-returns-in-Sum : goal.parser::operand-returns-in-Sum
parser::operand-returns-in-Sum t c = rw c.in-Sum.is (MatchResult-weaker c.chain-in-Sum.result c.chain-in-Sum.ensures (λ r h. chain.sum_part c.args.depth _ (shown r.0) _ h) (λ e h. h))

-- relation
pub parser::relation-returns-in-None : goal.parser::relation-returns-in-None
parser::relation-returns-in-None t c = chain.relation_plain c.args.depth _ (shown c.in_ok-first.first) _ c.in_ok-first.ensures (rw c.in-None.is at c.in_ok-sign.ensures)

pub parser::relation-returns-in_err-first : goal.parser::relation-returns-in_err-first
parser::relation-returns-in_err-first t c = let p = err_from_is_err_and c.from_residual.result c.from_residual.ensures.1 in rw (p.1, p.2) (chain.relation_left_fails c.args.depth c.args.end _ _ c.in_err-first.ensures)

pub parser::relation-returns-in_err-right-in-Some : goal.parser::relation-returns-in_err-right-in-Some
parser::relation-returns-in_err-right-in-Some t c = let p = err_from_is_err_and c.from_residual-in_err-right-in-Some.result c.from_residual-in_err-right-in-Some.ensures.1 in rw (p.1, p.2) (chain.relation_right_fails c.args.depth c.args.end _ (shown c.in_ok-first.first) _ c.in-Some.place c.in-Some.sign _ _ c.requires c.in_ok-first.ensures (rw c.in-Some.is at c.in_ok-sign.ensures) c.in_err-right-in-Some.ensures)

pub parser::relation-returns-in_err-sign : goal.parser::relation-returns-in_err-sign
parser::relation-returns-in_err-sign t c = let p = err_from_is_err_and c.from_residual-in_err-sign.result c.from_residual-in_err-sign.ensures.1 in rw (p.1, p.2) (chain.relation_relop_fails c.args.depth c.args.end _ (shown c.in_ok-first.first) _ _ c.requires c.in_ok-first.ensures c.in_err-sign.ensures)

pub parser::relation-returns-in_ok-related-in-Some : goal.parser::relation-returns-in_ok-related-in-Some
parser::relation-returns-in_ok-related-in-Some t c = chain.relation_relates c.args.depth _ (shown c.in_ok-first.first) _ c.in-Some.place c.in-Some.sign _ (shown c.in_ok-right-in-Some.right) _ (shown c.in_ok-related-in-Some.field-0) c.requires c.in_ok-first.ensures (rw c.in-Some.is at c.in_ok-sign.ensures) c.in_ok-right-in-Some.ensures c.in_ok-related-in-Some.ensures

-- unary
pub parser::unary-returns-in_err-first-in-None : goal.parser::unary-returns-in_err-first-in-None
parser::unary-returns-in_err-first-in-None t c = let p = err_from_is_err_and c.from_residual-in_err-first-in-None.result c.from_residual-in_err-first-in-None.ensures.1 in rw (p.1, p.2) (head.unary_reference_fails c.args.depth c.args.end _ _ c.in-None.ensures c.in_err-first-in-None.ensures)

pub parser::unary-returns-in_err-right-in-Some : goal.parser::unary-returns-in_err-right-in-Some
parser::unary-returns-in_err-right-in-Some t c = let p = err_from_is_err_and c.from_residual.result c.from_residual.ensures.1 in rw (p.1, p.2) (head.unary_sign_fails c.args.depth c.args.end _ c.in-Some.place c.in-Some.sign _ _ (omega arith) c.in-Some.ensures c.in_err-right-in-Some.ensures)

pub parser::unary-returns-in_ok-first-in-None : goal.parser::unary-returns-in_ok-first-in-None
parser::unary-returns-in_ok-first-in-None t c =
    let r = c.in_ok-first-in-None.ensures in
    MatchResult-weaker c.casts.result c.casts.ensures (λ a h. head.unary_cast c.args.depth _ (shown c.in_ok-first-in-None.first) _ (shown a.0) _ c.in-None.ensures r (h r.found r.tree_is)) (λ e h. head.unary_casts_fail c.args.depth c.args.end _ (shown c.in_ok-first-in-None.first) _ e c.in-None.ensures r (h r.found))

pub parser::unary-returns-in_ok-unary-in-Some : goal.parser::unary-returns-in_ok-unary-in-Some
parser::unary-returns-in_ok-unary-in-Some t c = head.unary_sign c.args.depth _ c.in-Some.place c.in-Some.sign _ (shown c.in_ok-right-in-Some.right) _ (shown c.in_ok-unary-in-Some.field-0) (omega arith) c.in-Some.ensures c.in_ok-right-in-Some.ensures c.in_ok-unary-in-Some.ensures

pub parser::unary-returns-then-depth-eq-DEEPEST : goal.parser::unary-returns-then-depth-eq-DEEPEST
parser::unary-returns-then-depth-eq-DEEPEST t c = head.unary_deep c.args.depth c.args.end _ c.in-Some.place c.in-Some.sign _ c.if-depth-eq-DEEPEST.true c.in-Some.ensures

-- reference
pub heads::reference-returns-in-None : goal.heads::reference-returns-in-None
heads::reference-returns-in-None t c = head.reference_alone c.args.depth _ (shown c.in_ok-head.head) _ c.in_ok-head.ensures (c.in-None.ensures false)

pub heads::reference-returns-in_err-object-in-Some : goal.heads::reference-returns-in_err-object-in-Some
heads::reference-returns-in_err-object-in-Some t c = let p = err_from_is_err_and c.from_residual-in_err-object-in-Some.result c.from_residual-in_err-object-in-Some.ensures.1 in rw (p.1, p.2) (head.reference_fails c.args.depth c.args.end _ (shown c.in_ok-head.head) _ _ _ _ c.in_ok-head.ensures (c.in-Some.ensures false) c.in_err-object-in-Some.ensures)

pub heads::reference-returns-in_ok-with_object-in-Some : goal.heads::reference-returns-in_ok-with_object-in-Some
heads::reference-returns-in_ok-with_object-in-Some t c = head.reference_object c.args.depth _ (shown c.in_ok-head.head) _ _ _ (shown c.in_ok-object-in-Some.object) _ (shown c.in_ok-with_object-in-Some.field-0) c.in_ok-head.ensures (c.in-Some.ensures false) c.in_ok-object-in-Some.ensures c.in_ok-with_object-in-Some.ensures

-- term
pub heads::term-returns : goal.heads::term-returns
heads::term-returns t c = head.term_filtered c.args.depth _ (shown c.in_ok-head.head) _ _ _ _ _ (shown c.in_ok-filter.filter) _ (shown c.in_ok-with_filter.field-0) c.in_ok-head.ensures (c.in-Some.ensures false) (c.in-Some-after.ensures false) c.in_ok-filter.ensures c.in_ok-with_filter.ensures

pub heads::term-returns-in_default : goal.heads::term-returns-in_default
heads::term-returns-in_default t c = head.term_plain c.args.depth _ (shown c.in_ok-head.head) _ c.in_ok-head.ensures (c.in_default.ensures false)

pub heads::term-returns-in_default-after : goal.heads::term-returns-in_default-after
heads::term-returns-in_default-after t c = head.term_no_open c.args.depth c.args.end _ (shown c.in_ok-head.head) _ _ _ c.place_at.result c.in_ok-head.ensures (c.in-Some.ensures false) (c.in_default-after.ensures false) (c.place_at.ensures false)

pub heads::term-returns-in_err-filter : goal.heads::term-returns-in_err-filter
heads::term-returns-in_err-filter t c = let p = err_from_is_err_and c.from_residual-in_err-filter.result c.from_residual-in_err-filter.ensures.1 in rw (p.1, p.2) (head.term_filter_fails c.args.depth c.args.end _ (shown c.in_ok-head.head) _ _ _ _ _ _ c.in_ok-head.ensures (c.in-Some.ensures false) (c.in-Some-after.ensures false) c.in_err-filter.ensures)

-- primary
pub heads::primary-returns : goal.heads::primary-returns
heads::primary-returns t c = primary.primary_single c.args.depth _ (shown c.in-Some-2.read.0) _ c.if-depth-gt-DEEPEST-2.false (rw c.in-Some-2.is at c.in_ok-read.ensures)

pub heads::primary-returns-in-Some : goal.heads::primary-returns-in-Some
heads::primary-returns-in-Some t c = MatchResult-weaker c.bracketed.result c.bracketed.ensures (λ r h. primary.primary_brackets c.args.depth _ _ _ (shown r.0) _ (c.in-Some.ensures false) h) (λ e h. primary.primary_brackets_fail c.args.depth c.args.end _ _ _ e (c.in-Some.ensures false) h)

pub heads::primary-returns-in-Some-after_word : goal.heads::primary-returns-in-Some-after_word
heads::primary-returns-in-Some-after_word t c =
    let b = c.in-Some-after_word.ensures in
    MatchResult-weaker c.phrase.result c.phrase.ensures (λ r h. primary.primary_word c.args.depth _ _ _ _ (shown r.0) _ b (h b.0 b.2)) (λ e h. primary.primary_word_fails c.args.depth c.args.end _ _ _ _ e b (h b.0 b.2))

pub heads::primary-returns-in_default-2 : goal.heads::primary-returns-in_default-2
heads::primary-returns-in_default-2 t c = primary.primary_none c.args.depth c.args.end _ c.place_at.result c.in_default-after_word.ensures (rw c.in_default-2.is at c.in_ok-read.ensures) (c.in_default.ensures false) (c.place_at.ensures false)

pub heads::primary-returns-then-depth-gt-DEEPEST : goal.heads::primary-returns-then-depth-gt-DEEPEST
heads::primary-returns-then-depth-gt-DEEPEST t c = primary.primary_word_deep c.args.depth c.args.end _ _ _ _ c.if-depth-gt-DEEPEST.true c.in-Some-after_word.ensures

pub heads::primary-returns-then-depth-gt-DEEPEST-2 : goal.heads::primary-returns-then-depth-gt-DEEPEST-2
heads::primary-returns-then-depth-gt-DEEPEST-2 t c = primary.primary_single_deep c.args.depth c.args.end _ (shown c.in-Some-2.read.0) _ c.place_at-then-depth-gt-DEEPEST-2.result c.if-depth-gt-DEEPEST-2.true (rw c.in-Some-2.is at c.in_ok-read.ensures) (c.place_at-then-depth-gt-DEEPEST-2.ensures false)

-- phrase
pub heads::phrase-returns-in-None : goal.heads::phrase-returns-in-None
heads::phrase-returns-in-None t c = λ w e. primary.phrase_alone c.args.depth w c.args.place _ c.in_ok-text.text c.in_ok-text.place _ (shown c.named.result) c.requires (c.in_ok-text.ensures.1 w e) c.in_ok-text.ensures.0 (rw c.in-None.is at c.in_ok-argument-2.ensures) (c.in_default.ensures false) c.named.ensures

pub heads::phrase-returns-in-Some : goal.heads::phrase-returns-in-Some
heads::phrase-returns-in-Some t c = λ w e. primary.phrase_brackets c.args.depth w c.args.place _ c.in_ok-text.text c.in_ok-text.place _ c.in-Some.open _ (shown c.in_ok-argument.argument) _ (shown c.in_ok-with_argument.field-0) c.requires (c.in_ok-text.ensures.1 w e) (c.in-Some.ensures false) c.in_ok-argument.ensures c.in_ok-with_argument.ensures

pub heads::phrase-returns-in_err-argument : goal.heads::phrase-returns-in_err-argument
heads::phrase-returns-in_err-argument t c = let p = err_from_is_err_and c.from_residual-in_err-argument.result c.from_residual-in_err-argument.ensures.1 in rw (p.1, p.2) (λ w e. primary.phrase_brackets_fail c.args.depth c.args.end w c.args.place _ c.in_ok-text.text c.in_ok-text.place _ c.in-Some.open _ _ c.requires (c.in_ok-text.ensures.1 w e) (c.in-Some.ensures false) c.in_err-argument.ensures)

pub heads::phrase-returns-in_ok-with_argument-in-Some-2 : goal.heads::phrase-returns-in_ok-with_argument-in-Some-2
heads::phrase-returns-in_ok-with_argument-in-Some-2 t c = λ w e. primary.phrase_constant c.args.depth w c.args.place _ c.in_ok-text.text c.in_ok-text.place _ (shown c.in-Some-2.argument) _ (shown c.in_ok-with_argument-in-Some-2.field-0) c.requires (c.in_ok-text.ensures.1 w e) (rw c.in-Some-2.is at c.in_ok-argument-2.ensures) c.in_ok-with_argument-in-Some-2.ensures

-- bracketed
pub heads::bracketed-returns-in-None : goal.heads::bracketed-returns-in-None
heads::bracketed-returns-in-None t c = primary.brackets_unclosed c.args.depth c.args.end c.args.from _ (shown c.in_ok-inner.inner) _ c.place_at.result (omega arith) c.in_ok-inner.ensures (c.in-None.ensures false) (c.place_at.ensures false)

pub heads::bracketed-returns-in_err-inner : goal.heads::bracketed-returns-in_err-inner
heads::bracketed-returns-in_err-inner t c = let p = err_from_is_err_and c.from_residual.result c.from_residual.ensures.1 in rw (p.1, p.2) (primary.brackets_fail c.args.depth c.args.end c.args.from _ _ (omega arith) c.in_err-inner.ensures)

pub heads::bracketed-returns-in_ok-enclosed-in-Some : goal.heads::bracketed-returns-in_ok-enclosed-in-Some
heads::bracketed-returns-in_ok-enclosed-in-Some t c = primary.brackets_read c.args.depth c.args.from _ (shown c.in_ok-inner.inner) _ c.in-Some.close _ (shown c.in_ok-enclosed-in-Some.field-0) (omega arith) c.in_ok-inner.ensures (c.in-Some.ensures false) c.in_ok-enclosed-in-Some.ensures

pub heads::bracketed-returns-then-depth-ge-DEEPEST : goal.heads::bracketed-returns-then-depth-ge-DEEPEST
heads::bracketed-returns-then-depth-ge-DEEPEST t c = primary.brackets_deep c.args.depth c.args.end c.args.from _ c.if-depth-ge-DEEPEST.true
