-- How an `if` is read.
use Rattle.std.proofs.Common.{◌≡◌, ℕ, ◌+◌, ◌≤◌, ◌<◌, List, ◌∷◌, length, refl, ◌∙◌, ap, subst, arith}
use Rattle.rel_lexer.specs.declared.place.Place.{Place}
use Rattle.rel_lexer.specs.declared.sign.Sign.TheVariants as lex
use Rattle.rel_grammar.specs.declared.vocabulary.Reserved.{Reserved}
use Rattle.rel_grammar.specs.declared.vocabulary.Reserved.TheVariants as the
use Rattle.rel_grammar.specs.Shapes.{sign, reserved, Shaped}
use Rattle.rel_grammar.specs.declared.level.Level.TheVariants as level
use Rattle.rel_grammar.specs.declared.error.ParseError.{ParseError}
use Rattle.rel_grammar.specs.declared.error.ParseError.TheVariants.{NoParse, TooDeep}
use Rattle.rel_grammar.specs.Grammar.{Collection, if_then, no_if}
use Rattle.rel_grammar.specs.Trees.{Plain, conditional, collection_tree}
use Rattle.rel_grammar.specs.Machine.{OverCollection, in_test, in_yes, OverChoice, in_no, under_no_if, depth_choice, next_collection, begin_choice, begin_collection, no_parse, go}
use Rattle.rel_grammar.specs.Answers.{place_of}
use Rattle.rel_grammar.specs.Reads.{shaped_at, Lacks, Begins, CollectionReads, CollectionFails, ChoiceReads, ChoiceFails, ChainReads, ChainFails, UpToReads, UpToFails, WantsWord}
use Rattle.rel_grammar.proofs.Absent as absent

pub choice_plain : (d : ℕ) (ts : List Shaped) (tree : Plain) (left : List Shaped) → Lacks (reserved the.If) ts → ChainReads level.Bar d ts tree left → ChoiceReads d ts tree left
choice_plain d ts tree left h b = record { found = no_if b.found; tree_is = b.tree_is; shorter = b.shorter; reads = λ C e. absent.no_if_here ts C h ∙ b.reads (under_no_if C) e }

pub choice_plain_fails : (d end : ℕ) (ts : List Shaped) (e : ParseError) → Lacks (reserved the.If) ts → ChainFails level.Bar d end ts e → ChoiceFails d end ts e
choice_plain_fails d end ts e h f = λ C k. absent.along end e _ _ (absent.no_if_here ts C h) (f (under_no_if C) k)

if_opens : (d : ℕ) (ts : List Shaped) (p : Place) (next : List Shaped) → d + 1 ≤ 64 → Begins (reserved the.If) ts p next → (C : OverChoice) → depth_choice C ≡ d → go (begin_choice C) ts ≡ go (begin_collection (in_test p C)) next
if_opens d ts p next h e C i = ap (go (begin_choice C)) e ∙ absent.low (depth_choice C + 1) (d + 1) (ap (λ n. n + 1) i) h _ _

pub choice_deep : (d end : ℕ) (ts : List Shaped) (p : Place) (next : List Shaped) → d ≡ 64 → Begins (reserved the.If) ts p next → ChoiceFails d end ts (TooDeep p)
choice_deep d end ts p next h i = λ C k. (shaped_at (reserved the.If) p ∷ next, ap (go (begin_choice C)) i ∙ absent.high (depth_choice C + 1) (d + 1) (ap (λ n. n + 1) k) (let g : 64 < d + 1 = omega arith in g) _ _, refl)

-- a part and the word behind it
pub word_read : (d : ℕ) (w : Reserved) (ts : List Shaped) (tree : Plain) (left : List Shaped) (p : Place) (next : List Shaped) → CollectionReads d ts tree left → Begins (reserved w) left p next → UpToReads d w ts tree next
word_read d w ts tree left p next q e = record {
  found = q.found;
  place = p;
  tree_is = q.tree_is;
  shorter = omega (arith, q.shorter, ap length e);
  reads = λ C i. q.reads C i ∙ ap (go (next_collection q.found C)) e;
}

pub word_fails : (d : ℕ) (w : Reserved) (end : ℕ) (ts : List Shaped) (e : ParseError) → CollectionFails d end ts e → UpToFails d w end ts e
word_fails d w end ts e f = λ C k i. f C i

no_word : (C : OverCollection) (w : Reserved) (ts : List Shaped) (q : Collection) → WantsWord C w → Lacks (reserved w) ts → Lacks (sign lex.Semicolon) ts → go (next_collection q C) ts ≡ no_parse ts
no_word (in_test p C) w ts q k c e = absent.no_then ts q p C (subst (λ x. Lacks (reserved x) ts) k c) e
no_word (in_yes p t o C) w ts q k c e = absent.no_else ts q p t o C (subst (λ x. Lacks (reserved x) ts) k c) e
no_word C w ts q k c e = absurd k

pub word_lacks : (d : ℕ) (w : Reserved) (end : ℕ) (ts : List Shaped) (tree : Plain) (left : List Shaped) (at : Place) → CollectionReads d ts tree left → Lacks (reserved w) left → at ≡ place_of end left → UpToFails d w end ts (NoParse at)
word_lacks d w end ts tree left at q c a = λ C k i. (left, q.reads C i ∙ no_word C w left q.found k c q.ends, a)

pub test_fails : (d end : ℕ) (ts : List Shaped) (p : Place) (next : List Shaped) (e : ParseError) → d + 1 ≤ 64 → ts ≡ shaped_at (reserved the.If) p ∷ next → UpToFails (d + 1) the.Then end next e → ChoiceFails d end ts e
test_fails d end ts p next e h i f = λ C k. absent.along end e _ _ (if_opens d ts p next h i C k) (f (in_test p C) refl (ap (λ n. n + 1) k))

-- an `if` as far as its `then`
pub record ThenReads (d : ℕ) (ts : List Shaped) (p : Place) (test : Plain) (next : List Shaped) : Type 0 where
  pub found : Collection
  pub place : Place
  pub tree_is : test ≡ collection_tree found
  pub shorter : length next < length ts
  pub reads : (C : OverChoice) → depth_choice C ≡ d → go (begin_choice C) ts ≡ go (begin_collection (in_yes p found place C)) next

pub then_reads : (d : ℕ) (ts : List Shaped) (p : Place) (next : List Shaped) (test : Plain) (next' : List Shaped) → d + 1 ≤ 64 → ts ≡ shaped_at (reserved the.If) p ∷ next → UpToReads (d + 1) the.Then next test next' → ThenReads d ts p test next'
then_reads d ts p next test next' h e q = record {
  found = q.found;
  place = q.place;
  tree_is = q.tree_is;
  shorter = omega (arith, q.shorter, ap length e);
  reads = λ C i. if_opens d ts p next h e C i ∙ q.reads (in_test p C) (ap (λ n. n + 1) i) ∙ absent.low (depth_choice C + 1) (d + 1) (ap (λ n. n + 1) i) h _ _;
}

pub yes_fails : (d end : ℕ) (ts : List Shaped) (p : Place) (test : Plain) (next : List Shaped) (e : ParseError) → ThenReads d ts p test next → UpToFails (d + 1) the.Else end next e → ChoiceFails d end ts e
yes_fails d end ts p test next e t f = λ C k. absent.along end e _ _ (t.reads C k) (f (in_yes p t.found t.place C) refl (ap (λ n. n + 1) k))

-- and as far as its `else`
pub record ElseReads (d : ℕ) (ts : List Shaped) (p : Place) (test positive : Plain) (next : List Shaped) : Type 0 where
  pub test_found : Collection
  pub then_place : Place
  pub yes_found : Collection
  pub place : Place
  pub test_is : test ≡ collection_tree test_found
  pub yes_is : positive ≡ collection_tree yes_found
  pub shorter : length next < length ts
  pub reads : (C : OverChoice) → depth_choice C ≡ d → go (begin_choice C) ts ≡ go (begin_choice (in_no p test_found then_place yes_found place C)) next

pub else_reads : (d : ℕ) (ts : List Shaped) (p : Place) (test : Plain) (next : List Shaped) (positive : Plain) (next' : List Shaped) → d + 1 ≤ 64 → ThenReads d ts p test next → UpToReads (d + 1) the.Else next positive next' → ElseReads d ts p test positive next'
else_reads d ts p test next positive next' h t q = record {
  test_found = t.found;
  then_place = t.place;
  yes_found = q.found;
  place = q.place;
  test_is = t.tree_is;
  yes_is = q.tree_is;
  shorter = omega (arith, t.shorter, q.shorter);
  reads = λ C i. t.reads C i ∙ q.reads (in_yes p t.found t.place C) (ap (λ n. n + 1) i) ∙ absent.low (depth_choice C + 1) (d + 1) (ap (λ n. n + 1) i) h _ _;
}

pub no_fails : (d end : ℕ) (ts : List Shaped) (p : Place) (test positive : Plain) (next : List Shaped) (e : ParseError) → ElseReads d ts p test positive next → ChoiceFails (d + 1) end next e → ChoiceFails d end ts e
no_fails d end ts p test positive next e t f = λ C k. absent.along end e _ _ (t.reads C k) (f (in_no p t.test_found t.then_place t.yes_found t.place C) (ap (λ n. n + 1) k))

pub choice_reads : (d : ℕ) (ts : List Shaped) (p : Place) (test positive : Plain) (next : List Shaped) (negative : Plain) (left : List Shaped) (all : Plain) → ElseReads d ts p test positive next → ChoiceReads (d + 1) next negative left → all ≡ conditional p test positive negative → ChoiceReads d ts all left
choice_reads d ts p test positive next negative left all t n a = record {
  found = if_then p t.test_found t.then_place t.yes_found t.place n.found;
  tree_is = a ∙ ap (λ x. conditional p x positive negative) t.test_is ∙ ap (λ x. conditional p (collection_tree t.test_found) x negative) t.yes_is ∙ ap (conditional p (collection_tree t.test_found) (collection_tree t.yes_found)) n.tree_is;
  shorter = omega (arith, t.shorter, n.shorter);
  reads = λ C i. t.reads C i ∙ n.reads (in_no p t.test_found t.then_place t.yes_found t.place C) (ap (λ n. n + 1) i);
}
