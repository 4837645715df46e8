-- How names, values and brackets are read.
use Rattle.std.proofs.Common.{◌≡◌, ℕ, ◌+◌, ◌≤◌, ◌<◌, List, ◌∷◌, length, Option, Some, refl, sym, ◌∙◌, ap, subst, arith}
use Rattle.rel_lexer.specs.declared.place.Place.{Place}
use Rattle.rel_lexer.specs.declared.sign.Sign.TheVariants as lex
use Rattle.rel_grammar.specs.Shapes.{sign, word, AnyWord, Shaped}
use Rattle.rel_grammar.specs.declared.error.ParseError.{ParseError}
use Rattle.rel_grammar.specs.declared.error.ParseError.TheVariants.{NoParse, TooDeep}
use Rattle.rel_grammar.specs.Grammar.{Words, Primary, a_number, a_string, an_it, brackets, some_words, with_argument, Argument, argument_number, argument_string, argument_brackets}
use Rattle.rel_grammar.specs.Trees.{Plain, numeral, literal, phrase, body, no_tree, a_tree, words_text, words_from, words_place, enclosed, collection_tree, primary_tree}
use Rattle.rel_grammar.specs.Machine.{OverCollection, in_brackets, in_argument, collection_first, tuple_first, OverReference, want_choice, Step, to, depth_reference, next_collection, next_primary, begin_primary, next_word, begin_collection, step, too_deep, taken, go}
use Rattle.rel_grammar.specs.Answers.{place_of}
use Rattle.rel_grammar.specs.Reads.{shaped_at, Lacks, Begins, CollectionReads, CollectionFails, ReferenceFails, PrimaryReads, WordsRead, WordsEnd, BeginsWord, Single, single_number, single_string, single_it, single_shaped, single_tree, SingleReads, LacksConstant, LacksSingle, Constant, constant_number, constant_string, as_single, ConstantReads, own_to, BracketsRead, BracketsFail}
use Rattle.rel_grammar.proofs.Absent as absent
use Rattle.rel_grammar.proofs.Naming.{run_words}

-- primary
pub primary_brackets : (d : ℕ) (ts : List Shaped) (p : Place) (next : List Shaped) (tree : Plain) (left : List Shaped) → Begins (sign lex.OpenBracket) ts p next → BracketsRead d p next tree left → PrimaryReads d ts tree left
primary_brackets d ts p next tree left e b = record {
  found = brackets p b.found b.close;
  tree_is = b.tree_is;
  low = omega (arith, b.low);
  shorter = omega (arith, b.shorter, ap length e);
  reads = λ C i.
      ap (go (begin_primary C)) e ∙ absent.low (depth_reference C + 1) (d + 1) (ap (λ n. n + 1) i) b.low _ _
      ∙ b.reads (in_brackets p C) (ap (λ n. n + 1) i)
      ∙ absent.low (depth_reference C + 1) (d + 1) (ap (λ n. n + 1) i) b.low _ _;
}

pub primary_brackets_fail : (d end : ℕ) (ts : List Shaped) (p : Place) (next : List Shaped) (e : ParseError) → Begins (sign lex.OpenBracket) ts p next → BracketsFail d p end next e → ReferenceFails d end ts e
primary_brackets_fail d end ts p next e i f = λ C k. absent.along end e _ _ (ap (go (begin_primary C)) i) (f (begin_primary C) (in_brackets p C) tt (ap (λ n. n + 1) k) (ap (λ n. to (n + 1) (want_choice (tuple_first (collection_first (in_brackets p C))))) k))

pub primary_word : (d : ℕ) (ts : List Shaped) (p : Place) (t : List ℕ) (next : List Shaped) (tree : Plain) (left : List Shaped) → (b : BeginsWord ts p t next) → PrimaryReads d (shaped_at (word b.0) p ∷ next) tree left → PrimaryReads d ts tree left
primary_word d ts p t next tree left b r = subst (λ x. PrimaryReads d x tree left) (sym b.1) r

pub primary_word_fails : (d end : ℕ) (ts : List Shaped) (p : Place) (t : List ℕ) (next : List Shaped) (e : ParseError) → (b : BeginsWord ts p t next) → ReferenceFails d end (shaped_at (word b.0) p ∷ next) e → ReferenceFails d end ts e
primary_word_fails d end ts p t next e b f = subst (λ x. ReferenceFails d end x e) (sym b.1) f

pub primary_word_deep : (d end : ℕ) (ts : List Shaped) (p : Place) (t : List ℕ) (next : List Shaped) → 64 < d → BeginsWord ts p t next → ReferenceFails d end ts (TooDeep p)
primary_word_deep d end ts p t next h b = λ C i. (shaped_at (word b.0) p ∷ next, ap (go (begin_primary C)) b.1 ∙ absent.high (depth_reference C) d i h _ _, refl)

abbrev single_primary : Single → Primary
single_primary (single_number p n) = a_number p n
single_primary (single_string p t) = a_string p t
single_primary (single_it p) = an_it p

single_here : (x : Single) (next : List Shaped) (d : ℕ) (C : OverReference) → depth_reference C ≡ d → d ≤ 64 → go (begin_primary C) (single_shaped x ∷ next) ≡ go (next_primary (single_primary x) C) next
single_here (single_number p n) next d C e h = absent.low (depth_reference C) d e h _ _
single_here (single_string p t) next d C e h = absent.low (depth_reference C) d e h _ _
single_here (single_it p) next d C e h = absent.low (depth_reference C) d e h _ _

single_deep : (x : Single) (next : List Shaped) (d : ℕ) (C : OverReference) → depth_reference C ≡ d → 64 < d → go (begin_primary C) (single_shaped x ∷ next) ≡ too_deep (single_shaped x ∷ next)
single_deep (single_number p n) next d C e h = absent.high (depth_reference C) d e h _ _
single_deep (single_string p t) next d C e h = absent.high (depth_reference C) d e h _ _
single_deep (single_it p) next d C e h = absent.high (depth_reference C) d e h _ _

single_tree_is : (x : Single) → single_tree x ≡ primary_tree (single_primary x)
single_tree_is (single_number p n) = refl
single_tree_is (single_string p t) = refl
single_tree_is (single_it p) = refl

pub primary_single : (d : ℕ) (ts : List Shaped) (tree : Plain) (left : List Shaped) → d ≤ 64 → SingleReads ts tree left → PrimaryReads d ts tree left
primary_single d ts tree left h x = record {
  found = single_primary x.0;
  tree_is = x.2 ∙ single_tree_is x.0;
  low = h;
  shorter = omega (arith, ap length x.1);
  reads = λ C i. ap (go (begin_primary C)) x.1 ∙ single_here x.0 left d C i h;
}

pub primary_single_deep : (d end : ℕ) (ts : List Shaped) (tree : Plain) (left : List Shaped) (at : Place) → 64 < d → SingleReads ts tree left → at ≡ place_of end ts → ReferenceFails d end ts (TooDeep at)
primary_single_deep d end ts tree left at h x e = λ C i. (ts, ap (go (begin_primary C)) x.1 ∙ single_deep x.0 left d C i h ∙ ap too_deep (sym x.1), e)

pub primary_none : (d end : ℕ) (ts : List Shaped) (at : Place) → WordsEnd ts → LacksSingle ts → Lacks (sign lex.OpenBracket) ts → at ≡ place_of end ts → ReferenceFails d end ts (NoParse at)
primary_none d end ts at a b o e = λ C i. (ts, absent.no_primary ts C a b o, e)

-- names
pub phrase_alone : (d : ℕ) (w : AnyWord) (p : Place) (tokens : List Shaped) (text : List ℕ) (place : Place) (left : List Shaped) (tree : Plain) → d ≤ 64 → WordsRead w p tokens text place left → WordsEnd left → LacksConstant left → Lacks (sign lex.OpenBracket) left → tree ≡ phrase place text no_tree no_tree no_tree → PrimaryReads d (shaped_at (word w) p ∷ tokens) tree left
phrase_alone d w p tokens text place left tree h r z c o a = record {
  found = some_words r.found;
  tree_is = a ∙ ap (λ x. phrase x text no_tree no_tree no_tree) r.place_is ∙ ap (λ x. phrase (words_place r.found) x no_tree no_tree no_tree) r.text_is;
  low = h;
  shorter = omega (arith, r.no_longer);
  reads = λ C i. ap (go (begin_primary C)) r.splits ∙ run_words r.found C d left i h ∙ absent.no_more_words left r.found C z c o;
}

abbrev constant_argument : Constant → Argument
constant_argument (constant_number p n) = argument_number p n
constant_argument (constant_string p t) = argument_string p t

constant_here : (x : Constant) (ws : Words) (next : List Shaped) (d : ℕ) (C : OverReference) → depth_reference C ≡ d → d ≤ 64 → go (next_word ws C) (single_shaped (as_single x) ∷ next) ≡ go (next_primary (with_argument ws (constant_argument x)) C) next
constant_here (constant_number p n) ws next d C e h = absent.low (depth_reference C) d e h _ _
constant_here (constant_string p t) ws next d C e h = absent.low (depth_reference C) d e h _ _

constant_tree_is : (x : Constant) (ws : Words) (text : List ℕ) (place : Place) (tree argument : Plain) → argument ≡ single_tree (as_single x) → place ≡ words_place ws → text ≡ words_text ws → tree ≡ phrase (record { from = place.from; to = own_to argument }) text (a_tree argument) no_tree no_tree → tree ≡ primary_tree (with_argument ws (constant_argument x))
constant_tree_is (constant_number p n) ws text place tree argument e i t a = a ∙ ap (λ x. phrase (record { from = place.from; to = own_to x }) text (a_tree x) no_tree no_tree) e ∙ ap (λ x. phrase (record { from = x.from; to = p.to }) text (a_tree (numeral p n)) no_tree no_tree) i ∙ ap (λ x. phrase (record { from = words_from ws; to = p.to }) x (a_tree (numeral p n)) no_tree no_tree) t
constant_tree_is (constant_string p s) ws text place tree argument e i t a = a ∙ ap (λ x. phrase (record { from = place.from; to = own_to x }) text (a_tree x) no_tree no_tree) e ∙ ap (λ x. phrase (record { from = x.from; to = p.to }) text (a_tree (literal p s)) no_tree no_tree) i ∙ ap (λ x. phrase (record { from = words_from ws; to = p.to }) x (a_tree (literal p s)) no_tree no_tree) t

pub phrase_constant : (d : ℕ) (w : AnyWord) (p : Place) (tokens : List Shaped) (text : List ℕ) (place : Place) (left : List Shaped) (argument : Plain) (left' : List Shaped) (tree : Plain) → d ≤ 64 → WordsRead w p tokens text place left → ConstantReads left argument left' → tree ≡ phrase (record { from = place.from; to = own_to argument }) text (a_tree argument) no_tree no_tree → PrimaryReads d (shaped_at (word w) p ∷ tokens) tree left'
phrase_constant d w p tokens text place left argument left' tree h r x a = record {
  found = with_argument r.found (constant_argument x.0);
  tree_is = constant_tree_is x.0 r.found text place tree argument x.2 r.place_is r.text_is a;
  low = h;
  shorter = omega (arith, r.no_longer, ap length x.1);
  reads = λ C i. ap (go (begin_primary C)) r.splits ∙ run_words r.found C d left i h ∙ ap (go (next_word r.found C)) x.1 ∙ constant_here x.0 r.found left' d C i h;
}

pub phrase_brackets : (d : ℕ) (w : AnyWord) (p : Place) (tokens : List Shaped) (text : List ℕ) (place : Place) (left : List Shaped) (o : Place) (next : List Shaped) (argument : Plain) (left' : List Shaped) (tree : Plain) → d ≤ 64 → WordsRead w p tokens text place left → Begins (sign lex.OpenBracket) left o next → BracketsRead d o next argument left' → tree ≡ phrase (record { from = place.from; to = own_to argument }) text (a_tree argument) no_tree no_tree → PrimaryReads d (shaped_at (word w) p ∷ tokens) tree left'
phrase_brackets d w p tokens text place left o next argument left' tree h r e b a = record {
  found = with_argument r.found (argument_brackets o b.found b.close);
  tree_is =
      a ∙ ap (λ x. phrase (record { from = place.from; to = own_to x }) text (a_tree x) no_tree no_tree) b.tree_is
      ∙ ap (λ x. phrase (record { from = x.from; to = b.close.to }) text (a_tree (enclosed o (collection_tree b.found) b.close)) no_tree no_tree) r.place_is
      ∙ ap (λ x. phrase (record { from = words_from r.found; to = b.close.to }) x (a_tree (enclosed o (collection_tree b.found) b.close)) no_tree no_tree) r.text_is;
  low = h;
  shorter = omega (arith, r.no_longer, b.shorter, ap length e);
  reads = λ C i.
      ap (go (begin_primary C)) r.splits ∙ run_words r.found C d left i h ∙ ap (go (next_word r.found C)) e
      ∙ absent.low (depth_reference C + 1) (d + 1) (ap (λ n. n + 1) i) b.low _ _
      ∙ b.reads (in_argument r.found o C) (ap (λ n. n + 1) i)
      ∙ absent.low (depth_reference C + 1) (d + 1) (ap (λ n. n + 1) i) b.low _ _;
}

pub phrase_brackets_fail : (d end : ℕ) (w : AnyWord) (p : Place) (tokens : List Shaped) (text : List ℕ) (place : Place) (left : List Shaped) (o : Place) (next : List Shaped) (e : ParseError) → d ≤ 64 → WordsRead w p tokens text place left → Begins (sign lex.OpenBracket) left o next → BracketsFail d o end next e → ReferenceFails d end (shaped_at (word w) p ∷ tokens) e
phrase_brackets_fail d end w p tokens text place left o next e h r i f = λ C k. absent.along end e _ _ (ap (go (begin_primary C)) r.splits ∙ run_words r.found C d left k h ∙ ap (go (next_word r.found C)) i) (f (next_word r.found C) (in_argument r.found o C) tt (ap (λ n. n + 1) k) (ap (λ n. to (n + 1) (want_choice (tuple_first (collection_first (in_argument r.found o C))))) k))

-- brackets
bracket_opens : (f : Option Shaped → Step) (p : Place) (next : List Shaped) (d : ℕ) (C : OverCollection) → d + 1 ≤ 64 → f (Some (shaped_at (sign lex.OpenBracket) p)) ≡ to (d + 1) (want_choice (tuple_first (collection_first C))) → go f (shaped_at (sign lex.OpenBracket) p ∷ next) ≡ go (begin_collection C) next
bracket_opens f p next d C h e = ap (taken (shaped_at (sign lex.OpenBracket) p ∷ next) (λ s. go (step s) next)) e ∙ absent.low (d + 1) (d + 1) refl h _ _

pub brackets_read : (d : ℕ) (from : Place) (ts : List Shaped) (inner : Plain) (left : List Shaped) (close : Place) (left' : List Shaped) (tree : Plain) → d + 1 ≤ 64 → CollectionReads (d + 1) ts inner left → Begins (sign lex.CloseBracket) left close left' → tree ≡ body (record { from = from.from; to = close.to }) inner no_tree no_tree → BracketsRead d from ts tree left'
brackets_read d from ts inner left close left' tree h q e a = record {
  found = q.found;
  close = close;
  tree_is = a ∙ ap (λ x. body (record { from = from.from; to = close.to }) x no_tree no_tree) q.tree_is;
  low = h;
  shorter = omega (arith, q.shorter, ap length e);
  reads = λ C i. q.reads C i ∙ ap (go (next_collection q.found C)) e;
}

pub brackets_fail : (d end : ℕ) (from : Place) (ts : List Shaped) (e : ParseError) → d + 1 ≤ 64 → CollectionFails (d + 1) end ts e → BracketsFail d from end ts e
brackets_fail d end from ts e h f = λ g C w k i. absent.along end e _ _ (bracket_opens g from ts d C h i) (f C k)

pub brackets_unclosed : (d end : ℕ) (from : Place) (ts : List Shaped) (inner : Plain) (left : List Shaped) (at : Place) → d + 1 ≤ 64 → CollectionReads (d + 1) ts inner left → Lacks (sign lex.CloseBracket) left → at ≡ place_of end left → BracketsFail d from end ts (NoParse at)
brackets_unclosed d end from ts inner left at h q c a = λ g C w k i. (left, bracket_opens g from ts d C h i ∙ q.reads C k ∙ absent.no_close left q.found C w c q.ends, a)

pub brackets_deep : (d end : ℕ) (from : Place) (ts : List Shaped) → 64 ≤ d → BracketsFail d from end ts (TooDeep from)
brackets_deep d end from ts h = λ g C w k i. (shaped_at (sign lex.OpenBracket) from ∷ ts, ap (taken (shaped_at (sign lex.OpenBracket) from ∷ ts) (λ s. go (step s) ts)) i ∙ absent.high (d + 1) (d + 1) refl (let z : 64 < d + 1 = omega arith in z) _ _, refl)
