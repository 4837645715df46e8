-- How unary signs, casts, objects and filters are read.
use Rattle.std.proofs.Common.{◌≡◌, ℕ, ◌+◌, ◌≤◌, ◌<◌, List, ◌∷◌, length, refl, ◌∙◌, ap, arith}
use Rattle.rel_lexer.specs.declared.place.Place.{Place}
use Rattle.rel_lexer.specs.declared.sign.Sign.TheVariants as lex
use Rattle.rel_lexer.specs.declared.operator.UnarySign.{UnarySign}
use Rattle.rel_lexer.specs.declared.operator.UnarySign.TheVariants as one_operand
use Rattle.rel_grammar.specs.declared.vocabulary.Reserved.TheVariants as the
use Rattle.rel_grammar.specs.Shapes.{sign, reserved, Shaped}
use Rattle.rel_grammar.specs.declared.level.Level.TheVariants as level
use Rattle.rel_grammar.specs.declared.error.ParseError.{ParseError}
use Rattle.rel_grammar.specs.declared.error.ParseError.TheVariants.{NoParse, TooDeep}
use Rattle.rel_grammar.specs.Grammar.{signed, no_sign, no_object, of_object, no_filter, filtered}
use Rattle.rel_grammar.specs.Spelling.{unary_kind}
use Rattle.rel_grammar.specs.Trees.{Plain, unary, with_filter, with_object}
use Rattle.rel_grammar.specs.Machine.{in_filter, collection_first, tuple_first, OverUnary, under_sign, OverReference, cast_first, object_of, want_choice, to, depth_unary, depth_reference, next_term, next_primary, begin_primary, begin_unary, begin_filter, too_deep, go}
use Rattle.rel_grammar.specs.Answers.{place_of}
use Rattle.rel_grammar.specs.Reads.{shaped_at, Lacks, Begins, SplitsUnary, LacksUnary, PartReads, PartFails, ReferenceReads, ReferenceFails, TermReads, PrimaryReads, CastsRead, CastsFail, BracketsRead, BracketsFail}
use Rattle.rel_grammar.proofs.Absent as absent

-- unary
unary_here : (op : UnarySign) (p : Place) (next : List Shaped) (d : ℕ) (C : OverUnary) → depth_unary C ≡ d → d + 1 ≤ 64 → go (begin_unary C) (shaped_at (unary_kind op) p ∷ next) ≡ go (begin_unary (under_sign p op C)) next
unary_here one_operand.Not p next d C e h = absent.low (depth_unary C + 1) (d + 1) (ap (λ n. n + 1) e) h _ _
unary_here one_operand.Exists p next d C e h = absent.low (depth_unary C + 1) (d + 1) (ap (λ n. n + 1) e) h _ _
unary_here one_operand.Exist p next d C e h = absent.low (depth_unary C + 1) (d + 1) (ap (λ n. n + 1) e) h _ _
unary_here one_operand.Minus p next d C e h = absent.low (depth_unary C + 1) (d + 1) (ap (λ n. n + 1) e) h _ _

unary_too_deep : (op : UnarySign) (p : Place) (next : List Shaped) (d : ℕ) (C : OverUnary) → depth_unary C ≡ d → 64 < d + 1 → go (begin_unary C) (shaped_at (unary_kind op) p ∷ next) ≡ too_deep (shaped_at (unary_kind op) p ∷ next)
unary_too_deep one_operand.Not p next d C e h = absent.high (depth_unary C + 1) (d + 1) (ap (λ n. n + 1) e) h _ _
unary_too_deep one_operand.Exists p next d C e h = absent.high (depth_unary C + 1) (d + 1) (ap (λ n. n + 1) e) h _ _
unary_too_deep one_operand.Exist p next d C e h = absent.high (depth_unary C + 1) (d + 1) (ap (λ n. n + 1) e) h _ _
unary_too_deep one_operand.Minus p next d C e h = absent.high (depth_unary C + 1) (d + 1) (ap (λ n. n + 1) e) h _ _

pub unary_sign : (d : ℕ) (ts : List Shaped) (p : Place) (op : UnarySign) (next : List Shaped) (tree : Plain) (left : List Shaped) (all : Plain) → d + 1 ≤ 64 → SplitsUnary ts p op next → PartReads level.Product (d + 1) next tree left → all ≡ unary p op tree → PartReads level.Product d ts all left
unary_sign d ts p op next tree left all h e u a = record {
  found = signed p op u.found;
  tree_is = a ∙ ap (unary p op) u.tree_is;
  shorter = omega (arith, u.shorter, ap length e);
  reads = λ C i. ap (go (begin_unary C)) e ∙ unary_here op p next d C i h ∙ u.reads (under_sign p op C) (ap (λ n. n + 1) i);
}

pub unary_sign_fails : (d end : ℕ) (ts : List Shaped) (p : Place) (op : UnarySign) (next : List Shaped) (e : ParseError) → d + 1 ≤ 64 → SplitsUnary ts p op next → PartFails level.Product (d + 1) end next e → PartFails level.Product d end ts e
unary_sign_fails d end ts p op next e h i f = λ C k. absent.along end e _ _ (ap (go (begin_unary C)) i ∙ unary_here op p next d C k h) (f (under_sign p op C) (ap (λ n. n + 1) k))

pub unary_deep : (d end : ℕ) (ts : List Shaped) (p : Place) (op : UnarySign) (next : List Shaped) → d ≡ 64 → SplitsUnary ts p op next → PartFails level.Product d end ts (TooDeep p)
unary_deep d end ts p op next h i = λ C k. (shaped_at (unary_kind op) p ∷ next, ap (go (begin_unary C)) i ∙ unary_too_deep op p next d C k (let g : 64 < d + 1 = omega arith in g), refl)

no_unary_sign : (ts : List Shaped) (C : OverUnary) → LacksUnary ts → go (begin_unary C) ts ≡ go (begin_primary (cast_first C)) ts
no_unary_sign ts C h = absent.no_unary ts C (h one_operand.Not) (h one_operand.Exists) (h one_operand.Exist) (h one_operand.Minus)

pub unary_cast : (d : ℕ) (ts : List Shaped) (first : Plain) (left : List Shaped) (all : Plain) (left' : List Shaped) → LacksUnary ts → (r : ReferenceReads d ts first left) → CastsRead r.found left all left' → PartReads level.Product d ts all left'
unary_cast d ts first left all left' h r c = record {
  found = no_sign c.found;
  tree_is = c.tree_is;
  shorter = omega (arith, r.shorter, c.no_longer);
  reads = λ C e. no_unary_sign ts C h ∙ r.reads (cast_first C) e ∙ c.reads C (let g : depth_unary C ≤ 64 = omega (arith, r.low) in g);
}

pub unary_reference_fails : (d end : ℕ) (ts : List Shaped) (e : ParseError) → LacksUnary ts → ReferenceFails d end ts e → PartFails level.Product d end ts e
unary_reference_fails d end ts e h f = λ C k. absent.along end e _ _ (no_unary_sign ts C h) (f (cast_first C) k)

pub unary_casts_fail : (d end : ℕ) (ts : List Shaped) (first : Plain) (left : List Shaped) (e : ParseError) → LacksUnary ts → (r : ReferenceReads d ts first left) → CastsFail r.found end left e → PartFails level.Product d end ts e
unary_casts_fail d end ts first left e h r f = λ C k. absent.along end e _ _ (no_unary_sign ts C h ∙ r.reads (cast_first C) k) (f C (let g : depth_unary C ≤ 64 = omega (arith, r.low) in g))

-- reference
pub reference_alone : (d : ℕ) (ts : List Shaped) (tree : Plain) (left : List Shaped) → TermReads d ts tree left → Lacks (reserved the.Of) left → ReferenceReads d ts tree left
reference_alone d ts tree left x h = record { found = no_object x.found; tree_is = x.tree_is; low = x.low; shorter = x.shorter; reads = λ C e. x.reads C e ∙ absent.no_of left x.found C h }

reference_then : (d : ℕ) (ts : List Shaped) (head : Plain) (left : List Shaped) (p : Place) (next : List Shaped) → (x : TermReads d ts head left) → Begins (reserved the.Of) left p next → (C : OverReference) → depth_reference C ≡ d → go (begin_primary C) ts ≡ go (begin_primary (object_of x.found p C)) next
reference_then d ts head left p next x e C i = x.reads C i ∙ ap (go (next_term x.found C)) e ∙ absent.low (depth_reference C) d i x.low _ _

pub reference_object : (d : ℕ) (ts : List Shaped) (head : Plain) (left : List Shaped) (p : Place) (next : List Shaped) (tree : Plain) (left' : List Shaped) (all : Plain) → TermReads d ts head left → Begins (reserved the.Of) left p next → ReferenceReads (d + 1) next tree left' → all ≡ with_object head tree → ReferenceReads d ts all left'
reference_object d ts head left p next tree left' all x e r a = record {
  found = of_object x.found p r.found;
  tree_is = a ∙ ap (λ t. with_object t tree) x.tree_is ∙ ap (with_object _) r.tree_is;
  low = x.low;
  shorter = omega (arith, x.shorter, r.shorter, ap length e);
  reads = λ C i. reference_then d ts head left p next x e C i ∙ r.reads (object_of x.found p C) (ap (λ n. n + 1) i);
}

pub reference_fails : (d end : ℕ) (ts : List Shaped) (head : Plain) (left : List Shaped) (p : Place) (next : List Shaped) (e : ParseError) → TermReads d ts head left → Begins (reserved the.Of) left p next → ReferenceFails (d + 1) end next e → ReferenceFails d end ts e
reference_fails d end ts head left p next e x i f = λ C k. absent.along end e _ _ (reference_then d ts head left p next x i C k) (f (object_of x.found p C) (ap (λ n. n + 1) k))

-- term
pub term_plain : (d : ℕ) (ts : List Shaped) (tree : Plain) (left : List Shaped) → PrimaryReads d ts tree left → Lacks (reserved the.Whose) left → TermReads d ts tree left
term_plain d ts tree left x h = record { found = no_filter x.found; tree_is = x.tree_is; low = x.low; shorter = x.shorter; reads = λ C e. x.reads C e ∙ absent.no_whose left x.found C h }

whose_read : (d : ℕ) (ts : List Shaped) (head : Plain) (left : List Shaped) (w : Place) (next : List Shaped) → (x : PrimaryReads d ts head left) → Begins (reserved the.Whose) left w next → (C : OverReference) → depth_reference C ≡ d → go (begin_primary C) ts ≡ go (begin_filter x.found w C) next
whose_read d ts head left w next x e C i = x.reads C i ∙ ap (go (next_primary x.found C)) e ∙ absent.low (depth_reference C) d i x.low _ _

pub term_no_open : (d end : ℕ) (ts : List Shaped) (head : Plain) (left : List Shaped) (w : Place) (next : List Shaped) (at : Place) → PrimaryReads d ts head left → Begins (reserved the.Whose) left w next → Lacks (sign lex.OpenBracket) next → at ≡ place_of end next → ReferenceFails d end ts (NoParse at)
term_no_open d end ts head left w next at x e h a = λ C i. (next, whose_read d ts head left w next x e C i ∙ absent.no_open next x.found w C h, a)

pub term_filtered : (d : ℕ) (ts : List Shaped) (head : Plain) (left : List Shaped) (w p : Place) (next next' : List Shaped) (filter : Plain) (left' : List Shaped) (all : Plain) → PrimaryReads d ts head left → Begins (reserved the.Whose) left w next → Begins (sign lex.OpenBracket) next p next' → BracketsRead d p next' filter left' → all ≡ with_filter head filter → TermReads d ts all left'
term_filtered d ts head left w p next next' filter left' all x e o b a = record {
  found = filtered x.found w p b.found b.close;
  tree_is = a ∙ ap (λ t. with_filter t filter) x.tree_is ∙ ap (with_filter _) b.tree_is;
  low = x.low;
  shorter = omega (arith, x.shorter, b.shorter, ap length e, ap length o);
  reads = λ C i.
      whose_read d ts head left w next x e C i ∙ ap (go (begin_filter x.found w C)) o
      ∙ absent.low (depth_reference C + 1) (d + 1) (ap (λ n. n + 1) i) b.low _ _
      ∙ b.reads (in_filter x.found w p C) (ap (λ n. n + 1) i)
      ∙ absent.low (depth_reference C + 1) (d + 1) (ap (λ n. n + 1) i) b.low _ _;
}

pub term_filter_fails : (d end : ℕ) (ts : List Shaped) (head : Plain) (left : List Shaped) (w p : Place) (next next' : List Shaped) (e : ParseError) → PrimaryReads d ts head left → Begins (reserved the.Whose) left w next → Begins (sign lex.OpenBracket) next p next' → BracketsFail d p end next' e → ReferenceFails d end ts e
term_filter_fails d end ts head left w p next next' e x i o f = λ C k. absent.along end e _ _ (whose_read d ts head left w next x i C k ∙ ap (go (begin_filter x.found w C)) o) (f (begin_filter x.found w C) (in_filter x.found w p C) tt (ap (λ n. n + 1) k) (ap (λ n. to (n + 1) (want_choice (tuple_first (collection_first (in_filter x.found w p C))))) k))
