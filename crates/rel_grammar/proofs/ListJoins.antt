-- How collections and tuples are read, part by part.
use Rattle.std.proofs.Common.{◌≡◌, ℕ, ◌≤◌, List, length, ◌∙◌, ap, arith}
use Rattle.rel_lexer.specs.declared.place.Place.{Place}
use Rattle.rel_lexer.specs.declared.sign.Sign.TheVariants as lex
use Rattle.rel_grammar.specs.Shapes.{sign, Shaped}
use Rattle.rel_grammar.specs.declared.error.ParseError.{ParseError}
use Rattle.rel_grammar.specs.Grammar.{collection_one, collection_more, tuple_one, tuple_more}
use Rattle.rel_grammar.specs.Trees.{Plain, tuple, collection, Parts, no_parts, more_parts, collection_parts, tuple_parts}
use Rattle.rel_grammar.specs.Machine.{OverCollection, OverTuple, collection_first, collection_next, tuple_first, tuple_next, depth_collection, depth_tuple, next_collection, next_tuple, begin_choice, begin_collection, go}
use Rattle.rel_grammar.specs.Reads.{Lacks, Begins, CollectionReads, CollectionFails, TupleReads, TupleFails, ChoiceReads, ChoiceFails, CollectionGoesOn, TupleGoesOn}
use Rattle.rel_grammar.proofs.Absent as absent

-- collection
pub collection_one_read : (d : ℕ) (ts : List Shaped) (tree : Plain) (left : List Shaped) → TupleReads d ts tree left → Lacks (sign lex.Semicolon) left → CollectionReads d ts tree left
collection_one_read d ts tree left u h = record {
  found = collection_one u.found;
  tree_is = u.tree_is;
  ends = h;
  shorter = u.shorter;
  reads = λ C e. u.reads (collection_first C) e;
}

pub collection_first_read : (d : ℕ) (ts : List Shaped) (tree : Plain) (left : List Shaped) (p : Place) (next : List Shaped) (none parts : Parts) → TupleReads d ts tree left → Begins (sign lex.Semicolon) left p next → none ≡ no_parts → parts ≡ more_parts none tree → CollectionGoesOn d ts parts next
collection_first_read d ts tree left p next none parts u e k i = record {
  found = collection_one u.found;
  place = p;
  parts_are = i ∙ ap (λ x. more_parts x tree) k ∙ ap (more_parts no_parts) u.tree_is;
  shorter = omega (arith, u.shorter, ap length e);
  reads = λ C h. u.reads (collection_first C) h ∙ ap (go (next_collection (collection_one u.found) C)) e;
}

collection_then : (d : ℕ) (ts : List Shaped) (parts : Parts) (next : List Shaped) (tree : Plain) (left : List Shaped) → d ≤ 64 → (g : CollectionGoesOn d ts parts next) (u : TupleReads d next tree left) (C : OverCollection) → depth_collection C ≡ d → go (begin_collection C) ts ≡ go (next_collection (collection_more g.found g.place u.found) C) left
collection_then d ts parts next tree left h g u C e = g.reads C e ∙ absent.low (depth_collection C) d e h _ _ ∙ u.reads (collection_next g.found g.place C) e

pub collection_more_read : (d : ℕ) (ts : List Shaped) (parts parts' : Parts) (next : List Shaped) (tree : Plain) (left : List Shaped) (p : Place) (next' : List Shaped) → d ≤ 64 → CollectionGoesOn d ts parts next → TupleReads d next tree left → Begins (sign lex.Semicolon) left p next' → parts' ≡ more_parts parts tree → CollectionGoesOn d ts parts' next'
collection_more_read d ts parts parts' next tree left p next' h g u e i = record {
  found = collection_more g.found g.place u.found;
  place = p;
  parts_are = i ∙ ap (λ x. more_parts x tree) g.parts_are ∙ ap (more_parts (collection_parts g.found)) u.tree_is;
  shorter = omega (arith, g.shorter, u.shorter, ap length e);
  reads = λ C k. collection_then d ts parts next tree left h g u C k ∙ ap (go (next_collection (collection_more g.found g.place u.found) C)) e;
}

pub collection_last_read : (d : ℕ) (ts : List Shaped) (parts parts' : Parts) (next : List Shaped) (tree : Plain) (left : List Shaped) (all : Plain) → d ≤ 64 → CollectionGoesOn d ts parts next → TupleReads d next tree left → Lacks (sign lex.Semicolon) left → parts' ≡ more_parts parts tree → all ≡ collection parts' → CollectionReads d ts all left
collection_last_read d ts parts parts' next tree left all h g u k i a = record {
  found = collection_more g.found g.place u.found;
  tree_is = a ∙ ap collection (i ∙ ap (λ x. more_parts x tree) g.parts_are ∙ ap (more_parts (collection_parts g.found)) u.tree_is);
  ends = k;
  shorter = omega (arith, g.shorter, u.shorter);
  reads = λ C z. collection_then d ts parts next tree left h g u C z;
}

pub collection_first_fails : (d end : ℕ) (ts : List Shaped) (e : ParseError) → TupleFails d end ts e → CollectionFails d end ts e
collection_first_fails d end ts e f = λ C k. f (collection_first C) k

pub collection_fails : (d end : ℕ) (ts : List Shaped) (parts : Parts) (next : List Shaped) (e : ParseError) → d ≤ 64 → CollectionGoesOn d ts parts next → TupleFails d end next e → CollectionFails d end ts e
collection_fails d end ts parts next e h g f = λ C k. absent.along end e _ _ (g.reads C k ∙ absent.low (depth_collection C) d k h _ _) (f (collection_next g.found g.place C) k)

-- tuple
pub tuple_one_read : (d : ℕ) (ts : List Shaped) (tree : Plain) (left : List Shaped) → ChoiceReads d ts tree left → Lacks (sign lex.Comma) left → TupleReads d ts tree left
tuple_one_read d ts tree left u h = record {
  found = tuple_one u.found;
  tree_is = u.tree_is;
  shorter = u.shorter;
  reads = λ C e. u.reads (tuple_first C) e ∙ absent.no_comma left (tuple_one u.found) C h;
}

pub tuple_first_read : (d : ℕ) (ts : List Shaped) (tree : Plain) (left : List Shaped) (p : Place) (next : List Shaped) (none parts : Parts) → ChoiceReads d ts tree left → Begins (sign lex.Comma) left p next → none ≡ no_parts → parts ≡ more_parts none tree → TupleGoesOn d ts parts next
tuple_first_read d ts tree left p next none parts u e k i = record {
  found = tuple_one u.found;
  place = p;
  parts_are = i ∙ ap (λ x. more_parts x tree) k ∙ ap (more_parts no_parts) u.tree_is;
  shorter = omega (arith, u.shorter, ap length e);
  reads = λ C h. u.reads (tuple_first C) h ∙ ap (go (next_tuple (tuple_one u.found) C)) e;
}

tuple_then : (d : ℕ) (ts : List Shaped) (parts : Parts) (next : List Shaped) (tree : Plain) (left : List Shaped) → d ≤ 64 → (g : TupleGoesOn d ts parts next) (u : ChoiceReads d next tree left) (C : OverTuple) → depth_tuple C ≡ d → go (begin_choice (tuple_first C)) ts ≡ go (next_tuple (tuple_more g.found g.place u.found) C) left
tuple_then d ts parts next tree left h g u C e = g.reads C e ∙ absent.low (depth_tuple C) d e h _ _ ∙ u.reads (tuple_next g.found g.place C) e

pub tuple_more_read : (d : ℕ) (ts : List Shaped) (parts parts' : Parts) (next : List Shaped) (tree : Plain) (left : List Shaped) (p : Place) (next' : List Shaped) → d ≤ 64 → TupleGoesOn d ts parts next → ChoiceReads d next tree left → Begins (sign lex.Comma) left p next' → parts' ≡ more_parts parts tree → TupleGoesOn d ts parts' next'
tuple_more_read d ts parts parts' next tree left p next' h g u e i = record {
  found = tuple_more g.found g.place u.found;
  place = p;
  parts_are = i ∙ ap (λ x. more_parts x tree) g.parts_are ∙ ap (more_parts (tuple_parts g.found)) u.tree_is;
  shorter = omega (arith, g.shorter, u.shorter, ap length e);
  reads = λ C k. tuple_then d ts parts next tree left h g u C k ∙ ap (go (next_tuple (tuple_more g.found g.place u.found) C)) e;
}

pub tuple_last_read : (d : ℕ) (ts : List Shaped) (parts parts' : Parts) (next : List Shaped) (tree : Plain) (left : List Shaped) (all : Plain) → d ≤ 64 → TupleGoesOn d ts parts next → ChoiceReads d next tree left → Lacks (sign lex.Comma) left → parts' ≡ more_parts parts tree → all ≡ tuple parts' → TupleReads d ts all left
tuple_last_read d ts parts parts' next tree left all h g u k i a = record {
  found = tuple_more g.found g.place u.found;
  tree_is = a ∙ ap tuple (i ∙ ap (λ x. more_parts x tree) g.parts_are ∙ ap (more_parts (tuple_parts g.found)) u.tree_is);
  shorter = omega (arith, g.shorter, u.shorter);
  reads = λ C z. tuple_then d ts parts next tree left h g u C z ∙ absent.no_comma left (tuple_more g.found g.place u.found) C k;
}

pub tuple_first_fails : (d end : ℕ) (ts : List Shaped) (e : ParseError) → ChoiceFails d end ts e → TupleFails d end ts e
tuple_first_fails d end ts e f = λ C k. f (tuple_first C) k

pub tuple_fails : (d end : ℕ) (ts : List Shaped) (parts : Parts) (next : List Shaped) (e : ParseError) → d ≤ 64 → TupleGoesOn d ts parts next → ChoiceFails d end next e → TupleFails d end ts e
tuple_fails d end ts parts next e h g f = λ C k. absent.along end e _ _ (g.reads C k ∙ absent.low (depth_tuple C) d k h _ _) (f (tuple_next g.found g.place C) k)
