-- From what the parser did to what the grammar says.
use Rattle.std.proofs.Common.{◌≡◌, ℕ, ◌<◌, List, [], ◌∷◌, length, refl, sym, ◌∙◌, ap, subst, arith}
use Rattle.rel_lexer.specs.declared.place.Place.{Place}
use Rattle.rel_lexer.specs.declared.sign.Sign.TheVariants as lex
use Rattle.rel_grammar.specs.declared.error.ParseError.{ParseError}
use Rattle.rel_grammar.specs.declared.error.ParseError.TheVariants.{NoParse, TooDeep, Memory}
use Rattle.rel_grammar.specs.Shapes.{Kind, sign, Shaped}
use Rattle.rel_grammar.specs.Grammar.{Question}
use Rattle.rel_grammar.specs.Sentences.{Sentence, IsShallow, question_marks}
use Rattle.rel_grammar.specs.Trees.{Plain, question_tree}
use Rattle.rel_grammar.specs.Machine.{whole, step, start, next_collection, parsed, no_parse, go}
use Rattle.rel_grammar.specs.Answers.{place_of, Parses, Refuses}
use Rattle.rel_grammar.specs.Reads.{shaped_at, Lacks, Faults, CollectionReads}
use Rattle.rel_grammar.proofs.Exact.{read_exactly, refused_exactly, deep_exactly, answered}

empty : (ts : List Shaped) → length ts ≡ 0 → ts ≡ []
empty [] h = refl
empty (t ∷ ts) h = absurd (omega arith)

at_end : (ts : List Shaped) (tree : Plain) (left : List Shaped) → length left ≡ 0 → (r : CollectionReads 0 ts tree left) → go (step start) ts ≡ parsed r.found
at_end ts tree left h r = r.reads whole refl ∙ ap (go (next_collection r.found whole)) (empty left h)

pub whole_found : (ts : List Shaped) (tree : Plain) (left : List Shaped) → length left ≡ 0 → CollectionReads 0 ts tree left → Parses ts tree
whole_found ts tree left h r = let k = read_exactly ts r.found (at_end ts tree left h r) in (r.found, k.0, k.1, r.tree_is)

same_parsed : (p q : Question) → parsed p ≡ parsed q → p ≡ q
same_parsed p q e = cc

pub whole_only : (ts : List Shaped) (tree : Plain) (left : List Shaped) → length left ≡ 0 → CollectionReads 0 ts tree left → (q : Question) → Sentence ts q → IsShallow (question_marks q) → tree ≡ question_tree q
whole_only ts tree left h r q is low = r.tree_is ∙ ap question_tree (same_parsed r.found q (sym (at_end ts tree left h r) ∙ answered ts q is low))

more_at : (k : Kind) (p : Place) (ts : List Shaped) (q : Question) → (k ≡ sign lex.Semicolon → ⊥) → go (next_collection q whole) (shaped_at k p ∷ ts) ≡ no_parse (shaped_at k p ∷ ts)
more_at (sign lex.Semicolon) p ts q h = absurd (h refl)
more_at _ p ts q h = refl

more : (ts : List Shaped) (q : Question) → 0 < length ts → Lacks (sign lex.Semicolon) ts → go (next_collection q whole) ts ≡ no_parse ts
more [] q h g = absurd (omega arith)
more (t ∷ ts) q h g = more_at t.kind t.place ts q g

pub whole_left : (end : ℕ) (ts : List Shaped) (tree : Plain) (left : List Shaped) (p : Place) → 0 < length left → CollectionReads 0 ts tree left → p ≡ place_of end left → Faults end (NoParse p) (go (step start) ts)
whole_left end ts tree left p h r e = (left, r.reads whole refl ∙ more left r.found h r.ends, e)

pub whole_fault : (end : ℕ) (ts : List Shaped) (e : ParseError) → Faults end e (go (step start) ts) → Refuses end ts e
whole_fault end ts (NoParse p) f = (f.0, refused_exactly ts f.0 f.1, f.2)
whole_fault end ts (TooDeep p) f = (f.0, deep_exactly ts f.0 f.1, f.2)
whole_fault end ts Memory f = tt

no_fault : (end : ℕ) (q : Question) (e : ParseError) → Faults end e (parsed q) → e ≡ Memory
no_fault end q (NoParse p) f = let h = f.1 in cc
no_fault end q (TooDeep p) f = let h = f.1 in cc
no_fault end q Memory f = refl

pub whole_memory : (end : ℕ) (ts : List Shaped) (e : ParseError) → Faults end e (go (step start) ts) → (q : Question) → Sentence ts q → IsShallow (question_marks q) → e ≡ Memory
whole_memory end ts e f q is low = no_fault end q e (subst (Faults end e) (answered ts q is low) f)
