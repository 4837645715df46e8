-- How the signs of a relation are read.
use Rattle.std.proofs.Common.{◌≡◌, ℕ, ◌≤◌, ◌<◌, List, [], ◌∷◌, length, cond, refl, sym, ◌∙◌, ap, subst, arith}
use Rattle.std.specs.Prelude.{nat_lt}
use Rattle.rel_lexer.specs.declared.place.Place.{Place}
use Rattle.rel_grammar.specs.declared.vocabulary.Reserved.TheVariants as the
use Rattle.rel_grammar.specs.declared.vocabulary.Helper.TheVariants as aid
use Rattle.rel_grammar.specs.Shapes.{Kind, reserved, not_of_is, word, helper, Shaped}
use Rattle.rel_lexer.specs.declared.operator.BinarySign.{BinarySign}
use Rattle.rel_lexer.specs.declared.operator.BinarySign.TheVariants as operator
use Rattle.rel_grammar.specs.declared.error.ParseError.{ParseError}
use Rattle.rel_grammar.specs.declared.error.ParseError.TheVariants.{NoParse}
use Rattle.rel_grammar.specs.Grammar.{Comparison, equals, differs, below, at_most, above, at_least, compares, is_alone, is_not, is_contained_by, is_not_contained_by, contains, starts_with, ends_with, does_not_contain, does_not_start_with, does_not_end_with, Sum}
use Rattle.rel_grammar.specs.Spelling.{comparison_kind}
use Rattle.rel_grammar.specs.Trees.{span_of, relop_sign}
use Rattle.rel_grammar.specs.Machine.{OverRelation, left_side, right_side, Partial, read_is, read_is_not, read_contained, read_not_contained, read_starts, read_ends, read_does, read_does_not, read_start, read_end, depth_relation, over_sum, end_sum, begin_unary, next_relop, Answer, no_parse, go}
use Rattle.rel_grammar.specs.Answers.{place_of}
use Rattle.rel_grammar.specs.Reads.{shaped_at, Lacks, Begins, Faults, RelopReads, RelopFails, PartialReads, PartialFails, BeginsComparison, EndsSign, LacksLast}
use Rattle.rel_grammar.proofs.Absent as absent

abbrev nowhere : Place
nowhere = record { from = 0; to = 0 }

fits : (C : OverRelation) → depth_relation C ≤ 64 → (a b : Answer) → cond (nat_lt 64 (depth_relation C)) a b ≡ b
fits C h a b = absent.low (depth_relation C) (depth_relation C) refl h a b

-- after `is` and after `is not`
is_alone_at : (k : Kind) (q : Place) (ts : List Shaped) (s : Sum) (p : Place) (C : OverRelation) → (k ≡ not_of_is → ⊥) → (k ≡ reserved the.Contained → ⊥) → go (next_relop s (read_is p) C) (shaped_at k q ∷ ts) ≡ go (begin_unary (over_sum (right_side s (is_alone p) C))) (shaped_at k q ∷ ts)
is_alone_at not_of_is q ts s p C h g = absurd (h refl)
is_alone_at (reserved the.Contained) q ts s p C h g = absurd (g refl)
is_alone_at _ q ts s p C h g = refl

is_alone_here : (ts : List Shaped) (s : Sum) (p : Place) (C : OverRelation) → Lacks not_of_is ts → Lacks (reserved the.Contained) ts → go (next_relop s (read_is p) C) ts ≡ go (begin_unary (over_sum (right_side s (is_alone p) C))) ts
is_alone_here [] s p C h g = refl
is_alone_here (t ∷ ts) s p C h g = is_alone_at t.kind t.place ts s p C h g

not_alone_at : (k : Kind) (q : Place) (ts : List Shaped) (s : Sum) (p o : Place) (C : OverRelation) → (k ≡ reserved the.Contained → ⊥) → go (next_relop s (read_is_not p o) C) (shaped_at k q ∷ ts) ≡ go (begin_unary (over_sum (right_side s (is_not p o) C))) (shaped_at k q ∷ ts)
not_alone_at (reserved the.Contained) q ts s p o C g = absurd (g refl)
not_alone_at _ q ts s p o C g = refl

not_alone_here : (ts : List Shaped) (s : Sum) (p o : Place) (C : OverRelation) → Lacks (reserved the.Contained) ts → go (next_relop s (read_is_not p o) C) ts ≡ go (begin_unary (over_sum (right_side s (is_not p o) C))) ts
not_alone_here [] s p o C g = refl
not_alone_here (t ∷ ts) s p o C g = not_alone_at t.kind t.place ts s p o C g

pub partial_is : (ts : List Shaped) (p : Place) → Lacks not_of_is ts → Lacks (reserved the.Contained) ts → PartialReads (read_is p) ts p operator.Is ts
partial_is ts p h g = record { found = is_alone p; place_is = refl; sign_is = refl; no_longer = omega arith; reads = λ s C d. is_alone_here ts s p C h g }

pub partial_is_not : (ts : List Shaped) (p q : Place) (left : List Shaped) → Begins not_of_is ts q left → Lacks (reserved the.Contained) left → PartialReads (read_is p) ts (span_of p q) operator.IsNot left
partial_is_not ts p q left e g = record { found = is_not p q; place_is = refl; sign_is = refl; no_longer = omega (arith, ap length e); reads = λ s C d. ap (go (next_relop s (read_is p) C)) e ∙ fits C d _ _ ∙ not_alone_here left s p q C g }

no_last_read_contained_at : (k : Kind) (z : Place) (ts : List Shaped) (p q : Place) (s : Sum) (C : OverRelation) → (k ≡ word (helper aid.By) → ⊥) → go (next_relop s (read_contained p q) C) (shaped_at k z ∷ ts) ≡ no_parse (shaped_at k z ∷ ts)
no_last_read_contained_at (word (helper aid.By)) z ts p q s C h = absurd (h refl)
no_last_read_contained_at _ z ts p q s C h = refl

no_last_read_contained : (ts : List Shaped) (p q : Place) (s : Sum) (C : OverRelation) → Lacks (word (helper aid.By)) ts → go (next_relop s (read_contained p q) C) ts ≡ no_parse ts
no_last_read_contained [] p q s C h = refl
no_last_read_contained (t ∷ ts) p q s C h = no_last_read_contained_at t.kind t.place ts p q s C h

pub last_read_contained : (ts : List Shaped) (p q : Place) (place : Place) (left : List Shaped) → EndsSign p aid.By ts place left → PartialReads (read_contained p q) ts place (relop_sign (is_contained_by p q nowhere)) left
last_read_contained ts p q place left e = record { found = is_contained_by p q e.0; place_is = e.2; sign_is = refl; no_longer = omega (arith, ap length e.1); reads = λ s C d. ap (go (next_relop s (read_contained p q) C)) e.1 ∙ fits C d _ _ }

pub fail_read_contained : (end : ℕ) (ts : List Shaped) (p q : Place) (e : ParseError) → LacksLast aid.By end ts e → PartialFails (read_contained p q) end ts e
fail_read_contained end ts p q e h = λ s C d. subst (λ x. Faults end x (go (next_relop s (read_contained p q) C) ts)) (sym h.1) (ts, no_last_read_contained ts p q s C h.0, refl)

no_last_read_not_contained_at : (k : Kind) (z : Place) (ts : List Shaped) (p q o : Place) (s : Sum) (C : OverRelation) → (k ≡ word (helper aid.By) → ⊥) → go (next_relop s (read_not_contained p q o) C) (shaped_at k z ∷ ts) ≡ no_parse (shaped_at k z ∷ ts)
no_last_read_not_contained_at (word (helper aid.By)) z ts p q o s C h = absurd (h refl)
no_last_read_not_contained_at _ z ts p q o s C h = refl

no_last_read_not_contained : (ts : List Shaped) (p q o : Place) (s : Sum) (C : OverRelation) → Lacks (word (helper aid.By)) ts → go (next_relop s (read_not_contained p q o) C) ts ≡ no_parse ts
no_last_read_not_contained [] p q o s C h = refl
no_last_read_not_contained (t ∷ ts) p q o s C h = no_last_read_not_contained_at t.kind t.place ts p q o s C h

pub last_read_not_contained : (ts : List Shaped) (p q o : Place) (place : Place) (left : List Shaped) → EndsSign p aid.By ts place left → PartialReads (read_not_contained p q o) ts place (relop_sign (is_not_contained_by p q o nowhere)) left
last_read_not_contained ts p q o place left e = record { found = is_not_contained_by p q o e.0; place_is = e.2; sign_is = refl; no_longer = omega (arith, ap length e.1); reads = λ s C d. ap (go (next_relop s (read_not_contained p q o) C)) e.1 ∙ fits C d _ _ }

pub fail_read_not_contained : (end : ℕ) (ts : List Shaped) (p q o : Place) (e : ParseError) → LacksLast aid.By end ts e → PartialFails (read_not_contained p q o) end ts e
fail_read_not_contained end ts p q o e h = λ s C d. subst (λ x. Faults end x (go (next_relop s (read_not_contained p q o) C) ts)) (sym h.1) (ts, no_last_read_not_contained ts p q o s C h.0, refl)

no_last_read_starts_at : (k : Kind) (z : Place) (ts : List Shaped) (p : Place) (s : Sum) (C : OverRelation) → (k ≡ word (helper aid.With) → ⊥) → go (next_relop s (read_starts p) C) (shaped_at k z ∷ ts) ≡ no_parse (shaped_at k z ∷ ts)
no_last_read_starts_at (word (helper aid.With)) z ts p s C h = absurd (h refl)
no_last_read_starts_at _ z ts p s C h = refl

no_last_read_starts : (ts : List Shaped) (p : Place) (s : Sum) (C : OverRelation) → Lacks (word (helper aid.With)) ts → go (next_relop s (read_starts p) C) ts ≡ no_parse ts
no_last_read_starts [] p s C h = refl
no_last_read_starts (t ∷ ts) p s C h = no_last_read_starts_at t.kind t.place ts p s C h

pub last_read_starts : (ts : List Shaped) (p : Place) (place : Place) (left : List Shaped) → EndsSign p aid.With ts place left → PartialReads (read_starts p) ts place (relop_sign (starts_with p nowhere)) left
last_read_starts ts p place left e = record { found = starts_with p e.0; place_is = e.2; sign_is = refl; no_longer = omega (arith, ap length e.1); reads = λ s C d. ap (go (next_relop s (read_starts p) C)) e.1 ∙ fits C d _ _ }

pub fail_read_starts : (end : ℕ) (ts : List Shaped) (p : Place) (e : ParseError) → LacksLast aid.With end ts e → PartialFails (read_starts p) end ts e
fail_read_starts end ts p e h = λ s C d. subst (λ x. Faults end x (go (next_relop s (read_starts p) C) ts)) (sym h.1) (ts, no_last_read_starts ts p s C h.0, refl)

no_last_read_ends_at : (k : Kind) (z : Place) (ts : List Shaped) (p : Place) (s : Sum) (C : OverRelation) → (k ≡ word (helper aid.With) → ⊥) → go (next_relop s (read_ends p) C) (shaped_at k z ∷ ts) ≡ no_parse (shaped_at k z ∷ ts)
no_last_read_ends_at (word (helper aid.With)) z ts p s C h = absurd (h refl)
no_last_read_ends_at _ z ts p s C h = refl

no_last_read_ends : (ts : List Shaped) (p : Place) (s : Sum) (C : OverRelation) → Lacks (word (helper aid.With)) ts → go (next_relop s (read_ends p) C) ts ≡ no_parse ts
no_last_read_ends [] p s C h = refl
no_last_read_ends (t ∷ ts) p s C h = no_last_read_ends_at t.kind t.place ts p s C h

pub last_read_ends : (ts : List Shaped) (p : Place) (place : Place) (left : List Shaped) → EndsSign p aid.With ts place left → PartialReads (read_ends p) ts place (relop_sign (ends_with p nowhere)) left
last_read_ends ts p place left e = record { found = ends_with p e.0; place_is = e.2; sign_is = refl; no_longer = omega (arith, ap length e.1); reads = λ s C d. ap (go (next_relop s (read_ends p) C)) e.1 ∙ fits C d _ _ }

pub fail_read_ends : (end : ℕ) (ts : List Shaped) (p : Place) (e : ParseError) → LacksLast aid.With end ts e → PartialFails (read_ends p) end ts e
fail_read_ends end ts p e h = λ s C d. subst (λ x. Faults end x (go (next_relop s (read_ends p) C) ts)) (sym h.1) (ts, no_last_read_ends ts p s C h.0, refl)

no_last_read_start_at : (k : Kind) (z : Place) (ts : List Shaped) (p q o : Place) (s : Sum) (C : OverRelation) → (k ≡ word (helper aid.With) → ⊥) → go (next_relop s (read_start p q o) C) (shaped_at k z ∷ ts) ≡ no_parse (shaped_at k z ∷ ts)
no_last_read_start_at (word (helper aid.With)) z ts p q o s C h = absurd (h refl)
no_last_read_start_at _ z ts p q o s C h = refl

no_last_read_start : (ts : List Shaped) (p q o : Place) (s : Sum) (C : OverRelation) → Lacks (word (helper aid.With)) ts → go (next_relop s (read_start p q o) C) ts ≡ no_parse ts
no_last_read_start [] p q o s C h = refl
no_last_read_start (t ∷ ts) p q o s C h = no_last_read_start_at t.kind t.place ts p q o s C h

pub last_read_start : (ts : List Shaped) (p q o : Place) (place : Place) (left : List Shaped) → EndsSign p aid.With ts place left → PartialReads (read_start p q o) ts place (relop_sign (does_not_start_with p q o nowhere)) left
last_read_start ts p q o place left e = record { found = does_not_start_with p q o e.0; place_is = e.2; sign_is = refl; no_longer = omega (arith, ap length e.1); reads = λ s C d. ap (go (next_relop s (read_start p q o) C)) e.1 ∙ fits C d _ _ }

pub fail_read_start : (end : ℕ) (ts : List Shaped) (p q o : Place) (e : ParseError) → LacksLast aid.With end ts e → PartialFails (read_start p q o) end ts e
fail_read_start end ts p q o e h = λ s C d. subst (λ x. Faults end x (go (next_relop s (read_start p q o) C) ts)) (sym h.1) (ts, no_last_read_start ts p q o s C h.0, refl)

no_last_read_end_at : (k : Kind) (z : Place) (ts : List Shaped) (p q o : Place) (s : Sum) (C : OverRelation) → (k ≡ word (helper aid.With) → ⊥) → go (next_relop s (read_end p q o) C) (shaped_at k z ∷ ts) ≡ no_parse (shaped_at k z ∷ ts)
no_last_read_end_at (word (helper aid.With)) z ts p q o s C h = absurd (h refl)
no_last_read_end_at _ z ts p q o s C h = refl

no_last_read_end : (ts : List Shaped) (p q o : Place) (s : Sum) (C : OverRelation) → Lacks (word (helper aid.With)) ts → go (next_relop s (read_end p q o) C) ts ≡ no_parse ts
no_last_read_end [] p q o s C h = refl
no_last_read_end (t ∷ ts) p q o s C h = no_last_read_end_at t.kind t.place ts p q o s C h

pub last_read_end : (ts : List Shaped) (p q o : Place) (place : Place) (left : List Shaped) → EndsSign p aid.With ts place left → PartialReads (read_end p q o) ts place (relop_sign (does_not_end_with p q o nowhere)) left
last_read_end ts p q o place left e = record { found = does_not_end_with p q o e.0; place_is = e.2; sign_is = refl; no_longer = omega (arith, ap length e.1); reads = λ s C d. ap (go (next_relop s (read_end p q o) C)) e.1 ∙ fits C d _ _ }

pub fail_read_end : (end : ℕ) (ts : List Shaped) (p q o : Place) (e : ParseError) → LacksLast aid.With end ts e → PartialFails (read_end p q o) end ts e
fail_read_end end ts p q o e h = λ s C d. subst (λ x. Faults end x (go (next_relop s (read_end p q o) C) ts)) (sym h.1) (ts, no_last_read_end ts p q o s C h.0, refl)

-- one more word of a sign
further : (x y : Partial) (ts left : List Shaped) (place : Place) (op : BinarySign) (left' : List Shaped) → length left ≤ length ts → ((s : Sum) (C : OverRelation) → depth_relation C ≤ 64 → go (next_relop s x C) ts ≡ go (next_relop s y C) left) → PartialReads y left place op left' → PartialReads x ts place op left'
further x y ts left place op left' n h r = record { found = r.found; place_is = r.place_is; sign_is = r.sign_is; no_longer = omega (arith, r.no_longer); reads = λ s C d. h s C d ∙ r.reads s C d }

further_fails : (x y : Partial) (end : ℕ) (ts left : List Shaped) (e : ParseError) → ((s : Sum) (C : OverRelation) → depth_relation C ≤ 64 → go (next_relop s x C) ts ≡ go (next_relop s y C) left) → PartialFails y end left e → PartialFails x end ts e
further_fails x y end ts left e h f = λ s C d. absent.along end e _ _ (h s C d) (f s C d)

signed_so : (x : Partial) (ts : List Shaped) (place : Place) (op op' : BinarySign) (left : List Shaped) → op' ≡ op → PartialReads x ts place op left → PartialReads x ts place op' left
signed_so x ts place op op' left e r = record { found = r.found; place_is = r.place_is; sign_is = e ∙ r.sign_is; no_longer = r.no_longer; reads = r.reads }

is_not_here : (p q : Place) (ts left : List Shaped) → Begins not_of_is ts q left → (s : Sum) (C : OverRelation) → depth_relation C ≤ 64 → go (next_relop s (read_is p) C) ts ≡ go (next_relop s (read_is_not p q) C) left
is_not_here p q ts left e s C d = ap (go (next_relop s (read_is p) C)) e ∙ fits C d _ _

contained_here : (p q : Place) (ts left : List Shaped) → Begins (reserved the.Contained) ts q left → (s : Sum) (C : OverRelation) → depth_relation C ≤ 64 → go (next_relop s (read_is p) C) ts ≡ go (next_relop s (read_contained p q) C) left
contained_here p q ts left e s C d = ap (go (next_relop s (read_is p) C)) e ∙ fits C d _ _

not_contained_here : (p q o : Place) (ts left : List Shaped) → Begins (reserved the.Contained) ts o left → (s : Sum) (C : OverRelation) → depth_relation C ≤ 64 → go (next_relop s (read_is_not p q) C) ts ≡ go (next_relop s (read_not_contained p q o) C) left
not_contained_here p q o ts left e s C d = ap (go (next_relop s (read_is_not p q) C)) e ∙ fits C d _ _

does_here : (p q : Place) (ts left : List Shaped) → Begins (reserved the.Not) ts q left → (s : Sum) (C : OverRelation) → depth_relation C ≤ 64 → go (next_relop s (read_does p) C) ts ≡ go (next_relop s (read_does_not p q) C) left
does_here p q ts left e s C d = ap (go (next_relop s (read_does p) C)) e ∙ fits C d _ _

start_here : (p q o : Place) (ts left : List Shaped) → Begins (word (helper aid.Start)) ts o left → (s : Sum) (C : OverRelation) → depth_relation C ≤ 64 → go (next_relop s (read_does_not p q) C) ts ≡ go (next_relop s (read_start p q o) C) left
start_here p q o ts left e s C d = ap (go (next_relop s (read_does_not p q) C)) e ∙ fits C d _ _

end_here : (p q o : Place) (ts left : List Shaped) → Begins (word (helper aid.End)) ts o left → (s : Sum) (C : OverRelation) → depth_relation C ≤ 64 → go (next_relop s (read_does_not p q) C) ts ≡ go (next_relop s (read_end p q o) C) left
end_here p q o ts left e s C d = ap (go (next_relop s (read_does_not p q) C)) e ∙ fits C d _ _

-- `is contained by` and `is not contained by`
pub contained_read : (p q : Place) (ts next : List Shaped) (place : Place) (op : BinarySign) (left : List Shaped) → Begins (reserved the.Contained) ts q next → EndsSign p aid.By next place left → op ≡ operator.IsContainedBy → PartialReads (read_is p) ts place op left
contained_read p q ts next place op left e l i = signed_so (read_is p) ts place operator.IsContainedBy op left i (further (read_is p) (read_contained p q) ts next place operator.IsContainedBy left (omega (arith, ap length e)) (contained_here p q ts next e) (last_read_contained next p q place left l))

pub contained_fails : (p q : Place) (end : ℕ) (ts next : List Shaped) (e : ParseError) → Begins (reserved the.Contained) ts q next → LacksLast aid.By end next e → PartialFails (read_is p) end ts e
contained_fails p q end ts next e i l = further_fails (read_is p) (read_contained p q) end ts next e (contained_here p q ts next i) (fail_read_contained end next p q e l)

pub not_contained_read : (p q o : Place) (ts mid next : List Shaped) (place : Place) (op : BinarySign) (left : List Shaped) → Begins not_of_is ts q mid → Begins (reserved the.Contained) mid o next → EndsSign p aid.By next place left → op ≡ operator.IsNotContainedBy → PartialReads (read_is p) ts place op left
not_contained_read p q o ts mid next place op left n e l i = signed_so (read_is p) ts place operator.IsNotContainedBy op left i (further (read_is p) (read_is_not p q) ts mid place operator.IsNotContainedBy left (omega (arith, ap length n)) (is_not_here p q ts mid n) (further (read_is_not p q) (read_not_contained p q o) mid next place operator.IsNotContainedBy left (omega (arith, ap length e)) (not_contained_here p q o mid next e) (last_read_not_contained next p q o place left l)))

pub not_contained_fails : (p q o : Place) (end : ℕ) (ts mid next : List Shaped) (e : ParseError) → Begins not_of_is ts q mid → Begins (reserved the.Contained) mid o next → LacksLast aid.By end next e → PartialFails (read_is p) end ts e
not_contained_fails p q o end ts mid next e n i l = further_fails (read_is p) (read_is_not p q) end ts mid e (is_not_here p q ts mid n) (further_fails (read_is_not p q) (read_not_contained p q o) end mid next e (not_contained_here p q o mid next i) (fail_read_not_contained end next p q o e l))

-- `does not ..`
no_not_at : (k : Kind) (z : Place) (ts : List Shaped) (p : Place) (s : Sum) (C : OverRelation) → (k ≡ reserved the.Not → ⊥) → go (next_relop s (read_does p) C) (shaped_at k z ∷ ts) ≡ no_parse (shaped_at k z ∷ ts)
no_not_at (reserved the.Not) z ts p s C h = absurd (h refl)
no_not_at _ z ts p s C h = refl

no_not : (ts : List Shaped) (p : Place) (s : Sum) (C : OverRelation) → Lacks (reserved the.Not) ts → go (next_relop s (read_does p) C) ts ≡ no_parse ts
no_not [] p s C h = refl
no_not (t ∷ ts) p s C h = no_not_at t.kind t.place ts p s C h

pub does_fails : (p : Place) (end : ℕ) (ts : List Shaped) (at : Place) → Lacks (reserved the.Not) ts → at ≡ place_of end ts → PartialFails (read_does p) end ts (NoParse at)
does_fails p end ts at h e = λ s C d. (ts, no_not ts p s C h, e)

pub start_read : (p q o : Place) (ts mid next : List Shaped) (place : Place) (op : BinarySign) (left : List Shaped) → Begins (reserved the.Not) ts q mid → Begins (word (helper aid.Start)) mid o next → EndsSign p aid.With next place left → op ≡ operator.DoesNotStartWith → PartialReads (read_does p) ts place op left
start_read p q o ts mid next place op left n e l i = signed_so (read_does p) ts place operator.DoesNotStartWith op left i (further (read_does p) (read_does_not p q) ts mid place operator.DoesNotStartWith left (omega (arith, ap length n)) (does_here p q ts mid n) (further (read_does_not p q) (read_start p q o) mid next place operator.DoesNotStartWith left (omega (arith, ap length e)) (start_here p q o mid next e) (last_read_start next p q o place left l)))

pub start_fails : (p q o : Place) (end : ℕ) (ts mid next : List Shaped) (e : ParseError) → Begins (reserved the.Not) ts q mid → Begins (word (helper aid.Start)) mid o next → LacksLast aid.With end next e → PartialFails (read_does p) end ts e
start_fails p q o end ts mid next e n i l = further_fails (read_does p) (read_does_not p q) end ts mid e (does_here p q ts mid n) (further_fails (read_does_not p q) (read_start p q o) end mid next e (start_here p q o mid next i) (fail_read_start end next p q o e l))

pub end_read : (p q o : Place) (ts mid next : List Shaped) (place : Place) (op : BinarySign) (left : List Shaped) → Begins (reserved the.Not) ts q mid → Begins (word (helper aid.End)) mid o next → EndsSign p aid.With next place left → op ≡ operator.DoesNotEndWith → PartialReads (read_does p) ts place op left
end_read p q o ts mid next place op left n e l i = signed_so (read_does p) ts place operator.DoesNotEndWith op left i (further (read_does p) (read_does_not p q) ts mid place operator.DoesNotEndWith left (omega (arith, ap length n)) (does_here p q ts mid n) (further (read_does_not p q) (read_end p q o) mid next place operator.DoesNotEndWith left (omega (arith, ap length e)) (end_here p q o mid next e) (last_read_end next p q o place left l)))

pub end_fails : (p q o : Place) (end : ℕ) (ts mid next : List Shaped) (e : ParseError) → Begins (reserved the.Not) ts q mid → Begins (word (helper aid.End)) mid o next → LacksLast aid.With end next e → PartialFails (read_does p) end ts e
end_fails p q o end ts mid next e n i l = further_fails (read_does p) (read_does_not p q) end ts mid e (does_here p q ts mid n) (further_fails (read_does_not p q) (read_end p q o) end mid next e (end_here p q o mid next i) (fail_read_end end next p q o e l))

no_contain_at : (k : Kind) (z : Place) (ts : List Shaped) (p q : Place) (s : Sum) (C : OverRelation) → (k ≡ word (helper aid.Start) → ⊥) → (k ≡ word (helper aid.End) → ⊥) → (k ≡ word (helper aid.Contain) → ⊥) → go (next_relop s (read_does_not p q) C) (shaped_at k z ∷ ts) ≡ no_parse (shaped_at k z ∷ ts)
no_contain_at (word (helper aid.Start)) z ts p q s C a b c = absurd (a refl)
no_contain_at (word (helper aid.End)) z ts p q s C a b c = absurd (b refl)
no_contain_at (word (helper aid.Contain)) z ts p q s C a b c = absurd (c refl)
no_contain_at _ z ts p q s C a b c = refl

no_contain : (ts : List Shaped) (p q : Place) (s : Sum) (C : OverRelation) → Lacks (word (helper aid.Start)) ts → Lacks (word (helper aid.End)) ts → Lacks (word (helper aid.Contain)) ts → go (next_relop s (read_does_not p q) C) ts ≡ no_parse ts
no_contain [] p q s C a b c = refl
no_contain (t ∷ ts) p q s C a b c = no_contain_at t.kind t.place ts p q s C a b c

contain_last : (ts : List Shaped) (p q : Place) (place : Place) (left : List Shaped) → EndsSign p aid.Contain ts place left → PartialReads (read_does_not p q) ts place operator.DoesNotContain left
contain_last ts p q place left e = record { found = does_not_contain p q e.0; place_is = e.2; sign_is = refl; no_longer = omega (arith, ap length e.1); reads = λ s C d. ap (go (next_relop s (read_does_not p q) C)) e.1 ∙ fits C d _ _ }

pub contain_read : (p q : Place) (ts mid : List Shaped) (place : Place) (op : BinarySign) (left : List Shaped) → Begins (reserved the.Not) ts q mid → EndsSign p aid.Contain mid place left → op ≡ operator.DoesNotContain → PartialReads (read_does p) ts place op left
contain_read p q ts mid place op left n l i = signed_so (read_does p) ts place operator.DoesNotContain op left i (further (read_does p) (read_does_not p q) ts mid place operator.DoesNotContain left (omega (arith, ap length n)) (does_here p q ts mid n) (contain_last mid p q place left l))

pub contain_fails : (p q : Place) (end : ℕ) (ts mid : List Shaped) (e : ParseError) → Begins (reserved the.Not) ts q mid → Lacks (word (helper aid.Start)) mid → Lacks (word (helper aid.End)) mid → LacksLast aid.Contain end mid e → PartialFails (read_does p) end ts e
contain_fails p q end ts mid e n a b l = λ s C d. subst (λ x. Faults end x (go (next_relop s (read_does p) C) ts)) (sym l.1) (mid, does_here p q ts mid n s C d ∙ no_contain mid p q s C a b l.0, refl)

-- a sign from its first word on
comparison_here : (c : Comparison) (p : Place) (next : List Shaped) (s : Sum) (C : OverRelation) → depth_relation C ≤ 64 → go (end_sum s (left_side C)) (shaped_at (comparison_kind c) p ∷ next) ≡ go (begin_unary (over_sum (right_side s (compares p c) C))) next
comparison_here equals p next s C d = fits C d _ _
comparison_here differs p next s C d = fits C d _ _
comparison_here below p next s C d = fits C d _ _
comparison_here at_most p next s C d = fits C d _ _
comparison_here above p next s C d = fits C d _ _
comparison_here at_least p next s C d = fits C d _ _

pub comparison_read : (ts : List Shaped) (place : Place) (op : BinarySign) (left : List Shaped) → BeginsComparison ts place op left → RelopReads ts place op left
comparison_read ts place op left b = record { found = compares place b.0; place_is = refl; sign_is = b.2; shorter = omega (arith, ap length b.1); reads = λ s C d. ap (go (end_sum s (left_side C))) b.1 ∙ comparison_here b.0 place left s C d }

pub contains_read : (ts : List Shaped) (p : Place) (left : List Shaped) → Begins (reserved the.Contains) ts p left → RelopReads ts p operator.Contains left
contains_read ts p left e = record { found = contains p; place_is = refl; sign_is = refl; shorter = omega (arith, ap length e); reads = λ s C d. ap (go (end_sum s (left_side C))) e ∙ fits C d _ _ }

from_first : (x : Partial) (ts next : List Shaped) (place : Place) (op : BinarySign) (left : List Shaped) → length next < length ts → ((s : Sum) (C : OverRelation) → depth_relation C ≤ 64 → go (end_sum s (left_side C)) ts ≡ go (next_relop s x C) next) → PartialReads x next place op left → RelopReads ts place op left
from_first x ts next place op left n h r = record { found = r.found; place_is = r.place_is; sign_is = r.sign_is; shorter = omega (arith, r.no_longer); reads = λ s C d. h s C d ∙ r.reads s C d }

pub is_read : (ts : List Shaped) (p : Place) (next : List Shaped) (place : Place) (op : BinarySign) (left : List Shaped) → Begins (reserved the.Is) ts p next → PartialReads (read_is p) next place op left → RelopReads ts place op left
is_read ts p next place op left e r = from_first (read_is p) ts next place op left (omega (arith, ap length e)) (λ s C d. ap (go (end_sum s (left_side C))) e ∙ fits C d _ _) r

pub is_fails : (end : ℕ) (ts : List Shaped) (p : Place) (next : List Shaped) (e : ParseError) → Begins (reserved the.Is) ts p next → PartialFails (read_is p) end next e → RelopFails end ts e
is_fails end ts p next e i f = λ s C d. absent.along end e _ _ (ap (go (end_sum s (left_side C))) i ∙ fits C d _ _) (f s C d)

pub does_read : (ts : List Shaped) (p : Place) (next : List Shaped) (place : Place) (op : BinarySign) (left : List Shaped) → Begins (reserved the.Does) ts p next → PartialReads (read_does p) next place op left → RelopReads ts place op left
does_read ts p next place op left e r = from_first (read_does p) ts next place op left (omega (arith, ap length e)) (λ s C d. ap (go (end_sum s (left_side C))) e ∙ fits C d _ _) r

pub does_fails_first : (end : ℕ) (ts : List Shaped) (p : Place) (next : List Shaped) (e : ParseError) → Begins (reserved the.Does) ts p next → PartialFails (read_does p) end next e → RelopFails end ts e
does_fails_first end ts p next e i f = λ s C d. absent.along end e _ _ (ap (go (end_sum s (left_side C))) i ∙ fits C d _ _) (f s C d)

pub starts_read : (ts : List Shaped) (p : Place) (next : List Shaped) (place : Place) (op : BinarySign) (left : List Shaped) → Begins (reserved the.Starts) ts p next → EndsSign p aid.With next place left → op ≡ operator.StartsWith → RelopReads ts place op left
starts_read ts p next place op left e l i = from_first (read_starts p) ts next place op left (omega (arith, ap length e)) (λ s C d. ap (go (end_sum s (left_side C))) e ∙ fits C d _ _) (signed_so (read_starts p) next place operator.StartsWith op left i (last_read_starts next p place left l))

pub starts_fails : (end : ℕ) (ts : List Shaped) (p : Place) (next : List Shaped) (e : ParseError) → Begins (reserved the.Starts) ts p next → LacksLast aid.With end next e → RelopFails end ts e
starts_fails end ts p next e i l = λ s C d. absent.along end e _ _ (ap (go (end_sum s (left_side C))) i ∙ fits C d _ _) (fail_read_starts end next p e l s C d)

pub ends_read : (ts : List Shaped) (p : Place) (next : List Shaped) (place : Place) (op : BinarySign) (left : List Shaped) → Begins (reserved the.Ends) ts p next → EndsSign p aid.With next place left → op ≡ operator.EndsWith → RelopReads ts place op left
ends_read ts p next place op left e l i = from_first (read_ends p) ts next place op left (omega (arith, ap length e)) (λ s C d. ap (go (end_sum s (left_side C))) e ∙ fits C d _ _) (signed_so (read_ends p) next place operator.EndsWith op left i (last_read_ends next p place left l))

pub ends_fails : (end : ℕ) (ts : List Shaped) (p : Place) (next : List Shaped) (e : ParseError) → Begins (reserved the.Ends) ts p next → LacksLast aid.With end next e → RelopFails end ts e
ends_fails end ts p next e i l = λ s C d. absent.along end e _ _ (ap (go (end_sum s (left_side C))) i ∙ fits C d _ _) (fail_read_ends end next p e l s C d)
