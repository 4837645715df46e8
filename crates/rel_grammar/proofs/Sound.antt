-- What the machine has read is what its state holds, and some sentence begins with it.
use Rattle.std.proofs.Common.{◌≡◌, ℕ, pos, ◌+◌, List, [], ◌∷◌, ◌++◌, Option, Some, None, refl, sym, ◌∙◌, ap, subst, append_assoc}
use Rattle.rel_lexer.specs.declared.place.Place.{Place}
use Rattle.rel_lexer.specs.declared.sign.Sign.TheVariants as lex
use Rattle.rel_grammar.specs.declared.vocabulary.Reserved.TheVariants as the
use Rattle.rel_grammar.specs.declared.vocabulary.Helper.TheVariants as aid
use Rattle.rel_grammar.specs.Shapes.{Kind, sign, reserved, not_of_is, word, number, string, helper, Shaped}
use Rattle.rel_grammar.specs.Grammar.{Words, one_word, Relop, is_alone, is_not, is_contained_by, is_not_contained_by, starts_with, ends_with, does_not_contain, does_not_start_with, does_not_end_with, Collection, collection_one, collection_more, Tuple, tuple_one, tuple_more, Choice, if_then, no_if, Bar, bar_one, bar_more, Either, either_one, either_more, Both, both_one, both_more, Relation, no_relop, relates, Sum, sum_one, sum_more, Product, product_one, product_more, Unary, signed, no_sign, Cast, cast_one, cast_more, Reference, no_object, of_object, Term, no_filter, filtered, Primary, a_number, brackets, some_words, with_argument, argument_brackets}
use Rattle.rel_grammar.specs.Spelling.{Mark, mark, sum_kind, product_kind, unary_kind, words_marks, relop_marks, collection_marks, tuple_marks, choice_marks, bar_marks, either_marks, both_marks, relation_marks, sum_marks, product_marks, unary_marks, cast_marks, reference_marks, term_marks, primary_marks}
use Rattle.rel_grammar.specs.Sentences.{BeginsAt}
use Rattle.rel_grammar.specs.Machine.{OverCollection, whole, in_brackets, in_argument, in_filter, in_test, in_yes, OverTuple, collection_first, collection_next, OverChoice, tuple_first, tuple_next, in_no, OverBar, under_no_if, OverEither, bar_first, bar_next, OverBoth, either_first, either_next, OverRelation, both_first, both_next, OverSum, left_side, right_side, OverProduct, sum_first, sum_next, OverUnary, product_first, product_next, under_sign, OverReference, cast_first, object_of, Partial, read_is, read_is_not, read_contained, read_not_contained, read_starts, read_ends, read_does, read_does_not, read_start, read_end, State, want_choice, want_unary, want_reference, in_words, after_primary, want_filter, after_term, want_cast, in_cast, in_relop, Step, to, accepts, fails, depth_collection, depth_tuple, depth_choice, depth_bar, depth_either, depth_both, depth_relation, depth_sum, depth_product, depth_unary, depth_reference, over_sum, over_choice, end_collection, last_collection, next_collection, end_tuple, next_tuple, next_choice, end_bar, next_bar, end_either, next_either, end_both, next_both, next_relation, end_sum, next_sum, end_product, next_product, next_unary, next_cast, next_reference, next_term, next_primary, begin_primary, begin_unary, begin_choice, next_word, begin_filter, begin_cast, next_cast_word, next_relop, step}

-- what has been read
abbrev mutual
  pub before_collection : OverCollection → List Mark
  before_collection whole = []
  before_collection (in_brackets p C) = before_reference C ++ (mark (depth_reference C + 1) (sign lex.OpenBracket) p ∷ [])
  before_collection (in_argument ws p C) = before_reference C ++ (words_marks (depth_reference C) ws ++ (mark (depth_reference C + 1) (sign lex.OpenBracket) p ∷ []))
  before_collection (in_filter x w p C) = before_reference C ++ (primary_marks (depth_reference C) x ++ (mark (depth_reference C) (reserved the.Whose) w ∷ mark (depth_reference C + 1) (sign lex.OpenBracket) p ∷ []))
  before_collection (in_test p C) = before_choice C ++ (mark (depth_choice C + 1) (reserved the.If) p ∷ [])
  before_collection (in_yes p t o C) = before_choice C ++ (mark (depth_choice C + 1) (reserved the.If) p ∷ (collection_marks (depth_choice C + 1) t ++ (mark (depth_choice C + 1) (reserved the.Then) o ∷ [])))

  pub before_tuple : OverTuple → List Mark
  before_tuple (collection_first C) = before_collection C
  before_tuple (collection_next l p C) = before_collection C ++ (collection_marks (depth_collection C) l ++ (mark (depth_collection C) (sign lex.Semicolon) p ∷ []))

  pub before_choice : OverChoice → List Mark
  before_choice (tuple_first C) = before_tuple C
  before_choice (tuple_next l p C) = before_tuple C ++ (tuple_marks (depth_tuple C) l ++ (mark (depth_tuple C) (sign lex.Comma) p ∷ []))
  before_choice (in_no p t o y e C) = before_choice C ++ (mark (depth_choice C + 1) (reserved the.If) p ∷ (collection_marks (depth_choice C + 1) t ++ (mark (depth_choice C + 1) (reserved the.Then) o ∷ (collection_marks (depth_choice C + 1) y ++ (mark (depth_choice C + 1) (reserved the.Else) e ∷ [])))))

  pub before_bar : OverBar → List Mark
  before_bar (under_no_if C) = before_choice C

  pub before_either : OverEither → List Mark
  before_either (bar_first C) = before_bar C
  before_either (bar_next l p C) = before_bar C ++ (bar_marks (depth_bar C) l ++ (mark (depth_bar C) (sign lex.Bar) p ∷ []))

  pub before_both : OverBoth → List Mark
  before_both (either_first C) = before_either C
  before_both (either_next l p C) = before_either C ++ (either_marks (depth_either C) l ++ (mark (depth_either C) (reserved the.Or) p ∷ []))

  pub before_relation : OverRelation → List Mark
  before_relation (both_first C) = before_both C
  before_relation (both_next l p C) = before_both C ++ (both_marks (depth_both C) l ++ (mark (depth_both C) (reserved the.And) p ∷ []))

  pub before_sum : OverSum → List Mark
  before_sum (left_side C) = before_relation C
  before_sum (right_side s r C) = before_relation C ++ (sum_marks (depth_relation C) s ++ relop_marks (depth_relation C) r)

  pub before_product : OverProduct → List Mark
  before_product (sum_first C) = before_sum C
  before_product (sum_next l p s C) = before_sum C ++ (sum_marks (depth_sum C) l ++ (mark (depth_sum C) (sum_kind s) p ∷ []))

  pub before_unary : OverUnary → List Mark
  before_unary (product_first C) = before_product C
  before_unary (product_next l p s C) = before_product C ++ (product_marks (depth_product C) l ++ (mark (depth_product C) (product_kind s) p ∷ []))
  before_unary (under_sign p s C) = before_unary C ++ (mark (depth_unary C + 1) (unary_kind s) p ∷ [])

  pub before_reference : OverReference → List Mark
  before_reference (cast_first C) = before_unary C
  before_reference (object_of x p C) = before_reference C ++ (term_marks (depth_reference C) x ++ (mark (depth_reference C) (reserved the.Of) p ∷ []))

abbrev pub partial_marks : ℕ → Partial → List Mark
partial_marks d (read_is p) = mark d (reserved the.Is) p ∷ []
partial_marks d (read_is_not p q) = mark d (reserved the.Is) p ∷ mark d not_of_is q ∷ []
partial_marks d (read_contained p q) = mark d (reserved the.Is) p ∷ mark d (reserved the.Contained) q ∷ []
partial_marks d (read_not_contained p q r) = mark d (reserved the.Is) p ∷ mark d not_of_is q ∷ mark d (reserved the.Contained) r ∷ []
partial_marks d (read_starts p) = mark d (reserved the.Starts) p ∷ []
partial_marks d (read_ends p) = mark d (reserved the.Ends) p ∷ []
partial_marks d (read_does p) = mark d (reserved the.Does) p ∷ []
partial_marks d (read_does_not p q) = mark d (reserved the.Does) p ∷ mark d (reserved the.Not) q ∷ []
partial_marks d (read_start p q r) = mark d (reserved the.Does) p ∷ mark d (reserved the.Not) q ∷ mark d (word (helper aid.Start)) r ∷ []
partial_marks d (read_end p q r) = mark d (reserved the.Does) p ∷ mark d (reserved the.Not) q ∷ mark d (word (helper aid.End)) r ∷ []

abbrev pub marks : State → List Mark
marks (want_choice C) = before_choice C
marks (want_unary C) = before_unary C
marks (want_reference C) = before_reference C
marks (in_words ws C) = before_reference C ++ words_marks (depth_reference C) ws
marks (after_primary x C) = before_reference C ++ primary_marks (depth_reference C) x
marks (want_filter x w C) = before_reference C ++ (primary_marks (depth_reference C) x ++ (mark (depth_reference C) (reserved the.Whose) w ∷ []))
marks (after_term x C) = before_reference C ++ term_marks (depth_reference C) x
marks (want_cast l p C) = before_unary C ++ (cast_marks (depth_unary C) l ++ (mark (depth_unary C) (reserved the.As) p ∷ []))
marks (in_cast l p ws C) = before_unary C ++ (cast_marks (depth_unary C) l ++ (mark (depth_unary C) (reserved the.As) p ∷ words_marks (depth_unary C) ws))
marks (in_relop s x C) = before_relation C ++ (sum_marks (depth_relation C) s ++ partial_marks (depth_relation C) x)

-- A step adds the token that it reads, and the end adds nothing.
abbrev pub IsSound : List Mark → Option Shaped → Step → Type 0
IsSound m (Some t) (to d s) = marks s ≡ m ++ (record { token = t; depth = d } ∷ [])
IsSound m (Some t) (accepts q) = ⊥
IsSound m None (to d s) = ⊥
IsSound m None (accepts q) = collection_marks 0 q ≡ m
IsSound m x fails = Unit {0}

abbrev tok : Kind → Place → Shaped
tok kind place = record { kind = kind; place = place }

along : (m m' : List Mark) (x : Option Shaped) (r : Step) → m ≡ m' → IsSound m x r → IsSound m' x r
along m m' x r e h = subst (λ l. IsSound l x r) e h

end_collection_sound : (k : Kind) (p : Place) (q : Collection) (C : OverCollection) → IsSound (before_collection C ++ collection_marks (depth_collection C) q) (Some (tok k p)) (end_collection q C p k)
end_collection_sound (sign lex.CloseBracket) p q (in_brackets o C) = simp append_assoc
end_collection_sound (sign lex.CloseBracket) p q (in_argument ws o C) = simp append_assoc
end_collection_sound (sign lex.CloseBracket) p q (in_filter x w o C) = simp append_assoc
end_collection_sound (reserved the.Then) p q (in_test o C) = simp append_assoc
end_collection_sound (reserved the.Else) p q (in_yes i t o C) = simp append_assoc
end_collection_sound _ p q whole = tt
end_collection_sound _ p q (in_brackets o C) = tt
end_collection_sound _ p q (in_argument ws o C) = tt
end_collection_sound _ p q (in_filter x w o C) = tt
end_collection_sound _ p q (in_test o C) = tt
end_collection_sound _ p q (in_yes i t o C) = tt

last_collection_sound : (q : Collection) (C : OverCollection) → IsSound (before_collection C ++ collection_marks (depth_collection C) q) None (last_collection q C)
last_collection_sound q whole = refl
last_collection_sound q _ = tt

collection_sound_at : (k : Kind) (p : Place) (q : Collection) (C : OverCollection) → IsSound (before_collection C ++ collection_marks (depth_collection C) q) (Some (tok k p)) (next_collection q C (Some (tok k p)))
collection_sound_at (sign lex.Semicolon) p q C = simp append_assoc
collection_sound_at k p q C = end_collection_sound k p q C

collection_sound : (q : Collection) (C : OverCollection) (x : Option Shaped) → IsSound (before_collection C ++ collection_marks (depth_collection C) q) x (next_collection q C x)
collection_sound q C None = last_collection_sound q C
collection_sound q C (Some t) = collection_sound_at t.kind t.place q C

end_tuple_sound : (l : Tuple) (C : OverTuple) (x : Option Shaped) → IsSound (before_tuple C ++ tuple_marks (depth_tuple C) l) x (end_tuple l C x)
end_tuple_sound l (collection_first C) x = collection_sound (collection_one l) C x
end_tuple_sound l (collection_next q p C) x = along _ _ x (next_collection (collection_more q p l) C x) (simp append_assoc) (collection_sound (collection_more q p l) C x)

tuple_sound_at : (k : Kind) (p : Place) (l : Tuple) (C : OverTuple) → IsSound (before_tuple C ++ tuple_marks (depth_tuple C) l) (Some (tok k p)) (next_tuple l C (Some (tok k p)))
tuple_sound_at (sign lex.Comma) p l C = simp append_assoc
tuple_sound_at k p l C = end_tuple_sound l C (Some (tok k p))

tuple_sound : (l : Tuple) (C : OverTuple) (x : Option Shaped) → IsSound (before_tuple C ++ tuple_marks (depth_tuple C) l) x (next_tuple l C x)
tuple_sound l C None = end_tuple_sound l C None
tuple_sound l C (Some t) = tuple_sound_at t.kind t.place l C

choice_sound : (c : Choice) (C : OverChoice) (x : Option Shaped) → IsSound (before_choice C ++ choice_marks (depth_choice C) c) x (next_choice c C x)
choice_sound c (tuple_first C) x = tuple_sound (tuple_one c) C x
choice_sound c (tuple_next l p C) x = along _ _ x (next_tuple (tuple_more l p c) C x) (simp append_assoc) (tuple_sound (tuple_more l p c) C x)
choice_sound c (in_no p t o y e C) x = along _ _ x (next_choice (if_then p t o y e c) C x) (simp append_assoc) (choice_sound (if_then p t o y e c) C x)

end_bar_sound : (l : Bar) (C : OverBar) (x : Option Shaped) → IsSound (before_bar C ++ bar_marks (depth_bar C) l) x (end_bar l C x)
end_bar_sound l (under_no_if C) x = choice_sound (no_if l) C x

bar_sound_at : (k : Kind) (p : Place) (l : Bar) (C : OverBar) → IsSound (before_bar C ++ bar_marks (depth_bar C) l) (Some (tok k p)) (next_bar l C (Some (tok k p)))
bar_sound_at (sign lex.Bar) p l C = simp append_assoc
bar_sound_at k p l C = end_bar_sound l C (Some (tok k p))

bar_sound : (l : Bar) (C : OverBar) (x : Option Shaped) → IsSound (before_bar C ++ bar_marks (depth_bar C) l) x (next_bar l C x)
bar_sound l C None = end_bar_sound l C None
bar_sound l C (Some t) = bar_sound_at t.kind t.place l C

end_either_sound : (x : Either) (C : OverEither) (t : Option Shaped) → IsSound (before_either C ++ either_marks (depth_either C) x) t (end_either x C t)
end_either_sound x (bar_first C) t = bar_sound (bar_one x) C t
end_either_sound x (bar_next l p C) t = along _ _ t (next_bar (bar_more l p x) C t) (simp append_assoc) (bar_sound (bar_more l p x) C t)

either_sound_at : (k : Kind) (p : Place) (l : Either) (C : OverEither) → IsSound (before_either C ++ either_marks (depth_either C) l) (Some (tok k p)) (next_either l C (Some (tok k p)))
either_sound_at (reserved the.Or) p l C = simp append_assoc
either_sound_at k p l C = end_either_sound l C (Some (tok k p))

either_sound : (l : Either) (C : OverEither) (x : Option Shaped) → IsSound (before_either C ++ either_marks (depth_either C) l) x (next_either l C x)
either_sound l C None = end_either_sound l C None
either_sound l C (Some t) = either_sound_at t.kind t.place l C

end_both_sound : (x : Both) (C : OverBoth) (t : Option Shaped) → IsSound (before_both C ++ both_marks (depth_both C) x) t (end_both x C t)
end_both_sound x (either_first C) t = either_sound (either_one x) C t
end_both_sound x (either_next l p C) t = along _ _ t (next_either (either_more l p x) C t) (simp append_assoc) (either_sound (either_more l p x) C t)

both_sound_at : (k : Kind) (p : Place) (l : Both) (C : OverBoth) → IsSound (before_both C ++ both_marks (depth_both C) l) (Some (tok k p)) (next_both l C (Some (tok k p)))
both_sound_at (reserved the.And) p l C = simp append_assoc
both_sound_at k p l C = end_both_sound l C (Some (tok k p))

both_sound : (l : Both) (C : OverBoth) (x : Option Shaped) → IsSound (before_both C ++ both_marks (depth_both C) l) x (next_both l C x)
both_sound l C None = end_both_sound l C None
both_sound l C (Some t) = both_sound_at t.kind t.place l C

relation_sound : (x : Relation) (C : OverRelation) (t : Option Shaped) → IsSound (before_relation C ++ relation_marks (depth_relation C) x) t (next_relation x C t)
relation_sound x (both_first C) t = both_sound (both_one x) C t
relation_sound x (both_next l p C) t = along _ _ t (next_both (both_more l p x) C t) (simp append_assoc) (both_sound (both_more l p x) C t)

left_sound_at : (k : Kind) (p : Place) (s : Sum) (C : OverRelation) → IsSound (before_relation C ++ sum_marks (depth_relation C) s) (Some (tok k p)) (end_sum s (left_side C) (Some (tok k p)))
left_sound_at (sign lex.Equal) p s C = simp append_assoc
left_sound_at (sign lex.NotEqual) p s C = simp append_assoc
left_sound_at (sign lex.Less) p s C = simp append_assoc
left_sound_at (sign lex.LessOrEqual) p s C = simp append_assoc
left_sound_at (sign lex.Greater) p s C = simp append_assoc
left_sound_at (sign lex.GreaterOrEqual) p s C = simp append_assoc
left_sound_at (reserved the.Is) p s C = simp append_assoc
left_sound_at (reserved the.Contains) p s C = simp append_assoc
left_sound_at (reserved the.Starts) p s C = simp append_assoc
left_sound_at (reserved the.Ends) p s C = simp append_assoc
left_sound_at (reserved the.Does) p s C = simp append_assoc
left_sound_at k p s C = relation_sound (no_relop s) C (Some (tok k p))

end_sum_sound : (s : Sum) (C : OverSum) (x : Option Shaped) → IsSound (before_sum C ++ sum_marks (depth_sum C) s) x (end_sum s C x)
end_sum_sound s (right_side l r C) x = along _ _ x (next_relation (relates l r s) C x) (simp append_assoc) (relation_sound (relates l r s) C x)
end_sum_sound s (left_side C) None = relation_sound (no_relop s) C None
end_sum_sound s (left_side C) (Some t) = left_sound_at t.kind t.place s C

sum_sound_at : (k : Kind) (p : Place) (l : Sum) (C : OverSum) → IsSound (before_sum C ++ sum_marks (depth_sum C) l) (Some (tok k p)) (next_sum l C (Some (tok k p)))
sum_sound_at (sign lex.Plus) p l C = simp append_assoc
sum_sound_at (sign lex.Minus) p l C = simp append_assoc
sum_sound_at (sign lex.Ampersand) p l C = simp append_assoc
sum_sound_at k p l C = end_sum_sound l C (Some (tok k p))

sum_sound : (l : Sum) (C : OverSum) (x : Option Shaped) → IsSound (before_sum C ++ sum_marks (depth_sum C) l) x (next_sum l C x)
sum_sound l C None = end_sum_sound l C None
sum_sound l C (Some t) = sum_sound_at t.kind t.place l C

end_product_sound : (x : Product) (C : OverProduct) (t : Option Shaped) → IsSound (before_product C ++ product_marks (depth_product C) x) t (end_product x C t)
end_product_sound x (sum_first C) t = sum_sound (sum_one x) C t
end_product_sound x (sum_next l p s C) t = along _ _ t (next_sum (sum_more l p s x) C t) (simp append_assoc) (sum_sound (sum_more l p s x) C t)

product_sound_at : (k : Kind) (p : Place) (l : Product) (C : OverProduct) → IsSound (before_product C ++ product_marks (depth_product C) l) (Some (tok k p)) (next_product l C (Some (tok k p)))
product_sound_at (sign lex.Times) p l C = simp append_assoc
product_sound_at (sign lex.Slash) p l C = simp append_assoc
product_sound_at (reserved the.Mod) p l C = simp append_assoc
product_sound_at k p l C = end_product_sound l C (Some (tok k p))

product_sound : (l : Product) (C : OverProduct) (x : Option Shaped) → IsSound (before_product C ++ product_marks (depth_product C) l) x (next_product l C x)
product_sound l C None = end_product_sound l C None
product_sound l C (Some t) = product_sound_at t.kind t.place l C

unary_sound : (x : Unary) (C : OverUnary) (t : Option Shaped) → IsSound (before_unary C ++ unary_marks (depth_unary C) x) t (next_unary x C t)
unary_sound x (product_first C) t = product_sound (product_one x) C t
unary_sound x (product_next l p s C) t = along _ _ t (next_product (product_more l p s x) C t) (simp append_assoc) (product_sound (product_more l p s x) C t)
unary_sound x (under_sign p s C) t = along _ _ t (next_unary (signed p s x) C t) (simp append_assoc) (unary_sound (signed p s x) C t)

cast_sound_at : (k : Kind) (p : Place) (l : Cast) (C : OverUnary) → IsSound (before_unary C ++ cast_marks (depth_unary C) l) (Some (tok k p)) (next_cast l C (Some (tok k p)))
cast_sound_at (reserved the.As) p l C = simp append_assoc
cast_sound_at k p l C = unary_sound (no_sign l) C (Some (tok k p))

cast_sound : (l : Cast) (C : OverUnary) (x : Option Shaped) → IsSound (before_unary C ++ cast_marks (depth_unary C) l) x (next_cast l C x)
cast_sound l C None = unary_sound (no_sign l) C None
cast_sound l C (Some t) = cast_sound_at t.kind t.place l C

reference_sound : (r : Reference) (C : OverReference) (x : Option Shaped) → IsSound (before_reference C ++ reference_marks (depth_reference C) r) x (next_reference r C x)
reference_sound r (cast_first C) x = cast_sound (cast_one r) C x
reference_sound r (object_of h p C) x = along _ _ x (next_reference (of_object h p r) C x) (simp append_assoc) (reference_sound (of_object h p r) C x)

term_sound_at : (k : Kind) (p : Place) (h : Term) (C : OverReference) → IsSound (before_reference C ++ term_marks (depth_reference C) h) (Some (tok k p)) (next_term h C (Some (tok k p)))
term_sound_at (reserved the.Of) p h C = simp append_assoc
term_sound_at k p h C = reference_sound (no_object h) C (Some (tok k p))

term_sound : (h : Term) (C : OverReference) (x : Option Shaped) → IsSound (before_reference C ++ term_marks (depth_reference C) h) x (next_term h C x)
term_sound h C None = reference_sound (no_object h) C None
term_sound h C (Some t) = term_sound_at t.kind t.place h C

primary_sound_at : (k : Kind) (p : Place) (h : Primary) (C : OverReference) → IsSound (before_reference C ++ primary_marks (depth_reference C) h) (Some (tok k p)) (next_primary h C (Some (tok k p)))
primary_sound_at (reserved the.Whose) p h C = simp append_assoc
primary_sound_at k p h C = term_sound (no_filter h) C (Some (tok k p))

primary_sound : (h : Primary) (C : OverReference) (x : Option Shaped) → IsSound (before_reference C ++ primary_marks (depth_reference C) h) x (next_primary h C x)
primary_sound h C None = term_sound (no_filter h) C None
primary_sound h C (Some t) = primary_sound_at t.kind t.place h C

begin_sound_at : (k : Kind) (p : Place) (C : OverReference) → IsSound (before_reference C) (Some (tok k p)) (begin_primary C (Some (tok k p)))
begin_sound_at (number n) p C = refl
begin_sound_at (string n) p C = refl
begin_sound_at (reserved the.It) p C = refl
begin_sound_at (word w) p C = refl
begin_sound_at (sign lex.OpenBracket) p C = refl
begin_sound_at _ p C = tt

begin_sound : (C : OverReference) (x : Option Shaped) → IsSound (before_reference C) x (begin_primary C x)
begin_sound C None = tt
begin_sound C (Some t) = begin_sound_at t.kind t.place C

begin_unary_sound_at : (k : Kind) (p : Place) (C : OverUnary) → IsSound (before_unary C) (Some (tok k p)) (begin_unary C (Some (tok k p)))
begin_unary_sound_at (reserved the.Not) p C = refl
begin_unary_sound_at (reserved the.Exists) p C = refl
begin_unary_sound_at (reserved the.Exist) p C = refl
begin_unary_sound_at (sign lex.Minus) p C = refl
begin_unary_sound_at k p C = begin_sound (cast_first C) (Some (tok k p))

begin_unary_sound : (C : OverUnary) (x : Option Shaped) → IsSound (before_unary C) x (begin_unary C x)
begin_unary_sound C None = tt
begin_unary_sound C (Some t) = begin_unary_sound_at t.kind t.place C

begin_choice_sound_at : (k : Kind) (p : Place) (C : OverChoice) → IsSound (before_choice C) (Some (tok k p)) (begin_choice C (Some (tok k p)))
begin_choice_sound_at (reserved the.If) p C = refl
begin_choice_sound_at k p C = begin_unary_sound (over_choice C) (Some (tok k p))

begin_choice_sound : (C : OverChoice) (x : Option Shaped) → IsSound (before_choice C) x (begin_choice C x)
begin_choice_sound C None = tt
begin_choice_sound C (Some t) = begin_choice_sound_at t.kind t.place C

word_sound_at : (k : Kind) (p : Place) (ws : Words) (C : OverReference) → IsSound (before_reference C ++ words_marks (depth_reference C) ws) (Some (tok k p)) (next_word ws C (Some (tok k p)))
word_sound_at (word w) p ws C = simp append_assoc
word_sound_at (number n) p ws C = simp append_assoc
word_sound_at (string n) p ws C = simp append_assoc
word_sound_at (sign lex.OpenBracket) p ws C = simp append_assoc
word_sound_at k p ws C = primary_sound (some_words ws) C (Some (tok k p))

word_sound : (ws : Words) (C : OverReference) (x : Option Shaped) → IsSound (before_reference C ++ words_marks (depth_reference C) ws) x (next_word ws C x)
word_sound ws C None = primary_sound (some_words ws) C None
word_sound ws C (Some t) = word_sound_at t.kind t.place ws C

filter_sound_at : (k : Kind) (p : Place) (x : Primary) (w : Place) (C : OverReference) → IsSound (marks (want_filter x w C)) (Some (tok k p)) (begin_filter x w C (Some (tok k p)))
filter_sound_at (sign lex.OpenBracket) p x w C = simp append_assoc
filter_sound_at _ p x w C = tt

filter_sound : (x : Primary) (w : Place) (C : OverReference) (t : Option Shaped) → IsSound (marks (want_filter x w C)) t (begin_filter x w C t)
filter_sound x w C None = tt
filter_sound x w C (Some t) = filter_sound_at t.kind t.place x w C

begin_cast_sound_at : (k : Kind) (q : Place) (l : Cast) (p : Place) (C : OverUnary) → IsSound (marks (want_cast l p C)) (Some (tok k q)) (begin_cast l p C (Some (tok k q)))
begin_cast_sound_at (word w) q l p C = simp append_assoc
begin_cast_sound_at _ q l p C = tt

begin_cast_sound : (l : Cast) (p : Place) (C : OverUnary) (t : Option Shaped) → IsSound (marks (want_cast l p C)) t (begin_cast l p C t)
begin_cast_sound l p C None = tt
begin_cast_sound l p C (Some t) = begin_cast_sound_at t.kind t.place l p C

cast_word_sound_at : (k : Kind) (q : Place) (l : Cast) (p : Place) (ws : Words) (C : OverUnary) → IsSound (marks (in_cast l p ws C)) (Some (tok k q)) (next_cast_word l p ws C (Some (tok k q)))
cast_word_sound_at (word w) q l p ws C = simp append_assoc
cast_word_sound_at k q l p ws C = cast_sound (cast_more l p ws) C (Some (tok k q))

cast_word_sound : (l : Cast) (p : Place) (ws : Words) (C : OverUnary) (t : Option Shaped) → IsSound (marks (in_cast l p ws C)) t (next_cast_word l p ws C t)
cast_word_sound l p ws C None = cast_sound (cast_more l p ws) C None
cast_word_sound l p ws C (Some t) = cast_word_sound_at t.kind t.place l p ws C

relop_sound_at : (k : Kind) (q : Place) (s : Sum) (x : Partial) (C : OverRelation) → IsSound (marks (in_relop s x C)) (Some (tok k q)) (next_relop s x C (Some (tok k q)))
relop_sound_at not_of_is q s (read_is p) C = simp append_assoc
relop_sound_at (reserved the.Contained) q s (read_is p) C = simp append_assoc
relop_sound_at k q s (read_is p) C = begin_unary_sound (over_sum (right_side s (is_alone p) C)) (Some (tok k q))
relop_sound_at (reserved the.Contained) q s (read_is_not p o) C = simp append_assoc
relop_sound_at k q s (read_is_not p o) C = begin_unary_sound (over_sum (right_side s (is_not p o) C)) (Some (tok k q))
relop_sound_at (word (helper aid.By)) q s (read_contained p o) C = simp append_assoc
relop_sound_at _ q s (read_contained p o) C = tt
relop_sound_at (word (helper aid.By)) q s (read_not_contained p o r) C = simp append_assoc
relop_sound_at _ q s (read_not_contained p o r) C = tt
relop_sound_at (word (helper aid.With)) q s (read_starts p) C = simp append_assoc
relop_sound_at _ q s (read_starts p) C = tt
relop_sound_at (word (helper aid.With)) q s (read_ends p) C = simp append_assoc
relop_sound_at _ q s (read_ends p) C = tt
relop_sound_at (reserved the.Not) q s (read_does p) C = simp append_assoc
relop_sound_at _ q s (read_does p) C = tt
relop_sound_at (word (helper aid.Contain)) q s (read_does_not p o) C = simp append_assoc
relop_sound_at (word (helper aid.Start)) q s (read_does_not p o) C = simp append_assoc
relop_sound_at (word (helper aid.End)) q s (read_does_not p o) C = simp append_assoc
relop_sound_at _ q s (read_does_not p o) C = tt
relop_sound_at (word (helper aid.With)) q s (read_start p o r) C = simp append_assoc
relop_sound_at _ q s (read_start p o r) C = tt
relop_sound_at (word (helper aid.With)) q s (read_end p o r) C = simp append_assoc
relop_sound_at _ q s (read_end p o r) C = tt

relop_sound : (s : Sum) (x : Partial) (C : OverRelation) (t : Option Shaped) → IsSound (marks (in_relop s x C)) t (next_relop s x C t)
relop_sound s x C None = tt
relop_sound s x C (Some t) = relop_sound_at t.kind t.place s x C

pub step_sound : (s : State) (x : Option Shaped) → IsSound (marks s) x (step s x)
step_sound (want_choice C) x = begin_choice_sound C x
step_sound (want_unary C) x = begin_unary_sound C x
step_sound (want_reference C) x = begin_sound C x
step_sound (in_words ws C) x = word_sound ws C x
step_sound (after_primary h C) x = primary_sound h C x
step_sound (want_filter h w C) x = filter_sound h w C x
step_sound (after_term h C) x = term_sound h C x
step_sound (want_cast l p C) x = begin_cast_sound l p C x
step_sound (in_cast l p ws C) x = cast_word_sound l p ws C x
step_sound (in_relop s r C) x = relop_sound s r C x

-- Some sentence begins with what was read.
shorter : (m more : List Mark) → BeginsAt (m ++ more) → BeginsAt m
shorter m more c = (c.0, more ++ c.1, c.2 ∙ append_assoc m more c.1)

append-nil : (ms : List Mark) → ms ++ [] ≡ ms
append-nil [] = refl
append-nil (t ∷ ts) = ap (λ l. t ∷ l) (append-nil ts)

abbrev nowhere : Place
nowhere = record { from = 0; to = 0 }

-- the shortest parts
abbrev some_reference : Reference
some_reference = no_object (no_filter (a_number nowhere (pos 0)))

abbrev some_unary : Unary
some_unary = no_sign (cast_one some_reference)

abbrev some_choice : Choice
some_choice = no_if (bar_one (either_one (both_one (no_relop (sum_one (product_one some_unary))))))

abbrev some_collection : Collection
some_collection = collection_one (tuple_one some_choice)

mutual
  begins_collection : (q : Collection) (C : OverCollection) → BeginsAt (before_collection C ++ collection_marks (depth_collection C) q)
  begins_collection q whole = (q, [], sym (append-nil (collection_marks 0 q)))
  begins_collection q (in_brackets p C) = shorter _ (mark (depth_reference C + 1) (sign lex.CloseBracket) nowhere ∷ []) (subst BeginsAt (simp append_assoc) (begins_reference (no_object (no_filter (brackets p q nowhere))) C))
  begins_collection q (in_argument ws p C) = shorter _ (mark (depth_reference C + 1) (sign lex.CloseBracket) nowhere ∷ []) (subst BeginsAt (simp append_assoc) (begins_reference (no_object (no_filter (with_argument ws (argument_brackets p q nowhere)))) C))
  begins_collection q (in_filter x w p C) = shorter _ (mark (depth_reference C + 1) (sign lex.CloseBracket) nowhere ∷ []) (subst BeginsAt (simp append_assoc) (begins_reference (no_object (filtered x w p q nowhere)) C))
  begins_collection q (in_test p C) = shorter _ (mark (depth_choice C + 1) (reserved the.Then) nowhere ∷ (collection_marks (depth_choice C + 1) some_collection ++ (mark (depth_choice C + 1) (reserved the.Else) nowhere ∷ choice_marks (depth_choice C + 1) some_choice))) (subst BeginsAt (simp append_assoc) (begins_choice (if_then p q nowhere some_collection nowhere some_choice) C))
  begins_collection q (in_yes p t o C) = shorter _ (mark (depth_choice C + 1) (reserved the.Else) nowhere ∷ choice_marks (depth_choice C + 1) some_choice) (subst BeginsAt (simp append_assoc) (begins_choice (if_then p t o q nowhere some_choice) C))

  begins_tuple : (x : Tuple) (C : OverTuple) → BeginsAt (before_tuple C ++ tuple_marks (depth_tuple C) x)
  begins_tuple x (collection_first C) = begins_collection (collection_one x) C
  begins_tuple x (collection_next l p C) = subst BeginsAt (simp append_assoc) (begins_collection (collection_more l p x) C)

  begins_choice : (c : Choice) (C : OverChoice) → BeginsAt (before_choice C ++ choice_marks (depth_choice C) c)
  begins_choice c (tuple_first C) = begins_tuple (tuple_one c) C
  begins_choice c (tuple_next l p C) = subst BeginsAt (simp append_assoc) (begins_tuple (tuple_more l p c) C)
  begins_choice c (in_no p t o y e C) = subst BeginsAt (simp append_assoc) (begins_choice (if_then p t o y e c) C)

  begins_bar : (l : Bar) (C : OverBar) → BeginsAt (before_bar C ++ bar_marks (depth_bar C) l)
  begins_bar l (under_no_if C) = begins_choice (no_if l) C

  begins_either : (x : Either) (C : OverEither) → BeginsAt (before_either C ++ either_marks (depth_either C) x)
  begins_either x (bar_first C) = begins_bar (bar_one x) C
  begins_either x (bar_next l p C) = subst BeginsAt (simp append_assoc) (begins_bar (bar_more l p x) C)

  begins_both : (x : Both) (C : OverBoth) → BeginsAt (before_both C ++ both_marks (depth_both C) x)
  begins_both x (either_first C) = begins_either (either_one x) C
  begins_both x (either_next l p C) = subst BeginsAt (simp append_assoc) (begins_either (either_more l p x) C)

  begins_relation : (x : Relation) (C : OverRelation) → BeginsAt (before_relation C ++ relation_marks (depth_relation C) x)
  begins_relation x (both_first C) = begins_both (both_one x) C
  begins_relation x (both_next l p C) = subst BeginsAt (simp append_assoc) (begins_both (both_more l p x) C)

  begins_sum : (s : Sum) (C : OverSum) → BeginsAt (before_sum C ++ sum_marks (depth_sum C) s)
  begins_sum s (left_side C) = begins_relation (no_relop s) C
  begins_sum s (right_side l r C) = subst BeginsAt (simp append_assoc) (begins_relation (relates l r s) C)

  begins_product : (x : Product) (C : OverProduct) → BeginsAt (before_product C ++ product_marks (depth_product C) x)
  begins_product x (sum_first C) = begins_sum (sum_one x) C
  begins_product x (sum_next l p s C) = subst BeginsAt (simp append_assoc) (begins_sum (sum_more l p s x) C)

  begins_unary : (x : Unary) (C : OverUnary) → BeginsAt (before_unary C ++ unary_marks (depth_unary C) x)
  begins_unary x (product_first C) = begins_product (product_one x) C
  begins_unary x (product_next l p s C) = subst BeginsAt (simp append_assoc) (begins_product (product_more l p s x) C)
  begins_unary x (under_sign p s C) = subst BeginsAt (simp append_assoc) (begins_unary (signed p s x) C)

  begins_reference : (r : Reference) (C : OverReference) → BeginsAt (before_reference C ++ reference_marks (depth_reference C) r)
  begins_reference r (cast_first C) = begins_unary (no_sign (cast_one r)) C
  begins_reference r (object_of h p C) = subst BeginsAt (simp append_assoc) (begins_reference (of_object h p r) C)

begins_right : (s : Sum) (r : Relop) (C : OverRelation) → BeginsAt (before_relation C ++ (sum_marks (depth_relation C) s ++ relop_marks (depth_relation C) r))
begins_right s r C = shorter _ _ (begins_unary some_unary (over_sum (right_side s r C)))

begins_relop : (s : Sum) (x : Partial) (C : OverRelation) → BeginsAt (marks (in_relop s x C))
begins_relop s (read_is p) C = begins_right s (is_alone p) C
begins_relop s (read_is_not p q) C = begins_right s (is_not p q) C
begins_relop s (read_contained p q) C = shorter _ (mark (depth_relation C) (word (helper aid.By)) nowhere ∷ []) (subst BeginsAt (simp append_assoc) (begins_right s (is_contained_by p q nowhere) C))
begins_relop s (read_not_contained p q r) C = shorter _ (mark (depth_relation C) (word (helper aid.By)) nowhere ∷ []) (subst BeginsAt (simp append_assoc) (begins_right s (is_not_contained_by p q r nowhere) C))
begins_relop s (read_starts p) C = shorter _ (mark (depth_relation C) (word (helper aid.With)) nowhere ∷ []) (subst BeginsAt (simp append_assoc) (begins_right s (starts_with p nowhere) C))
begins_relop s (read_ends p) C = shorter _ (mark (depth_relation C) (word (helper aid.With)) nowhere ∷ []) (subst BeginsAt (simp append_assoc) (begins_right s (ends_with p nowhere) C))
begins_relop s (read_does p) C = shorter _ (mark (depth_relation C) (reserved the.Not) nowhere ∷ mark (depth_relation C) (word (helper aid.Contain)) nowhere ∷ []) (subst BeginsAt (simp append_assoc) (begins_right s (does_not_contain p nowhere nowhere) C))
begins_relop s (read_does_not p q) C = shorter _ (mark (depth_relation C) (word (helper aid.Contain)) nowhere ∷ []) (subst BeginsAt (simp append_assoc) (begins_right s (does_not_contain p q nowhere) C))
begins_relop s (read_start p q r) C = shorter _ (mark (depth_relation C) (word (helper aid.With)) nowhere ∷ []) (subst BeginsAt (simp append_assoc) (begins_right s (does_not_start_with p q r nowhere) C))
begins_relop s (read_end p q r) C = shorter _ (mark (depth_relation C) (word (helper aid.With)) nowhere ∷ []) (subst BeginsAt (simp append_assoc) (begins_right s (does_not_end_with p q r nowhere) C))

some_words_cast : (l : Cast) (p : Place) (C : OverUnary) → BeginsAt (before_unary C ++ (cast_marks (depth_unary C) l ++ (mark (depth_unary C) (reserved the.As) p ∷ [])))
some_words_cast l p C = shorter _ (mark (depth_unary C) (word (helper aid.By)) nowhere ∷ []) (subst BeginsAt (simp append_assoc) (begins_unary (no_sign (cast_more l p (one_word nowhere (helper aid.By)))) C))

some_filter : (x : Primary) (w : Place) (C : OverReference) → BeginsAt (marks (want_filter x w C))
some_filter x w C = shorter _ (mark (depth_reference C + 1) (sign lex.OpenBracket) nowhere ∷ (collection_marks (depth_reference C + 1) some_collection ++ (mark (depth_reference C + 1) (sign lex.CloseBracket) nowhere ∷ []))) (subst BeginsAt (simp append_assoc) (begins_reference (no_object (filtered x w nowhere some_collection nowhere)) C))

pub can_end : (s : State) → BeginsAt (marks s)
can_end (want_choice C) = shorter (before_choice C) _ (begins_choice some_choice C)
can_end (want_unary C) = shorter (before_unary C) _ (begins_unary some_unary C)
can_end (want_reference C) = shorter (before_reference C) _ (begins_reference some_reference C)
can_end (in_words ws C) = begins_reference (no_object (no_filter (some_words ws))) C
can_end (after_primary h C) = begins_reference (no_object (no_filter h)) C
can_end (want_filter h w C) = some_filter h w C
can_end (after_term h C) = begins_reference (no_object h) C
can_end (want_cast l p C) = some_words_cast l p C
can_end (in_cast l p ws C) = begins_unary (no_sign (cast_more l p ws)) C
can_end (in_relop s x C) = begins_relop s x C
