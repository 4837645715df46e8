-- What each function of the parser does, in terms of the machine. Only private functions cite it.
use Rattle.std.specs.Prelude.{◌≡◌, ℕ, ℤ, ◌+◌, ◌≤◌, ◌<◌, List, [], ◌∷◌, ◌++◌, length, Option, Some, ⊤}
use Rattle.rel_lexer.specs.declared.place.Place.{Place}
use Rattle.rel_lexer.specs.declared.sign.Sign.TheVariants as lex
use Rattle.rel_lexer.specs.declared.token.TokenKind.{TokenKind}
use Rattle.rel_lexer.specs.declared.operator.UnarySign.{UnarySign}
use Rattle.rel_lexer.specs.declared.operator.BinarySign.{BinarySign}
use Rattle.rel_lexer.specs.declared.operator.BinarySign.TheVariants as operator
use Rattle.rel_grammar.specs.declared.vocabulary.Fixed.{Fixed}
use Rattle.rel_grammar.specs.declared.vocabulary.Fixed.TheVariants as fixed
use Rattle.rel_grammar.specs.declared.vocabulary.Reserved.{Reserved}
use Rattle.rel_grammar.specs.declared.vocabulary.Reserved.TheVariants as the
use Rattle.rel_grammar.specs.declared.vocabulary.Helper.{Helper}
use Rattle.rel_grammar.specs.declared.casts.CastTo.{CastTo}
use Rattle.rel_grammar.specs.declared.level.Level.{Level}
use Rattle.rel_grammar.specs.declared.level.Level.TheVariants as level
use Rattle.rel_grammar.specs.declared.error.ParseError.{ParseError}
use Rattle.rel_grammar.specs.declared.error.ParseError.TheVariants.{NoParse, TooDeep, Memory}
use Rattle.rel_grammar.specs.Shapes.{Kind, sign, reserved, word, number, string, AnyWord, helper, word_spelling, Shaped, kind_of}
use Rattle.rel_grammar.specs.Grammar.{Words, Comparison, Relop, SumSign, ProductSign, Collection, Tuple, Choice, Bar, bar_one, bar_more, Either, either_one, either_more, Both, both_one, both_more, Relation, Sum, sum_one, sum_more, Product, product_one, product_more, Unary, Cast, cast_one, Reference, Term, Primary}
use Rattle.rel_grammar.specs.Grammar.{no_sign}
use Rattle.rel_grammar.specs.Spelling.{comparison_kind, sum_kind, product_kind, unary_kind, words_marks, shapes_of}
use Rattle.rel_grammar.specs.Answers.{place_of}
use Rattle.rel_grammar.specs.Sentences.{deepest}
use Rattle.rel_grammar.specs.Trees.{Plain, numeral, literal, it, phrase, body, no_tree, a_tree, cast, enclosed, Linked, Parts, span_of, words_text, words_place, comparison_sign, sum_operator, product_operator, relop_sign, relop_place, collection_tree, collection_parts, tuple_tree, tuple_parts, choice_tree, bar_tree, bar_head, bar_links, either_tree, either_head, either_links, both_tree, both_head, both_links, relation_tree, sum_tree, sum_head, sum_links, product_tree, product_head, product_links, unary_tree, cast_tree, cast_head, cast_list, reference_tree, term_tree, primary_tree}
use Rattle.rel_grammar.specs.Machine.{OverCollection, in_brackets, in_argument, in_filter, in_test, in_yes, OverTuple, collection_first, OverChoice, tuple_first, OverBar, OverEither, bar_first, bar_next, OverBoth, either_first, either_next, OverRelation, both_first, both_next, OverSum, left_side, right_side, OverProduct, sum_first, sum_next, OverUnary, product_first, product_next, OverReference, Partial, Step, to, want_choice, depth_collection, depth_tuple, depth_choice, depth_bar, depth_either, depth_both, depth_relation, depth_sum, depth_product, depth_unary, depth_reference, over_product, over_sum, over_relation, over_both, over_either, next_collection, end_tuple, next_tuple, next_choice, end_bar, next_bar, end_either, next_either, end_both, next_both, next_relation, end_sum, next_sum, end_product, next_product, next_unary, next_cast, next_reference, next_term, next_primary, begin_primary, begin_unary, begin_choice, begin_collection, begin_cast, next_relop, Answer, no_parse, too_deep, go}

abbrev pub fixed_kind : Fixed → Kind
fixed_kind (fixed.Sign s) = sign s
fixed_kind (fixed.Reserved r) = reserved r
fixed_kind (fixed.Helper h) = word (helper h)

-- a word that may stand in a name, spelled so
abbrev pub IsWord : Kind → List ℕ → Type 0
IsWord kind text = (w : AnyWord) × (kind ≡ word w) × (text ≡ word_spelling w)

abbrev pub IsNoWord : Kind → Type 0
IsNoWord kind = (w : AnyWord) → kind ≡ word w → ⊥

abbrev pub shaped_at : Kind → Place → Shaped
shaped_at kind place = record { kind = kind; place = place }

-- the next token, if there is one, is of another kind
abbrev pub Lacks : Kind → List Shaped → Type 0
Lacks kind [] = ⊤
Lacks kind (t ∷ ts) = t.kind ≡ kind → ⊥

-- the next token is this one, at this place
abbrev pub Begins : Kind → List Shaped → Place → List Shaped → Type 0
Begins kind tokens place left = tokens ≡ shaped_at kind place ∷ left

-- An error is that of the machine, or memory ran out.
abbrev pub Faults : ℕ → ParseError → Answer → Type 0
Faults end (NoParse p) a = (left : List Shaped) × (a ≡ no_parse left) × (p ≡ place_of end left)
Faults end (TooDeep p) a = (left : List Shaped) × (a ≡ too_deep left) × (p ≡ place_of end left)
Faults end Memory a = ⊤

-- The rules whose operators are read from the left, by their level: the part that stands between the operators, the
-- operators, what stands around, and how the machine reads them.
abbrev pub ChainOf : Level → Type 0
ChainOf level.Bar = Bar
ChainOf level.Either = Either
ChainOf level.Both = Both
ChainOf level.Sum = Sum
ChainOf level.Product = Product

abbrev pub PartOf : Level → Type 0
PartOf level.Bar = Either
PartOf level.Either = Both
PartOf level.Both = Relation
PartOf level.Sum = Product
PartOf level.Product = Unary

abbrev pub SignOf : Level → Type 0
SignOf level.Bar = ⊤
SignOf level.Either = ⊤
SignOf level.Both = ⊤
SignOf level.Sum = SumSign
SignOf level.Product = ProductSign

abbrev pub OverChain : Level → Type 0
OverChain level.Bar = OverBar
OverChain level.Either = OverEither
OverChain level.Both = OverBoth
OverChain level.Sum = OverSum
OverChain level.Product = OverProduct

abbrev pub OverPart : Level → Type 0
OverPart level.Bar = OverEither
OverPart level.Either = OverBoth
OverPart level.Both = OverRelation
OverPart level.Sum = OverProduct
OverPart level.Product = OverUnary

abbrev pub chain_only : (l : Level) → PartOf l → ChainOf l
chain_only level.Bar x = bar_one x
chain_only level.Either x = either_one x
chain_only level.Both x = both_one x
chain_only level.Sum x = sum_one x
chain_only level.Product x = product_one x

abbrev pub chain_more : (l : Level) → ChainOf l → Place → SignOf l → PartOf l → ChainOf l
chain_more level.Bar c p s x = bar_more c p x
chain_more level.Either c p s x = either_more c p x
chain_more level.Both c p s x = both_more c p x
chain_more level.Sum c p s x = sum_more c p s x
chain_more level.Product c p s x = product_more c p s x

abbrev pub chain_first : (l : Level) → OverChain l → OverPart l
chain_first level.Bar C = bar_first C
chain_first level.Either C = either_first C
chain_first level.Both C = both_first C
chain_first level.Sum C = sum_first C
chain_first level.Product C = product_first C

abbrev pub chain_next : (l : Level) → ChainOf l → Place → SignOf l → OverChain l → OverPart l
chain_next level.Bar c p s C = bar_next c p C
chain_next level.Either c p s C = either_next c p C
chain_next level.Both c p s C = both_next c p C
chain_next level.Sum c p s C = sum_next c p s C
chain_next level.Product c p s C = product_next c p s C

abbrev pub chain_depth : (l : Level) → OverChain l → ℕ
chain_depth level.Bar C = depth_bar C
chain_depth level.Either C = depth_either C
chain_depth level.Both C = depth_both C
chain_depth level.Sum C = depth_sum C
chain_depth level.Product C = depth_product C

abbrev pub part_depth : (l : Level) → OverPart l → ℕ
part_depth level.Bar C = depth_either C
part_depth level.Either C = depth_both C
part_depth level.Both C = depth_relation C
part_depth level.Sum C = depth_product C
part_depth level.Product C = depth_unary C

abbrev pub sign_kind : (l : Level) → SignOf l → Kind
sign_kind level.Bar s = sign lex.Bar
sign_kind level.Either s = reserved the.Or
sign_kind level.Both s = reserved the.And
sign_kind level.Sum s = sum_kind s
sign_kind level.Product s = product_kind s

abbrev pub sign_operator : (l : Level) → SignOf l → BinarySign
sign_operator level.Bar s = operator.Bar
sign_operator level.Either s = operator.Or
sign_operator level.Both s = operator.And
sign_operator level.Sum s = sum_operator s
sign_operator level.Product s = product_operator s

abbrev pub begin_part : (l : Level) → OverPart l → Option Shaped → Step
begin_part level.Bar C = begin_unary (over_either C)
begin_part level.Either C = begin_unary (over_both C)
begin_part level.Both C = begin_unary (over_relation C)
begin_part level.Sum C = begin_unary (over_product C)
begin_part level.Product C = begin_unary C

abbrev pub end_part : (l : Level) → PartOf l → OverPart l → Option Shaped → Step
end_part level.Bar x C = end_either x C
end_part level.Either x C = end_both x C
end_part level.Both x C = next_relation x C
end_part level.Sum x C = end_product x C
end_part level.Product x C = next_unary x C

abbrev pub next_chain : (l : Level) → ChainOf l → OverChain l → Option Shaped → Step
next_chain level.Bar c C = next_bar c C
next_chain level.Either c C = next_either c C
next_chain level.Both c C = next_both c C
next_chain level.Sum c C = next_sum c C
next_chain level.Product c C = next_product c C

abbrev pub end_chain : (l : Level) → ChainOf l → OverChain l → Option Shaped → Step
end_chain level.Bar c C = end_bar c C
end_chain level.Either c C = end_either c C
end_chain level.Both c C = end_both c C
end_chain level.Sum c C = end_sum c C
end_chain level.Product c C = end_product c C

abbrev pub part_tree : (l : Level) → PartOf l → Plain
part_tree level.Bar x = either_tree x
part_tree level.Either x = both_tree x
part_tree level.Both x = relation_tree x
part_tree level.Sum x = product_tree x
part_tree level.Product x = unary_tree x

abbrev pub chain_tree : (l : Level) → ChainOf l → Plain
chain_tree level.Bar c = bar_tree c
chain_tree level.Either c = either_tree c
chain_tree level.Both c = both_tree c
chain_tree level.Sum c = sum_tree c
chain_tree level.Product c = product_tree c

abbrev pub chain_head : (l : Level) → ChainOf l → Plain
chain_head level.Bar c = bar_head c
chain_head level.Either c = either_head c
chain_head level.Both c = both_head c
chain_head level.Sum c = sum_head c
chain_head level.Product c = product_head c

abbrev pub chain_links : (l : Level) → ChainOf l → Linked
chain_links level.Bar c = bar_links c
chain_links level.Either c = either_links c
chain_links level.Both c = both_links c
chain_links level.Sum c = sum_links c
chain_links level.Product c = product_links c

-- no operator of the level comes next
abbrev pub LacksSign : Level → List Shaped → Type 0
LacksSign l tokens = (s : SignOf l) → Lacks (sign_kind l s) tokens

-- an operator of the level comes next
abbrev pub SplitsSign : Level → List Shaped → Place → BinarySign → List Shaped → Type 0
SplitsSign l tokens place operator left = (s : SignOf l) × Begins (sign_kind l s) tokens place left × (operator ≡ sign_operator l s)

abbrev pub SplitsUnary : List Shaped → Place → UnarySign → List Shaped → Type 0
SplitsUnary tokens place op left = Begins (unary_kind op) tokens place left

abbrev pub LacksUnary : List Shaped → Type 0
LacksUnary tokens = (s : UnarySign) → Lacks (unary_kind s) tokens

-- The tokens begin with a part, and the machine reads it as the parser does.
pub record CollectionReads (depth : ℕ) (tokens : List Shaped) (tree : Plain) (left : List Shaped) : Type 0 where
  pub found : Collection
  pub tree_is : tree ≡ collection_tree found
  pub ends : Lacks (sign lex.Semicolon) left
  pub shorter : length left < length tokens
  pub reads : (C : OverCollection) → depth_collection C ≡ depth → go (begin_collection C) tokens ≡ go (next_collection found C) left

abbrev pub CollectionFails : ℕ → ℕ → List Shaped → ParseError → Type 0
CollectionFails depth end tokens e = (C : OverCollection) → depth_collection C ≡ depth → Faults end e (go (begin_collection C) tokens)

pub record TupleReads (depth : ℕ) (tokens : List Shaped) (tree : Plain) (left : List Shaped) : Type 0 where
  pub found : Tuple
  pub tree_is : tree ≡ tuple_tree found
  pub shorter : length left < length tokens
  pub reads : (C : OverTuple) → depth_tuple C ≡ depth → go (begin_choice (tuple_first C)) tokens ≡ go (end_tuple found C) left

abbrev pub TupleFails : ℕ → ℕ → List Shaped → ParseError → Type 0
TupleFails depth end tokens e = (C : OverTuple) → depth_tuple C ≡ depth → Faults end e (go (begin_choice (tuple_first C)) tokens)

pub record ChoiceReads (depth : ℕ) (tokens : List Shaped) (tree : Plain) (left : List Shaped) : Type 0 where
  pub found : Choice
  pub tree_is : tree ≡ choice_tree found
  pub shorter : length left < length tokens
  pub reads : (C : OverChoice) → depth_choice C ≡ depth → go (begin_choice C) tokens ≡ go (next_choice found C) left

abbrev pub ChoiceFails : ℕ → ℕ → List Shaped → ParseError → Type 0
ChoiceFails depth end tokens e = (C : OverChoice) → depth_choice C ≡ depth → Faults end e (go (begin_choice C) tokens)

pub record ChainReads (l : Level) (depth : ℕ) (tokens : List Shaped) (tree : Plain) (left : List Shaped) : Type 0 where
  pub found : ChainOf l
  pub tree_is : tree ≡ chain_tree l found
  pub shorter : length left < length tokens
  pub reads : (C : OverChain l) → chain_depth l C ≡ depth → go (begin_part l (chain_first l C)) tokens ≡ go (end_chain l found C) left

abbrev pub ChainFails : (l : Level) → ℕ → ℕ → List Shaped → ParseError → Type 0
ChainFails l depth end tokens e = (C : OverChain l) → chain_depth l C ≡ depth → Faults end e (go (begin_part l (chain_first l C)) tokens)

pub record PartReads (l : Level) (depth : ℕ) (tokens : List Shaped) (tree : Plain) (left : List Shaped) : Type 0 where
  pub found : PartOf l
  pub tree_is : tree ≡ part_tree l found
  pub shorter : length left < length tokens
  pub reads : (C : OverPart l) → part_depth l C ≡ depth → go (begin_part l C) tokens ≡ go (end_part l found C) left

abbrev pub PartFails : (l : Level) → ℕ → ℕ → List Shaped → ParseError → Type 0
PartFails l depth end tokens e = (C : OverPart l) → part_depth l C ≡ depth → Faults end e (go (begin_part l C) tokens)

pub record ReferenceReads (depth : ℕ) (tokens : List Shaped) (tree : Plain) (left : List Shaped) : Type 0 where
  pub found : Reference
  pub tree_is : tree ≡ reference_tree found
  pub low : depth ≤ deepest
  pub shorter : length left < length tokens
  pub reads : (C : OverReference) → depth_reference C ≡ depth → go (begin_primary C) tokens ≡ go (next_reference found C) left

abbrev pub ReferenceFails : ℕ → ℕ → List Shaped → ParseError → Type 0
ReferenceFails depth end tokens e = (C : OverReference) → depth_reference C ≡ depth → Faults end e (go (begin_primary C) tokens)

pub record TermReads (depth : ℕ) (tokens : List Shaped) (tree : Plain) (left : List Shaped) : Type 0 where
  pub found : Term
  pub tree_is : tree ≡ term_tree found
  pub low : depth ≤ deepest
  pub shorter : length left < length tokens
  pub reads : (C : OverReference) → depth_reference C ≡ depth → go (begin_primary C) tokens ≡ go (next_term found C) left

pub record PrimaryReads (depth : ℕ) (tokens : List Shaped) (tree : Plain) (left : List Shaped) : Type 0 where
  pub found : Primary
  pub tree_is : tree ≡ primary_tree found
  pub low : depth ≤ deepest
  pub shorter : length left < length tokens
  pub reads : (C : OverReference) → depth_reference C ≡ depth → go (begin_primary C) tokens ≡ go (next_primary found C) left

-- The loops, before the part after a sign.
pub record CollectionGoesOn (depth : ℕ) (tokens : List Shaped) (parts : Parts) (left : List Shaped) : Type 0 where
  pub found : Collection
  pub place : Place
  pub parts_are : parts ≡ collection_parts found
  pub shorter : length left < length tokens
  pub reads : (C : OverCollection) → depth_collection C ≡ depth → go (begin_collection C) tokens ≡ go (next_collection found C) (shaped_at (sign lex.Semicolon) place ∷ left)

pub record TupleGoesOn (depth : ℕ) (tokens : List Shaped) (parts : Parts) (left : List Shaped) : Type 0 where
  pub found : Tuple
  pub place : Place
  pub parts_are : parts ≡ tuple_parts found
  pub shorter : length left < length tokens
  pub reads : (C : OverTuple) → depth_tuple C ≡ depth → go (begin_choice (tuple_first C)) tokens ≡ go (next_tuple found C) (shaped_at (sign lex.Comma) place ∷ left)

pub record ChainGoesOn (l : Level) (depth : ℕ) (tokens : List Shaped) (first : Plain) (links : Linked) (place : Place) (op : BinarySign) (left : List Shaped) : Type 0 where
  pub found : ChainOf l
  pub sign_found : SignOf l
  pub first_is : first ≡ chain_head l found
  pub links_are : links ≡ chain_links l found
  pub sign_is : op ≡ sign_operator l sign_found
  pub shorter : length left < length tokens
  pub reads : (C : OverChain l) → chain_depth l C ≡ depth → go (begin_part l (chain_first l C)) tokens ≡ go (next_chain l found C) (shaped_at (sign_kind l sign_found) place ∷ left)

-- A relation's sign, from its first word on, or after what was read of it.
pub record RelopReads (tokens : List Shaped) (place : Place) (op : BinarySign) (left : List Shaped) : Type 0 where
  pub found : Relop
  pub place_is : place ≡ relop_place found
  pub sign_is : op ≡ relop_sign found
  pub shorter : length left < length tokens
  pub reads : (s : Sum) (C : OverRelation) → depth_relation C ≤ deepest → go (end_sum s (left_side C)) tokens ≡ go (begin_unary (over_sum (right_side s found C))) left

abbrev pub RelopFails : ℕ → List Shaped → ParseError → Type 0
RelopFails end tokens e = (s : Sum) (C : OverRelation) → depth_relation C ≤ deepest → Faults end e (go (end_sum s (left_side C)) tokens)

pub record PartialReads (x : Partial) (tokens : List Shaped) (place : Place) (op : BinarySign) (left : List Shaped) : Type 0 where
  pub found : Relop
  pub place_is : place ≡ relop_place found
  pub sign_is : op ≡ relop_sign found
  pub no_longer : length left ≤ length tokens
  pub reads : (s : Sum) (C : OverRelation) → depth_relation C ≤ deepest → go (next_relop s x C) tokens ≡ go (begin_unary (over_sum (right_side s found C))) left

abbrev pub PartialFails : Partial → ℕ → List Shaped → ParseError → Type 0
PartialFails x end tokens e = (s : Sum) (C : OverRelation) → depth_relation C ≤ deepest → Faults end e (go (next_relop s x C) tokens)

-- no relation's sign comes next
abbrev pub LacksRelop : List Shaped → Type 0
LacksRelop tokens = ((c : Comparison) → Lacks (comparison_kind c) tokens) × Lacks (reserved the.Is) tokens × Lacks (reserved the.Contains) tokens × Lacks (reserved the.Starts) tokens × Lacks (reserved the.Ends) tokens × Lacks (reserved the.Does) tokens

-- a relation's sign that is one token
abbrev pub IsComparison : TokenKind → BinarySign → Type 0
IsComparison kind op = (c : Comparison) × (kind_of kind ≡ comparison_kind c) × (op ≡ comparison_sign c)

abbrev pub IsNoComparison : TokenKind → Type 0
IsNoComparison kind = (c : Comparison) → kind_of kind ≡ comparison_kind c → ⊥

abbrev pub BeginsComparison : List Shaped → Place → BinarySign → List Shaped → Type 0
BeginsComparison tokens place op left = (c : Comparison) × Begins (comparison_kind c) tokens place left × (op ≡ comparison_sign c)

abbrev pub LacksComparison : List Shaped → Type 0
LacksComparison tokens = (c : Comparison) → Lacks (comparison_kind c) tokens

-- A sign's last word, after its first.
abbrev pub EndsSign : Place → Helper → List Shaped → Place → List Shaped → Type 0
EndsSign first h tokens place left = (q : Place) × Begins (word (helper h)) tokens q left × (place ≡ span_of first q)

abbrev pub LacksLast : Helper → ℕ → List Shaped → ParseError → Type 0
LacksLast h end tokens e = Lacks (word (helper h)) tokens × (e ≡ NoParse (place_of end tokens))

-- The longest run of words that begins with this one.
pub record WordsRead (w : AnyWord) (p : Place) (tokens : List Shaped) (text : List ℕ) (place : Place) (left : List Shaped) : Type 0 where
  pub found : Words
  pub splits : shaped_at (word w) p ∷ tokens ≡ shapes_of (words_marks 0 found) ++ left
  pub text_is : text ≡ words_text found
  pub place_is : place ≡ words_place found
  pub no_longer : length left ≤ length tokens

-- the same where all of them are read
abbrev pub WordsEnd : List Shaped → Type 0
WordsEnd left = (w : AnyWord) → Lacks (word w) left

-- A word that may stand in a name comes next.
abbrev pub BeginsWord : List Shaped → Place → List ℕ → List Shaped → Type 0
BeginsWord tokens place text left = (w : AnyWord) × Begins (word w) tokens place left × (text ≡ word_spelling w)

-- The casts after what they cast.
pub record CastsRead (r : Reference) (tokens : List Shaped) (tree : Plain) (left : List Shaped) : Type 0 where
  pub found : Cast
  pub tree_is : tree ≡ cast_tree found
  pub no_longer : length left ≤ length tokens
  pub reads : (C : OverUnary) → depth_unary C ≤ deepest → go (next_cast (cast_one r) C) tokens ≡ go (next_unary (no_sign found) C) left

-- The casts so far, before the words of the next one.
pub record CastsGoOn (r : Reference) (tokens : List Shaped) (casts : List CastTo) (left : List Shaped) : Type 0 where
  pub found : Cast
  pub place : Place
  pub head_is : reference_tree r ≡ cast_head found
  pub casts_are : casts ≡ cast_list found
  pub shorter : length left < length tokens
  pub reads : (C : OverUnary) → depth_unary C ≤ deepest → go (next_cast (cast_one r) C) tokens ≡ go (begin_cast found place C) left

abbrev pub CastsFail : Reference → ℕ → List Shaped → ParseError → Type 0
CastsFail r end tokens e = (C : OverUnary) → depth_unary C ≤ deepest → Faults end e (go (next_cast (cast_one r) C) tokens)

-- One cast after its `as`.
pub record CastReads (tokens : List Shaped) (cast : CastTo) (left : List Shaped) : Type 0 where
  pub first : AnyWord
  pub place : Place
  pub more : List Shaped
  pub begins : Begins (word first) tokens place more
  pub words : WordsRead first place more cast.words cast.place left
  pub ends : WordsEnd left

-- no word comes next, or memory ran out
abbrev pub LacksCast : ℕ → List Shaped → ParseError → Type 0
LacksCast end tokens (NoParse p) = WordsEnd tokens × (p ≡ place_of end tokens)
LacksCast end tokens (TooDeep p) = ⊥
LacksCast end tokens Memory = ⊤

-- Casts, the last of them included, after what they cast.
pub record CastsEnd (r : Reference) (tokens : List Shaped) (casts : List CastTo) (left : List Shaped) : Type 0 where
  pub found : Cast
  pub tree_is : cast (reference_tree r) casts ≡ cast_tree found
  pub no_longer : length left ≤ length tokens
  pub reads : (C : OverUnary) → depth_unary C ≤ deepest → go (next_cast (cast_one r) C) tokens ≡ go (next_unary (no_sign found) C) left

-- A value of one token.
pub data Single : Type 0 where
  single_number : Place → ℤ → Single
  single_string : Place → List ℕ → Single
  single_it : Place → Single

abbrev pub single_shaped : Single → Shaped
single_shaped (single_number p n) = shaped_at (number n) p
single_shaped (single_string p t) = shaped_at (string t) p
single_shaped (single_it p) = shaped_at (reserved the.It) p

abbrev pub single_tree : Single → Plain
single_tree (single_number p n) = numeral p n
single_tree (single_string p t) = literal p t
single_tree (single_it p) = it p

abbrev pub SingleReads : List Shaped → Plain → List Shaped → Type 0
SingleReads tokens tree left = (x : Single) × (tokens ≡ single_shaped x ∷ left) × (tree ≡ single_tree x)

abbrev pub LacksConstant : List Shaped → Type 0
LacksConstant tokens = ((n : ℤ) → Lacks (number n) tokens) × ((t : List ℕ) → Lacks (string t) tokens)

abbrev pub LacksSingle : List Shaped → Type 0
LacksSingle tokens = LacksConstant tokens × Lacks (reserved the.It) tokens

-- A number or a string.
pub data Constant : Type 0 where
  constant_number : Place → ℤ → Constant
  constant_string : Place → List ℕ → Constant

abbrev pub as_single : Constant → Single
as_single (constant_number p n) = single_number p n
as_single (constant_string p t) = single_string p t

abbrev pub ConstantReads : List Shaped → Plain → List Shaped → Type 0
ConstantReads tokens tree left = (x : Constant) × (tokens ≡ single_shaped (as_single x) ∷ left) × (tree ≡ single_tree (as_single x))

-- a number, string or `it` as the body of a head
abbrev pub as_head : Plain → Plain
as_head (numeral p n) = body p (numeral p n) no_tree no_tree
as_head (literal p t) = body p (literal p t) no_tree no_tree
as_head (it p) = body p (it p) no_tree no_tree
as_head t = t

-- a head that may have a filter and an object, with this filter or object
abbrev pub put_filter : Plain → Plain → Plain
put_filter (phrase p w a f o) x = phrase p w a (a_tree x) o
put_filter (body p b f o) x = body p b (a_tree x) o
put_filter t x = t

abbrev pub put_object : Plain → Plain → Plain
put_object (phrase p w a f o) x = phrase p w a f (a_tree x)
put_object (body p b f o) x = body p b f (a_tree x)
put_object t x = t

-- where a constant or a part in brackets ends
abbrev pub own_to : Plain → ℕ
own_to (numeral p n) = p.to
own_to (literal p t) = p.to
own_to (body p b f o) = p.to
own_to _ = 0

-- A part after its opening bracket, with the closing one.
pub record BracketsRead (depth : ℕ) (from : Place) (tokens : List Shaped) (tree : Plain) (left : List Shaped) : Type 0 where
  pub found : Collection
  pub close : Place
  pub tree_is : tree ≡ enclosed from (collection_tree found) close
  pub low : depth + 1 ≤ deepest
  pub shorter : length left < length tokens
  pub reads : (C : OverCollection) → depth_collection C ≡ depth + 1 → go (begin_collection C) tokens ≡ go (next_collection found C) (shaped_at (sign lex.CloseBracket) close ∷ left)

-- a collection around which a closing bracket is missing
abbrev pub WantsClose : OverCollection → Type 0
WantsClose (in_brackets p C) = ⊤
WantsClose (in_argument ws p C) = ⊤
WantsClose (in_filter x w p C) = ⊤
WantsClose C = ⊥

abbrev pub BracketsFail : ℕ → Place → ℕ → List Shaped → ParseError → Type 0
BracketsFail depth from end tokens e = (f : Option Shaped → Step) (C : OverCollection) → WantsClose C → depth_collection C ≡ depth + 1 → f (Some (shaped_at (sign lex.OpenBracket) from)) ≡ to (depth + 1) (want_choice (tuple_first (collection_first C))) → Faults end e (go f (shaped_at (sign lex.OpenBracket) from ∷ tokens))

-- A part with the word behind it, as that before a `then` or an `else`.
pub record UpToReads (depth : ℕ) (w : Reserved) (tokens : List Shaped) (tree : Plain) (left : List Shaped) : Type 0 where
  pub found : Collection
  pub place : Place
  pub tree_is : tree ≡ collection_tree found
  pub shorter : length left < length tokens
  pub reads : (C : OverCollection) → depth_collection C ≡ depth → go (begin_collection C) tokens ≡ go (next_collection found C) (shaped_at (reserved w) place ∷ left)

-- a collection that has to end before this word
abbrev pub WantsWord : OverCollection → Reserved → Type 0
WantsWord (in_test p C) w = w ≡ the.Then
WantsWord (in_yes p t o C) w = w ≡ the.Else
WantsWord C w = ⊥

abbrev pub UpToFails : ℕ → Reserved → ℕ → List Shaped → ParseError → Type 0
UpToFails depth w end tokens e = (C : OverCollection) → WantsWord C w → depth_collection C ≡ depth → Faults end e (go (begin_collection C) tokens)
