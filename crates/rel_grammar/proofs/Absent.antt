-- What the machine does where a token is not there.
use Rattle.std.proofs.Common.{◌≡◌, ℕ, ℤ, ◌≤◌, ◌<◌, List, [], ◌∷◌, true, false, cond, refl, sym, ap, subst, arith}
use Rattle.std.specs.Prelude.{nat_lt}
use Rattle.std.proofs.lemmas.Bool.{le-ltb, lt-ltb}
use Rattle.rel_lexer.specs.declared.place.Place.{Place}
use Rattle.rel_lexer.specs.declared.sign.Sign.TheVariants as lex
use Rattle.rel_grammar.specs.declared.vocabulary.Reserved.TheVariants as the
use Rattle.rel_grammar.specs.Shapes.{Kind, sign, reserved, word, number, string, AnyWord, Shaped}
use Rattle.rel_grammar.specs.declared.level.Level.{Level}
use Rattle.rel_grammar.specs.declared.level.Level.TheVariants as level
use Rattle.rel_grammar.specs.declared.error.ParseError.{ParseError}
use Rattle.rel_grammar.specs.Grammar.{Words, plus, minus, join, times, over, modulo, Collection, Tuple, Bar, Either, Both, no_relop, Sum, Product, no_sign, Cast, cast_more, no_object, Term, no_filter, Primary, some_words}
use Rattle.rel_grammar.specs.Trees.{chain, no_links, more_links}
use Rattle.rel_grammar.specs.Machine.{OverCollection, whole, in_brackets, in_argument, in_filter, in_test, in_yes, OverTuple, OverChoice, OverBar, OverEither, OverBoth, OverRelation, OverSum, left_side, OverProduct, OverUnary, OverReference, cast_first, depth_bar, depth_either, depth_both, depth_sum, depth_product, over_choice, next_collection, end_tuple, next_tuple, end_bar, next_bar, end_either, next_either, end_both, next_both, next_relation, end_sum, next_sum, end_product, next_product, next_unary, next_cast, next_reference, next_term, next_primary, begin_primary, begin_unary, begin_choice, next_word, begin_filter, begin_cast, next_cast_word, Answer, no_parse, go}
use Rattle.rel_grammar.specs.Reads.{shaped_at, Lacks, Faults, ChainOf, PartOf, SignOf, OverChain, chain_only, chain_more, chain_first, chain_next, chain_depth, part_depth, sign_kind, sign_operator, begin_part, end_part, next_chain, end_chain, part_tree, chain_tree, chain_head, chain_links, LacksSign, WordsEnd, LacksConstant, LacksSingle, WantsClose}

pub low : (n d : ℕ) → n ≡ d → d ≤ 64 → (a b : Answer) → cond (nat_lt 64 n) a b ≡ b
low n d e h a b = let k : nat_lt 64 n ≡ false = le-ltb 64 n (let g : n ≤ 64 = omega arith in g) in ap (λ x. cond x a b) k

pub high : (n d : ℕ) → n ≡ d → 64 < d → (a b : Answer) → cond (nat_lt 64 n) a b ≡ a
high n d e h a b = let k : nat_lt 64 n ≡ true = lt-ltb 64 n (let g : 64 < n = omega arith in g) in ap (λ x. cond x a b) k

pub along : (end : ℕ) (e : ParseError) (a b : Answer) → a ≡ b → Faults end e b → Faults end e a
along end e a b h f = subst (Faults end e) (sym h) f

no_bar_at : (k : Kind) (p : Place) (ts : List Shaped) (s : Bar) (C : OverBar) → (k ≡ (sign lex.Bar) → ⊥) → go (next_bar s C) (shaped_at k p ∷ ts) ≡ go (end_bar s C) (shaped_at k p ∷ ts)
no_bar_at (sign lex.Bar) p ts s C h0 = absurd (h0 refl)
no_bar_at _ p ts s C h0 = refl

pub no_bar : (ts : List Shaped) (s : Bar) (C : OverBar) → Lacks (sign lex.Bar) ts → go (next_bar s C) ts ≡ go (end_bar s C) ts
no_bar [] s C h0 = refl
no_bar (t ∷ ts) s C h0 = no_bar_at t.kind t.place ts s C h0

no_either_at : (k : Kind) (p : Place) (ts : List Shaped) (s : Either) (C : OverEither) → (k ≡ (reserved the.Or) → ⊥) → go (next_either s C) (shaped_at k p ∷ ts) ≡ go (end_either s C) (shaped_at k p ∷ ts)
no_either_at (reserved the.Or) p ts s C h0 = absurd (h0 refl)
no_either_at _ p ts s C h0 = refl

pub no_either : (ts : List Shaped) (s : Either) (C : OverEither) → Lacks (reserved the.Or) ts → go (next_either s C) ts ≡ go (end_either s C) ts
no_either [] s C h0 = refl
no_either (t ∷ ts) s C h0 = no_either_at t.kind t.place ts s C h0

no_both_at : (k : Kind) (p : Place) (ts : List Shaped) (s : Both) (C : OverBoth) → (k ≡ (reserved the.And) → ⊥) → go (next_both s C) (shaped_at k p ∷ ts) ≡ go (end_both s C) (shaped_at k p ∷ ts)
no_both_at (reserved the.And) p ts s C h0 = absurd (h0 refl)
no_both_at _ p ts s C h0 = refl

pub no_both : (ts : List Shaped) (s : Both) (C : OverBoth) → Lacks (reserved the.And) ts → go (next_both s C) ts ≡ go (end_both s C) ts
no_both [] s C h0 = refl
no_both (t ∷ ts) s C h0 = no_both_at t.kind t.place ts s C h0

no_sum_at : (k : Kind) (p : Place) (ts : List Shaped) (s : Sum) (C : OverSum) → (k ≡ (sign lex.Plus) → ⊥) → (k ≡ (sign lex.Minus) → ⊥) → (k ≡ (sign lex.Ampersand) → ⊥) → go (next_sum s C) (shaped_at k p ∷ ts) ≡ go (end_sum s C) (shaped_at k p ∷ ts)
no_sum_at (sign lex.Plus) p ts s C h0 h1 h2 = absurd (h0 refl)
no_sum_at (sign lex.Minus) p ts s C h0 h1 h2 = absurd (h1 refl)
no_sum_at (sign lex.Ampersand) p ts s C h0 h1 h2 = absurd (h2 refl)
no_sum_at _ p ts s C h0 h1 h2 = refl

pub no_sum : (ts : List Shaped) (s : Sum) (C : OverSum) → Lacks (sign lex.Plus) ts → Lacks (sign lex.Minus) ts → Lacks (sign lex.Ampersand) ts → go (next_sum s C) ts ≡ go (end_sum s C) ts
no_sum [] s C h0 h1 h2 = refl
no_sum (t ∷ ts) s C h0 h1 h2 = no_sum_at t.kind t.place ts s C h0 h1 h2

no_product_at : (k : Kind) (p : Place) (ts : List Shaped) (s : Product) (C : OverProduct) → (k ≡ (sign lex.Times) → ⊥) → (k ≡ (sign lex.Slash) → ⊥) → (k ≡ (reserved the.Mod) → ⊥) → go (next_product s C) (shaped_at k p ∷ ts) ≡ go (end_product s C) (shaped_at k p ∷ ts)
no_product_at (sign lex.Times) p ts s C h0 h1 h2 = absurd (h0 refl)
no_product_at (sign lex.Slash) p ts s C h0 h1 h2 = absurd (h1 refl)
no_product_at (reserved the.Mod) p ts s C h0 h1 h2 = absurd (h2 refl)
no_product_at _ p ts s C h0 h1 h2 = refl

pub no_product : (ts : List Shaped) (s : Product) (C : OverProduct) → Lacks (sign lex.Times) ts → Lacks (sign lex.Slash) ts → Lacks (reserved the.Mod) ts → go (next_product s C) ts ≡ go (end_product s C) ts
no_product [] s C h0 h1 h2 = refl
no_product (t ∷ ts) s C h0 h1 h2 = no_product_at t.kind t.place ts s C h0 h1 h2

no_comma_at : (k : Kind) (p : Place) (ts : List Shaped) (s : Tuple) (C : OverTuple) → (k ≡ (sign lex.Comma) → ⊥) → go (next_tuple s C) (shaped_at k p ∷ ts) ≡ go (end_tuple s C) (shaped_at k p ∷ ts)
no_comma_at (sign lex.Comma) p ts s C h0 = absurd (h0 refl)
no_comma_at _ p ts s C h0 = refl

pub no_comma : (ts : List Shaped) (s : Tuple) (C : OverTuple) → Lacks (sign lex.Comma) ts → go (next_tuple s C) ts ≡ go (end_tuple s C) ts
no_comma [] s C h0 = refl
no_comma (t ∷ ts) s C h0 = no_comma_at t.kind t.place ts s C h0

no_as_at : (k : Kind) (p : Place) (ts : List Shaped) (s : Cast) (C : OverUnary) → (k ≡ (reserved the.As) → ⊥) → go (next_cast s C) (shaped_at k p ∷ ts) ≡ go (next_unary (no_sign s) C) (shaped_at k p ∷ ts)
no_as_at (reserved the.As) p ts s C h0 = absurd (h0 refl)
no_as_at _ p ts s C h0 = refl

pub no_as : (ts : List Shaped) (s : Cast) (C : OverUnary) → Lacks (reserved the.As) ts → go (next_cast s C) ts ≡ go (next_unary (no_sign s) C) ts
no_as [] s C h0 = refl
no_as (t ∷ ts) s C h0 = no_as_at t.kind t.place ts s C h0

no_of_at : (k : Kind) (p : Place) (ts : List Shaped) (x : Term) (C : OverReference) → (k ≡ (reserved the.Of) → ⊥) → go (next_term x C) (shaped_at k p ∷ ts) ≡ go (next_reference (no_object x) C) (shaped_at k p ∷ ts)
no_of_at (reserved the.Of) p ts x C h0 = absurd (h0 refl)
no_of_at _ p ts x C h0 = refl

pub no_of : (ts : List Shaped) (x : Term) (C : OverReference) → Lacks (reserved the.Of) ts → go (next_term x C) ts ≡ go (next_reference (no_object x) C) ts
no_of [] x C h0 = refl
no_of (t ∷ ts) x C h0 = no_of_at t.kind t.place ts x C h0

no_whose_at : (k : Kind) (p : Place) (ts : List Shaped) (x : Primary) (C : OverReference) → (k ≡ (reserved the.Whose) → ⊥) → go (next_primary x C) (shaped_at k p ∷ ts) ≡ go (next_term (no_filter x) C) (shaped_at k p ∷ ts)
no_whose_at (reserved the.Whose) p ts x C h0 = absurd (h0 refl)
no_whose_at _ p ts x C h0 = refl

pub no_whose : (ts : List Shaped) (x : Primary) (C : OverReference) → Lacks (reserved the.Whose) ts → go (next_primary x C) ts ≡ go (next_term (no_filter x) C) ts
no_whose [] x C h0 = refl
no_whose (t ∷ ts) x C h0 = no_whose_at t.kind t.place ts x C h0

no_unary_at : (k : Kind) (p : Place) (ts : List Shaped) (C : OverUnary) → (k ≡ (reserved the.Not) → ⊥) → (k ≡ (reserved the.Exists) → ⊥) → (k ≡ (reserved the.Exist) → ⊥) → (k ≡ (sign lex.Minus) → ⊥) → go (begin_unary C) (shaped_at k p ∷ ts) ≡ go (begin_primary (cast_first C)) (shaped_at k p ∷ ts)
no_unary_at (reserved the.Not) p ts C h0 h1 h2 h3 = absurd (h0 refl)
no_unary_at (reserved the.Exists) p ts C h0 h1 h2 h3 = absurd (h1 refl)
no_unary_at (reserved the.Exist) p ts C h0 h1 h2 h3 = absurd (h2 refl)
no_unary_at (sign lex.Minus) p ts C h0 h1 h2 h3 = absurd (h3 refl)
no_unary_at _ p ts C h0 h1 h2 h3 = refl

pub no_unary : (ts : List Shaped) (C : OverUnary) → Lacks (reserved the.Not) ts → Lacks (reserved the.Exists) ts → Lacks (reserved the.Exist) ts → Lacks (sign lex.Minus) ts → go (begin_unary C) ts ≡ go (begin_primary (cast_first C)) ts
no_unary [] C h0 h1 h2 h3 = refl
no_unary (t ∷ ts) C h0 h1 h2 h3 = no_unary_at t.kind t.place ts C h0 h1 h2 h3

no_if_here_at : (k : Kind) (p : Place) (ts : List Shaped) (C : OverChoice) → (k ≡ (reserved the.If) → ⊥) → go (begin_choice C) (shaped_at k p ∷ ts) ≡ go (begin_unary (over_choice C)) (shaped_at k p ∷ ts)
no_if_here_at (reserved the.If) p ts C h0 = absurd (h0 refl)
no_if_here_at _ p ts C h0 = refl

pub no_if_here : (ts : List Shaped) (C : OverChoice) → Lacks (reserved the.If) ts → go (begin_choice C) ts ≡ go (begin_unary (over_choice C)) ts
no_if_here [] C h0 = refl
no_if_here (t ∷ ts) C h0 = no_if_here_at t.kind t.place ts C h0

no_sign_of_relation_at : (k : Kind) (p : Place) (ts : List Shaped) (s : Sum) (C : OverRelation) → (k ≡ (sign lex.Equal) → ⊥) → (k ≡ (sign lex.NotEqual) → ⊥) → (k ≡ (sign lex.Less) → ⊥) → (k ≡ (sign lex.LessOrEqual) → ⊥) → (k ≡ (sign lex.Greater) → ⊥) → (k ≡ (sign lex.GreaterOrEqual) → ⊥) → (k ≡ (reserved the.Is) → ⊥) → (k ≡ (reserved the.Contains) → ⊥) → (k ≡ (reserved the.Starts) → ⊥) → (k ≡ (reserved the.Ends) → ⊥) → (k ≡ (reserved the.Does) → ⊥) → go (end_sum s (left_side C)) (shaped_at k p ∷ ts) ≡ go (next_relation (no_relop s) C) (shaped_at k p ∷ ts)
no_sign_of_relation_at (sign lex.Equal) p ts s C h0 h1 h2 h3 h4 h5 h6 h7 h8 h9 h10 = absurd (h0 refl)
no_sign_of_relation_at (sign lex.NotEqual) p ts s C h0 h1 h2 h3 h4 h5 h6 h7 h8 h9 h10 = absurd (h1 refl)
no_sign_of_relation_at (sign lex.Less) p ts s C h0 h1 h2 h3 h4 h5 h6 h7 h8 h9 h10 = absurd (h2 refl)
no_sign_of_relation_at (sign lex.LessOrEqual) p ts s C h0 h1 h2 h3 h4 h5 h6 h7 h8 h9 h10 = absurd (h3 refl)
no_sign_of_relation_at (sign lex.Greater) p ts s C h0 h1 h2 h3 h4 h5 h6 h7 h8 h9 h10 = absurd (h4 refl)
no_sign_of_relation_at (sign lex.GreaterOrEqual) p ts s C h0 h1 h2 h3 h4 h5 h6 h7 h8 h9 h10 = absurd (h5 refl)
no_sign_of_relation_at (reserved the.Is) p ts s C h0 h1 h2 h3 h4 h5 h6 h7 h8 h9 h10 = absurd (h6 refl)
no_sign_of_relation_at (reserved the.Contains) p ts s C h0 h1 h2 h3 h4 h5 h6 h7 h8 h9 h10 = absurd (h7 refl)
no_sign_of_relation_at (reserved the.Starts) p ts s C h0 h1 h2 h3 h4 h5 h6 h7 h8 h9 h10 = absurd (h8 refl)
no_sign_of_relation_at (reserved the.Ends) p ts s C h0 h1 h2 h3 h4 h5 h6 h7 h8 h9 h10 = absurd (h9 refl)
no_sign_of_relation_at (reserved the.Does) p ts s C h0 h1 h2 h3 h4 h5 h6 h7 h8 h9 h10 = absurd (h10 refl)
no_sign_of_relation_at _ p ts s C h0 h1 h2 h3 h4 h5 h6 h7 h8 h9 h10 = refl

pub no_sign_of_relation : (ts : List Shaped) (s : Sum) (C : OverRelation) → Lacks (sign lex.Equal) ts → Lacks (sign lex.NotEqual) ts → Lacks (sign lex.Less) ts → Lacks (sign lex.LessOrEqual) ts → Lacks (sign lex.Greater) ts → Lacks (sign lex.GreaterOrEqual) ts → Lacks (reserved the.Is) ts → Lacks (reserved the.Contains) ts → Lacks (reserved the.Starts) ts → Lacks (reserved the.Ends) ts → Lacks (reserved the.Does) ts → go (end_sum s (left_side C)) ts ≡ go (next_relation (no_relop s) C) ts
no_sign_of_relation [] s C h0 h1 h2 h3 h4 h5 h6 h7 h8 h9 h10 = refl
no_sign_of_relation (t ∷ ts) s C h0 h1 h2 h3 h4 h5 h6 h7 h8 h9 h10 = no_sign_of_relation_at t.kind t.place ts s C h0 h1 h2 h3 h4 h5 h6 h7 h8 h9 h10

no_more_words_at : (k : Kind) (p : Place) (ts : List Shaped) (ws : Words) (C : OverReference) → ((w : AnyWord) → k ≡ word w → ⊥) → ((n : ℤ) → k ≡ number n → ⊥) → ((t : List ℕ) → k ≡ string t → ⊥) → (k ≡ sign lex.OpenBracket → ⊥) → go (next_word ws C) (shaped_at k p ∷ ts) ≡ go (next_primary (some_words ws) C) (shaped_at k p ∷ ts)
no_more_words_at (word w) p ts ws C a b c d = absurd (a w refl)
no_more_words_at (number n) p ts ws C a b c d = absurd (b n refl)
no_more_words_at (string t) p ts ws C a b c d = absurd (c t refl)
no_more_words_at (sign lex.OpenBracket) p ts ws C a b c d = absurd (d refl)
no_more_words_at _ p ts ws C a b c d = refl

pub no_more_words : (ts : List Shaped) (ws : Words) (C : OverReference) → WordsEnd ts → LacksConstant ts → Lacks (sign lex.OpenBracket) ts → go (next_word ws C) ts ≡ go (next_primary (some_words ws) C) ts
no_more_words [] ws C a b d = refl
no_more_words (t ∷ ts) ws C a b d = no_more_words_at t.kind t.place ts ws C a b.0 b.1 d

no_cast_word_at : (k : Kind) (p : Place) (ts : List Shaped) (l : Cast) (o : Place) (ws : Words) (C : OverUnary) → ((w : AnyWord) → k ≡ word w → ⊥) → go (next_cast_word l o ws C) (shaped_at k p ∷ ts) ≡ go (next_cast (cast_more l o ws) C) (shaped_at k p ∷ ts)
no_cast_word_at (word w) p ts l o ws C a = absurd (a w refl)
no_cast_word_at _ p ts l o ws C a = refl

pub no_cast_word : (ts : List Shaped) (l : Cast) (o : Place) (ws : Words) (C : OverUnary) → WordsEnd ts → go (next_cast_word l o ws C) ts ≡ go (next_cast (cast_more l o ws) C) ts
no_cast_word [] l o ws C a = refl
no_cast_word (t ∷ ts) l o ws C a = no_cast_word_at t.kind t.place ts l o ws C a

-- where the machine fails
no_close_brackets_at : (k : Kind) (p : Place) (ts : List Shaped) (q : Collection) (o : Place) (C : OverReference) → (k ≡ (sign lex.CloseBracket) → ⊥) → (k ≡ (sign lex.Semicolon) → ⊥) → go (next_collection q (in_brackets o C)) (shaped_at k p ∷ ts) ≡ no_parse (shaped_at k p ∷ ts)
no_close_brackets_at (sign lex.CloseBracket) p ts q o C h0 h1 = absurd (h0 refl)
no_close_brackets_at (sign lex.Semicolon) p ts q o C h0 h1 = absurd (h1 refl)
no_close_brackets_at _ p ts q o C h0 h1 = refl

pub no_close_brackets : (ts : List Shaped) (q : Collection) (o : Place) (C : OverReference) → Lacks (sign lex.CloseBracket) ts → Lacks (sign lex.Semicolon) ts → go (next_collection q (in_brackets o C)) ts ≡ no_parse ts
no_close_brackets [] q o C h0 h1 = refl
no_close_brackets (t ∷ ts) q o C h0 h1 = no_close_brackets_at t.kind t.place ts q o C h0 h1

no_close_argument_at : (k : Kind) (p : Place) (ts : List Shaped) (q : Collection) (ws : Words) (o : Place) (C : OverReference) → (k ≡ (sign lex.CloseBracket) → ⊥) → (k ≡ (sign lex.Semicolon) → ⊥) → go (next_collection q (in_argument ws o C)) (shaped_at k p ∷ ts) ≡ no_parse (shaped_at k p ∷ ts)
no_close_argument_at (sign lex.CloseBracket) p ts q ws o C h0 h1 = absurd (h0 refl)
no_close_argument_at (sign lex.Semicolon) p ts q ws o C h0 h1 = absurd (h1 refl)
no_close_argument_at _ p ts q ws o C h0 h1 = refl

pub no_close_argument : (ts : List Shaped) (q : Collection) (ws : Words) (o : Place) (C : OverReference) → Lacks (sign lex.CloseBracket) ts → Lacks (sign lex.Semicolon) ts → go (next_collection q (in_argument ws o C)) ts ≡ no_parse ts
no_close_argument [] q ws o C h0 h1 = refl
no_close_argument (t ∷ ts) q ws o C h0 h1 = no_close_argument_at t.kind t.place ts q ws o C h0 h1

no_close_filter_at : (k : Kind) (p : Place) (ts : List Shaped) (q : Collection) (x : Primary) (w o : Place) (C : OverReference) → (k ≡ (sign lex.CloseBracket) → ⊥) → (k ≡ (sign lex.Semicolon) → ⊥) → go (next_collection q (in_filter x w o C)) (shaped_at k p ∷ ts) ≡ no_parse (shaped_at k p ∷ ts)
no_close_filter_at (sign lex.CloseBracket) p ts q x w o C h0 h1 = absurd (h0 refl)
no_close_filter_at (sign lex.Semicolon) p ts q x w o C h0 h1 = absurd (h1 refl)
no_close_filter_at _ p ts q x w o C h0 h1 = refl

pub no_close_filter : (ts : List Shaped) (q : Collection) (x : Primary) (w o : Place) (C : OverReference) → Lacks (sign lex.CloseBracket) ts → Lacks (sign lex.Semicolon) ts → go (next_collection q (in_filter x w o C)) ts ≡ no_parse ts
no_close_filter [] q x w o C h0 h1 = refl
no_close_filter (t ∷ ts) q x w o C h0 h1 = no_close_filter_at t.kind t.place ts q x w o C h0 h1

no_then_at : (k : Kind) (p : Place) (ts : List Shaped) (q : Collection) (o : Place) (C : OverChoice) → (k ≡ (reserved the.Then) → ⊥) → (k ≡ (sign lex.Semicolon) → ⊥) → go (next_collection q (in_test o C)) (shaped_at k p ∷ ts) ≡ no_parse (shaped_at k p ∷ ts)
no_then_at (reserved the.Then) p ts q o C h0 h1 = absurd (h0 refl)
no_then_at (sign lex.Semicolon) p ts q o C h0 h1 = absurd (h1 refl)
no_then_at _ p ts q o C h0 h1 = refl

pub no_then : (ts : List Shaped) (q : Collection) (o : Place) (C : OverChoice) → Lacks (reserved the.Then) ts → Lacks (sign lex.Semicolon) ts → go (next_collection q (in_test o C)) ts ≡ no_parse ts
no_then [] q o C h0 h1 = refl
no_then (t ∷ ts) q o C h0 h1 = no_then_at t.kind t.place ts q o C h0 h1

no_else_at : (k : Kind) (p : Place) (ts : List Shaped) (q : Collection) (i : Place) (y : Collection) (o : Place) (C : OverChoice) → (k ≡ (reserved the.Else) → ⊥) → (k ≡ (sign lex.Semicolon) → ⊥) → go (next_collection q (in_yes i y o C)) (shaped_at k p ∷ ts) ≡ no_parse (shaped_at k p ∷ ts)
no_else_at (reserved the.Else) p ts q i y o C h0 h1 = absurd (h0 refl)
no_else_at (sign lex.Semicolon) p ts q i y o C h0 h1 = absurd (h1 refl)
no_else_at _ p ts q i y o C h0 h1 = refl

pub no_else : (ts : List Shaped) (q : Collection) (i : Place) (y : Collection) (o : Place) (C : OverChoice) → Lacks (reserved the.Else) ts → Lacks (sign lex.Semicolon) ts → go (next_collection q (in_yes i y o C)) ts ≡ no_parse ts
no_else [] q i y o C h0 h1 = refl
no_else (t ∷ ts) q i y o C h0 h1 = no_else_at t.kind t.place ts q i y o C h0 h1

no_open_at : (k : Kind) (p : Place) (ts : List Shaped) (x : Primary) (w : Place) (C : OverReference) → (k ≡ (sign lex.OpenBracket) → ⊥) → go (begin_filter x w C) (shaped_at k p ∷ ts) ≡ no_parse (shaped_at k p ∷ ts)
no_open_at (sign lex.OpenBracket) p ts x w C h0 = absurd (h0 refl)
no_open_at _ p ts x w C h0 = refl

pub no_open : (ts : List Shaped) (x : Primary) (w : Place) (C : OverReference) → Lacks (sign lex.OpenBracket) ts → go (begin_filter x w C) ts ≡ no_parse ts
no_open [] x w C h0 = refl
no_open (t ∷ ts) x w C h0 = no_open_at t.kind t.place ts x w C h0

pub no_close : (ts : List Shaped) (q : Collection) (C : OverCollection) → WantsClose C → Lacks (sign lex.CloseBracket) ts → Lacks (sign lex.Semicolon) ts → go (next_collection q C) ts ≡ no_parse ts
no_close ts q (in_brackets o C) w h g = no_close_brackets ts q o C h g
no_close ts q (in_argument ws o C) w h g = no_close_argument ts q ws o C h g
no_close ts q (in_filter x p o C) w h g = no_close_filter ts q x p o C h g
no_close ts q whole w h g = absurd w
no_close ts q (in_test o C) w h g = absurd w
no_close ts q (in_yes i y o C) w h g = absurd w

no_first_word_at : (k : Kind) (p : Place) (ts : List Shaped) (l : Cast) (o : Place) (C : OverUnary) → ((w : AnyWord) → k ≡ word w → ⊥) → go (begin_cast l o C) (shaped_at k p ∷ ts) ≡ no_parse (shaped_at k p ∷ ts)
no_first_word_at (word w) p ts l o C a = absurd (a w refl)
no_first_word_at _ p ts l o C a = refl

pub no_first_word : (ts : List Shaped) (l : Cast) (o : Place) (C : OverUnary) → WordsEnd ts → go (begin_cast l o C) ts ≡ no_parse ts
no_first_word [] l o C a = refl
no_first_word (t ∷ ts) l o C a = no_first_word_at t.kind t.place ts l o C a

no_primary_at : (k : Kind) (p : Place) (ts : List Shaped) (C : OverReference) → ((w : AnyWord) → k ≡ word w → ⊥) → ((n : ℤ) → k ≡ number n → ⊥) → ((t : List ℕ) → k ≡ string t → ⊥) → (k ≡ reserved the.It → ⊥) → (k ≡ sign lex.OpenBracket → ⊥) → go (begin_primary C) (shaped_at k p ∷ ts) ≡ no_parse (shaped_at k p ∷ ts)
no_primary_at (word w) p ts C a b c i d = absurd (a w refl)
no_primary_at (number n) p ts C a b c i d = absurd (b n refl)
no_primary_at (string t) p ts C a b c i d = absurd (c t refl)
no_primary_at (reserved the.It) p ts C a b c i d = absurd (i refl)
no_primary_at (sign lex.OpenBracket) p ts C a b c i d = absurd (d refl)
no_primary_at _ p ts C a b c i d = refl

pub no_primary : (ts : List Shaped) (C : OverReference) → WordsEnd ts → LacksSingle ts → Lacks (sign lex.OpenBracket) ts → go (begin_primary C) ts ≡ no_parse ts
no_primary [] C a b d = refl
no_primary (t ∷ ts) C a b d = no_primary_at t.kind t.place ts C a b.0.0 b.0.1 b.1 d

-- by the level
pub no_sign_here : (l : Level) (ts : List Shaped) (c : ChainOf l) (C : OverChain l) → LacksSign l ts → go (next_chain l c C) ts ≡ go (end_chain l c C) ts
no_sign_here level.Bar ts c C h = no_bar ts c C (h tt)
no_sign_here level.Either ts c C h = no_either ts c C (h tt)
no_sign_here level.Both ts c C h = no_both ts c C (h tt)
no_sign_here level.Sum ts c C h = no_sum ts c C (h plus) (h minus) (h join)
no_sign_here level.Product ts c C h = no_product ts c C (h times) (h over) (h modulo)

pub sign_here : (l : Level) (s : SignOf l) (p : Place) (ts : List Shaped) (c : ChainOf l) (d : ℕ) (C : OverChain l) → chain_depth l C ≡ d → d ≤ 64 → go (next_chain l c C) (shaped_at (sign_kind l s) p ∷ ts) ≡ go (begin_part l (chain_next l c p s C)) ts
sign_here level.Bar s p ts c d C e h = low (depth_bar C) d e h _ _
sign_here level.Either s p ts c d C e h = low (depth_either C) d e h _ _
sign_here level.Both s p ts c d C e h = low (depth_both C) d e h _ _
sign_here level.Sum plus p ts c d C e h = low (depth_sum C) d e h _ _
sign_here level.Sum minus p ts c d C e h = low (depth_sum C) d e h _ _
sign_here level.Sum join p ts c d C e h = low (depth_sum C) d e h _ _
sign_here level.Product times p ts c d C e h = low (depth_product C) d e h _ _
sign_here level.Product over p ts c d C e h = low (depth_product C) d e h _ _
sign_here level.Product modulo p ts c d C e h = low (depth_product C) d e h _ _

pub first_depth : (l : Level) (C : OverChain l) → part_depth l (chain_first l C) ≡ chain_depth l C
first_depth level.Bar C = refl
first_depth level.Either C = refl
first_depth level.Both C = refl
first_depth level.Sum C = refl
first_depth level.Product C = refl

pub next_depth : (l : Level) (c : ChainOf l) (p : Place) (s : SignOf l) (C : OverChain l) → part_depth l (chain_next l c p s C) ≡ chain_depth l C
next_depth level.Bar c p s C = refl
next_depth level.Either c p s C = refl
next_depth level.Both c p s C = refl
next_depth level.Sum c p s C = refl
next_depth level.Product c p s C = refl

pub first_ends : (l : Level) (x : PartOf l) (C : OverChain l) (ts : List Shaped) → go (end_part l x (chain_first l C)) ts ≡ go (next_chain l (chain_only l x) C) ts
first_ends level.Bar x C ts = refl
first_ends level.Either x C ts = refl
first_ends level.Both x C ts = refl
first_ends level.Sum x C ts = refl
first_ends level.Product x C ts = refl

pub next_ends : (l : Level) (x : PartOf l) (c : ChainOf l) (p : Place) (s : SignOf l) (C : OverChain l) (ts : List Shaped) → go (end_part l x (chain_next l c p s C)) ts ≡ go (next_chain l (chain_more l c p s x) C) ts
next_ends level.Bar x c p s C ts = refl
next_ends level.Either x c p s C ts = refl
next_ends level.Both x c p s C ts = refl
next_ends level.Sum x c p s C ts = refl
next_ends level.Product x c p s C ts = refl

pub only_tree : (l : Level) (x : PartOf l) → part_tree l x ≡ chain_tree l (chain_only l x)
only_tree level.Bar x = refl
only_tree level.Either x = refl
only_tree level.Both x = refl
only_tree level.Sum x = refl
only_tree level.Product x = refl

pub only_head : (l : Level) (x : PartOf l) → part_tree l x ≡ chain_head l (chain_only l x)
only_head level.Bar x = refl
only_head level.Either x = refl
only_head level.Both x = refl
only_head level.Sum x = refl
only_head level.Product x = refl

pub only_links : (l : Level) (x : PartOf l) → no_links ≡ chain_links l (chain_only l x)
only_links level.Bar x = refl
only_links level.Either x = refl
only_links level.Both x = refl
only_links level.Sum x = refl
only_links level.Product x = refl

pub more_head : (l : Level) (c : ChainOf l) (p : Place) (s : SignOf l) (x : PartOf l) → chain_head l c ≡ chain_head l (chain_more l c p s x)
more_head level.Bar c p s x = refl
more_head level.Either c p s x = refl
more_head level.Both c p s x = refl
more_head level.Sum c p s x = refl
more_head level.Product c p s x = refl

pub more_links_are : (l : Level) (c : ChainOf l) (p : Place) (s : SignOf l) (x : PartOf l) → more_links (chain_links l c) p (sign_operator l s) (part_tree l x) ≡ chain_links l (chain_more l c p s x)
more_links_are level.Bar c p s x = refl
more_links_are level.Either c p s x = refl
more_links_are level.Both c p s x = refl
more_links_are level.Sum c p s x = refl
more_links_are level.Product c p s x = refl

pub more_tree : (l : Level) (c : ChainOf l) (p : Place) (s : SignOf l) (x : PartOf l) → chain (chain_head l (chain_more l c p s x)) (chain_links l (chain_more l c p s x)) ≡ chain_tree l (chain_more l c p s x)
more_tree level.Bar c p s x = refl
more_tree level.Either c p s x = refl
more_tree level.Both c p s x = refl
more_tree level.Sum c p s x = refl
more_tree level.Product c p s x = refl
