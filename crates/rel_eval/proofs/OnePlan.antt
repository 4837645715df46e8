-- A text is one thing. Other crates may cite these lemmas.
use Rattle.std.proofs.Common.{◌≡◌, ◌≢◌, ℕ, List, Result, None, Ok, Err, inl, inr, sym, ap, ◌∙◌, subst}
use Rattle.rel_lexer.specs.declared.place.Place.{Place}
use Rattle.rel_lexer.specs.declared.token_list.Tokens.{Tokens}
use Rattle.rel_lexer.specs.declared.error.LexError.{LexError}
use Rattle.rel_lexer.specs.declared.error.LexError.TheVariants.{BadByte, BadEscape, UnclosedString, UnclosedComment, TooLong, BadNumber, Memory}
use Rattle.rel_lexer.specs.Tokens.{Lexed}
use Rattle.rel_lexer.proofs.OneAnswer.{one_answer}
use Rattle.rel_trace.specs.declared.kind.RelKind.{RelKind}
use Rattle.rel_grammar.specs.declared.error.ParseError.{ParseError}
use Rattle.rel_grammar.specs.declared.error.ParseError.TheVariants as parse
use Rattle.rel_grammar.specs.Trees.{Plain}
use Rattle.rel_grammar.specs.Answers.{IsTreeOf}
use Rattle.rel_grammar.proofs.OneTree.{parsed_is_one, parses, tree_is_one}
use Rattle.rel_types.specs.declared.error.TypeError.{TypeError}
use Rattle.rel_types.specs.declared.error.TypeError.TheVariants as typing
use Rattle.rel_types.specs.Plans.{PlainNode}
use Rattle.rel_types.specs.Typing.{typed}
use Rattle.rel_eval.specs.Refusals.{IsLexRefusal, IsParseRefusal, IsTypeRefusal}
use Rattle.rel_eval.specs.Questions.{IsPlanOf, LexerRefuses, ParserRefuses, CheckerRefuses, IsUndefined, IsRefusedAs, Reading, question, refused, undefined, Reads}

-- a refusal of the lexer's is for one thing, at one place
lex_refusal_is_one : (e : LexError) (k l : RelKind) (p q : Place) → IsLexRefusal e k p → IsLexRefusal e l q → (k ≡ l) × (p ≡ q)
lex_refusal_is_one (BadByte at) k l p q a b = (a.0 ∙ sym b.0, a.1 ∙ sym b.1)
lex_refusal_is_one (BadEscape at) k l p q a b = (a.0 ∙ sym b.0, a.1 ∙ sym b.1)
lex_refusal_is_one (UnclosedString at) k l p q a b = (a.0 ∙ sym b.0, a.1 ∙ sym b.1)
lex_refusal_is_one (UnclosedComment at) k l p q a b = (a.0 ∙ sym b.0, a.1 ∙ sym b.1)
lex_refusal_is_one TooLong k l p q a b = (a.0 ∙ sym b.0, a.1 ∙ sym b.1)
lex_refusal_is_one (BadNumber at) k l p q a b = (a.0 ∙ sym b.0, a.1 ∙ sym b.1)
lex_refusal_is_one Memory k l p q a b = absurd a

abbrev refused_as : LexError → Result Tokens LexError
refused_as e = Err e

err_injective : (a b : LexError) → refused_as a ≡ refused_as b → a ≡ b
err_injective a b e = cc

-- want of memory is none
no_memory : (e : LexError) (k : RelKind) (p : Place) → IsLexRefusal e k p → e ≡ Memory → ⊥
no_memory e k p a is = let Refusal : LexError → Type 0 = λ x. IsLexRefusal x k p in subst Refusal is a

-- tokens and a refusal don't go together
tokens_or_refusal : (text : List ℕ) (tokens : Tokens) (e : LexError) (k : RelKind) (p : Place) → Lexed text (Ok tokens) → Lexed text (Err e) → IsLexRefusal e k p → ⊥
tokens_or_refusal text tokens e k p lexed wrong is =
    let refusal : refused_as e ≢ refused_as Memory = λ same. no_memory e k p is (err_injective e Memory same) in
    let same : Ok tokens ≡ Err e = one_answer text (Ok tokens) (Err e) (λ other. cc) refusal lexed wrong in
    cc

abbrev tree_of : Plain → Result Plain ParseError
tree_of t = Ok t

abbrev no_tree_for : ParseError → Result Plain ParseError
no_tree_for e = Err e

fault_injective : (a b : ParseError) → no_tree_for a ≡ no_tree_for b → a ≡ b
fault_injective a b e = cc

-- want of memory is no fault of the tokens
no_parse_memory : (e : ParseError) (k : RelKind) (p : Place) → IsParseRefusal e k p → no_tree_for e ≢ no_tree_for parse.Memory
no_parse_memory e k p a same = let Refusal : ParseError → Type 0 = λ x. IsParseRefusal x k p in subst Refusal (fault_injective e parse.Memory same) a

-- a refusal of the parser's is for one thing, at one place
parse_refusal_is_one : (e : ParseError) (k l : RelKind) (p q : Place) → IsParseRefusal e k p → IsParseRefusal e l q → (k ≡ l) × (p ≡ q)
parse_refusal_is_one (parse.NoParse at) k l p q a b = (a.0 ∙ sym b.0, a.1 ∙ sym b.1)
parse_refusal_is_one (parse.TooDeep at) k l p q a b = (a.0 ∙ sym b.0, a.1 ∙ sym b.1)
parse_refusal_is_one parse.Memory k l p q a b = absurd a

-- a text with a tree is not refused for its tokens
tree_or_no_tokens : (text : List ℕ) (tree : Plain) (k : RelKind) (p : Place) → IsTreeOf text tree → LexerRefuses text k p → ⊥
tree_or_no_tokens text tree k p t r = tokens_or_refusal text t.tokens r.0 k p t.lexed r.1 r.2

no_tree_or_no_tokens : (text : List ℕ) (k l : RelKind) (p q : Place) → ParserRefuses text k p → LexerRefuses text l q → ⊥
no_tree_or_no_tokens text k l p q t r = tokens_or_refusal text t.0 r.0 l q t.1 r.1 r.2

tree_or_none : (text : List ℕ) (tree : Plain) (k : RelKind) (p : Place) → IsTreeOf text tree → ParserRefuses text k p → ⊥
tree_or_none text tree k p t r =
    let same : tree_of tree ≡ no_tree_for r.2.0 = parsed_is_one text t.tokens r.0 (tree_of tree) (no_tree_for r.2.0) t.lexed r.1 (λ other. cc) (no_parse_memory r.2.0 k p r.2.2) (parses text tree t) r.2.1 in
    cc

abbrev no_plan_for : TypeError → Result PlainNode TypeError
no_plan_for e = Err e

type_fault_injective : (a b : TypeError) → no_plan_for a ≡ no_plan_for b → a ≡ b
type_fault_injective a b e = cc

-- a refusal of the checker's is for one thing, at one place
type_refusal_is_one : (e : TypeError) (k l : RelKind) (p q : Place) → IsTypeRefusal e k p → IsTypeRefusal e l q → (k ≡ l) × (p ≡ q)
type_refusal_is_one (typing.NotDefined at words) k l p q a b = absurd a
type_refusal_is_one (typing.NotSingular at) k l p q a b = (a.0 ∙ sym b.0, a.1 ∙ sym b.1)
type_refusal_is_one (typing.Incompatible at) k l p q a b = (a.0 ∙ sym b.0, a.1 ∙ sym b.1)
type_refusal_is_one typing.Memory k l p q a b = absurd a

-- a text has one first fault in the order of checking
type_fault_is_one : (text : List ℕ) (t u : Plain) (d e : TypeError) → IsTreeOf text t → IsTreeOf text u → typed None t ≡ Err d → typed None u ≡ Err e → d ≡ e
type_fault_is_one text t u d e a b first second =
    let same : typed None t ≡ typed None u = ap (typed None) (tree_is_one text t u a b) in
    let faults : no_plan_for d ≡ no_plan_for e = sym first ∙ same ∙ second in
    type_fault_injective d e faults

-- a text that is well typed has none
plan_or_fault : (text : List ℕ) (t u : Plain) (plan : PlainNode) (e : TypeError) → IsTreeOf text t → IsTreeOf text u → typed None t ≡ Ok plan → typed None u ≡ Err e → ⊥
plan_or_fault text t u plan e a b well fault =
    let same : typed None t ≡ typed None u = ap (typed None) (tree_is_one text t u a b) in
    cc

-- nothing is defined of some words, and the checker refuses something else
undefined_or_refused : (e : TypeError) (k : RelKind) (p q : Place) (words : List ℕ) → e ≡ typing.NotDefined q words → IsTypeRefusal e k p → ⊥
undefined_or_refused e k p q words is r = let Refused : TypeError → Type 0 = λ x. IsTypeRefusal x k p in subst Refused is r

abbrev plan_at : PlainNode → Result PlainNode TypeError
plan_at n = Ok n

plan_injective : (a b : PlainNode) → plan_at a ≡ plan_at b → a ≡ b
plan_injective a b e = cc

-- a text has one plan
plan_is_one : (text : List ℕ) (m n : PlainNode) → IsPlanOf text m → IsPlanOf text n → m ≡ n
plan_is_one text m n a b =
    let same : typed None a.0 ≡ typed None b.0 = ap (typed None) (tree_is_one text a.0 b.0 a.1 b.1) in
    let plans : plan_at m ≡ plan_at n = sym a.2 ∙ same ∙ b.2 in
    plan_injective m n plans

-- a question is not refused
plan_or_refusal : (text : List ℕ) (n : PlainNode) (k : RelKind) (p : Place) → IsPlanOf text n → IsRefusedAs text k p → ⊥
plan_or_refusal text n k p q (inl r) = tree_or_no_tokens text q.0 k p q.1 r
plan_or_refusal text n k p q (inr (inl r)) = tree_or_none text q.0 k p q.1 r
plan_or_refusal text n k p q (inr (inr r)) = plan_or_fault text q.0 r.0 n r.2.0 q.1 r.1 q.2 r.2.1

-- something is defined of all its words
plan_or_undefined : (text : List ℕ) (n : PlainNode) (p : Place) (words : List ℕ) → IsPlanOf text n → IsUndefined text p words → ⊥
plan_or_undefined text n p words q u = plan_or_fault text q.0 u.0 n (typing.NotDefined p words) q.1 u.1 q.2 u.2

-- nothing is defined of some words, and the text is not refused for something else
refusal_or_undefined : (text : List ℕ) (k : RelKind) (p q : Place) (words : List ℕ) → IsRefusedAs text k p → IsUndefined text q words → ⊥
refusal_or_undefined text k p q words (inl r) u = tree_or_no_tokens text u.0 k p u.1 r
refusal_or_undefined text k p q words (inr (inl r)) u = tree_or_none text u.0 k p u.1 r
refusal_or_undefined text k p q words (inr (inr r)) u =
    undefined_or_refused r.2.0 k p q words (type_fault_is_one text r.0 u.0 r.2.0 (typing.NotDefined q words) r.1 u.1 r.2.1 u.2) r.2.2

-- the words are the first of which nothing is defined
undefined_is_one : (text : List ℕ) (p q : Place) (v w : List ℕ) → IsUndefined text p v → IsUndefined text q w → undefined p v ≡ undefined q w
undefined_is_one text p q v w a b =
    let same : typing.NotDefined p v ≡ typing.NotDefined q w = type_fault_is_one text a.0 b.0 (typing.NotDefined p v) (typing.NotDefined q w) a.1 b.1 a.2 b.2 in
    cc

no_tokens_for_one : (text : List ℕ) (k l : RelKind) (p q : Place) → LexerRefuses text k p → LexerRefuses text l q → (k ≡ l) × (p ≡ q)
no_tokens_for_one text k l p q a b =
    let first : refused_as a.0 ≢ refused_as Memory = λ same. no_memory a.0 k p a.2 (err_injective a.0 Memory same) in
    let second : refused_as b.0 ≢ refused_as Memory = λ same. no_memory b.0 l q b.2 (err_injective b.0 Memory same) in
    let answers : refused_as a.0 ≡ refused_as b.0 = one_answer text (Err a.0) (Err b.0) first second a.1 b.1 in
    let same : a.0 ≡ b.0 = err_injective a.0 b.0 answers in
    let Refusal : LexError → Type 0 = λ e. IsLexRefusal e k p in
    lex_refusal_is_one b.0 k l p q (subst Refusal same a.2) b.2

no_tree_for_one : (text : List ℕ) (k l : RelKind) (p q : Place) → ParserRefuses text k p → ParserRefuses text l q → (k ≡ l) × (p ≡ q)
no_tree_for_one text k l p q a b =
    let answers : no_tree_for a.2.0 ≡ no_tree_for b.2.0 = parsed_is_one text a.0 b.0 (no_tree_for a.2.0) (no_tree_for b.2.0) a.1 b.1 (no_parse_memory a.2.0 k p a.2.2) (no_parse_memory b.2.0 l q b.2.2) a.2.1 b.2.1 in
    let same : a.2.0 ≡ b.2.0 = fault_injective a.2.0 b.2.0 answers in
    let Refusal : ParseError → Type 0 = λ e. IsParseRefusal e k p in
    parse_refusal_is_one b.2.0 k l p q (subst Refusal same a.2.2) b.2.2

no_plan_for_one : (text : List ℕ) (k l : RelKind) (p q : Place) → CheckerRefuses text k p → CheckerRefuses text l q → (k ≡ l) × (p ≡ q)
no_plan_for_one text k l p q a b =
    let same : a.2.0 ≡ b.2.0 = type_fault_is_one text a.0 b.0 a.2.0 b.2.0 a.1 b.1 a.2.1 b.2.1 in
    let Refusal : TypeError → Type 0 = λ e. IsTypeRefusal e k p in
    type_refusal_is_one b.2.0 k l p q (subst Refusal same a.2.2) b.2.2

-- a text is refused for one thing, at one place
refusal_is_one : (text : List ℕ) (k l : RelKind) (p q : Place) → IsRefusedAs text k p → IsRefusedAs text l q → (k ≡ l) × (p ≡ q)
refusal_is_one text k l p q (inl a) (inl b) = no_tokens_for_one text k l p q a b
refusal_is_one text k l p q (inl a) (inr (inl b)) = absurd (no_tree_or_no_tokens text l k q p b a)
refusal_is_one text k l p q (inl a) (inr (inr b)) = absurd (tree_or_no_tokens text b.0 k p b.1 a)
refusal_is_one text k l p q (inr (inl a)) (inl b) = absurd (no_tree_or_no_tokens text k l p q a b)
refusal_is_one text k l p q (inr (inl a)) (inr (inl b)) = no_tree_for_one text k l p q a b
refusal_is_one text k l p q (inr (inl a)) (inr (inr b)) = absurd (tree_or_none text b.0 k p b.1 a)
refusal_is_one text k l p q (inr (inr a)) (inl b) = absurd (tree_or_no_tokens text a.0 l q a.1 b)
refusal_is_one text k l p q (inr (inr a)) (inr (inl b)) = absurd (tree_or_none text a.0 l q a.1 b)
refusal_is_one text k l p q (inr (inr a)) (inr (inr b)) = no_plan_for_one text k l p q a b

pub reading_is_one : (text : List ℕ) (x y : Reading) → Reads text x → Reads text y → x ≡ y
reading_is_one text (question m) (question n) a b = ap question (plan_is_one text m n a b)
reading_is_one text (question m) (refused k p) a b = absurd (plan_or_refusal text m k p a b)
reading_is_one text (question m) (undefined p v) a b = absurd (plan_or_undefined text m p v a b)
reading_is_one text (refused k p) (question n) a b = absurd (plan_or_refusal text n k p b a)
reading_is_one text (refused k p) (refused l q) a b =
    let same = refusal_is_one text k l p q a b in
    ap (λ x. refused x p) same.0 ∙ ap (λ x. refused l x) same.1
reading_is_one text (refused k p) (undefined q v) a b = absurd (refusal_or_undefined text k p q v a b)
reading_is_one text (undefined p v) (question n) a b = absurd (plan_or_undefined text n p v b a)
reading_is_one text (undefined p v) (refused k q) a b = absurd (refusal_or_undefined text k q p v b a)
reading_is_one text (undefined p v) (undefined q w) a b = undefined_is_one text p q v w a b
