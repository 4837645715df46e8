-- A text is one thing as a question over the tables.
use Rattle.std.proofs.Common.{◌≡◌, ◌≢◌, ℕ, List, Option, Result, None, Some, Ok, Err, inl, inr, sym, ap, ◌∙◌, subst}
use Rattle.rel_lexer.specs.declared.place.Place.{Place}
use Rattle.rel_lexer.specs.declared.token_list.Tokens.{Tokens}
use Rattle.rel_lexer.specs.declared.error.LexError.{LexError}
use Rattle.rel_lexer.specs.declared.error.LexError.TheVariants as lex
use Rattle.rel_lexer.proofs.OneAnswer.{one_answer}
use Rattle.rel_grammar.specs.declared.error.ParseError.{ParseError}
use Rattle.rel_grammar.specs.declared.error.ParseError.TheVariants as parse
use Rattle.rel_grammar.specs.Trees.{Plain}
use Rattle.rel_grammar.specs.Answers.{IsTreeOf}
use Rattle.rel_grammar.proofs.OneTree.{parsed_is_one, parses, tree_is_one}
use Rattle.rel_types.specs.declared.error.TypeError.{TypeError}
use Rattle.rel_types.specs.declared.error.TypeError.TheVariants as typing
use Rattle.rel_types.specs.Plans.{PlainNode}
use Rattle.rel_types.specs.Typing.{typed}
use Rattle.rel_trace.specs.declared.kind.RelKind.{RelKind}
use Rattle.rel_eval.specs.Refusals.{IsLexRefusal, IsParseRefusal, IsTypeRefusal}
use Rattle.rel_eval.specs.Questions.{LexerRefuses, ParserRefuses, Reading, question, refused, undefined, Reads, TreeReads}
use Rattle.rel_eval.proofs.OnePlan.{reading_is_one}
use Rattle.session_words.specs.Depths.{too_deep}
use Rattle.session_view.specs.Readings.{IsRefusedBefore, ReadsReplaced, HasSessionTree, SessionReads}

-- ---- a text with a tree isn't refused for its tokens
abbrev no_tokens : LexError → Result Tokens LexError
no_tokens e = Err e

no_tokens_injective : (a b : LexError) → no_tokens a ≡ no_tokens b → a ≡ b
no_tokens_injective a b e = cc

-- want of memory is no fault of the text
lexer_has_memory : (e : LexError) (k : RelKind) (p : Place) → IsLexRefusal e k p → no_tokens e ≢ no_tokens lex.Memory
lexer_has_memory e k p is same =
    let Refusal : LexError → Type 0 = λ x. IsLexRefusal x k p in
    subst Refusal (no_tokens_injective e lex.Memory same) is

tree_or_no_tokens : (text : List ℕ) (tree : Plain) (k : RelKind) (p : Place) → IsTreeOf text tree → LexerRefuses text k p → ⊥
tree_or_no_tokens text tree k p t r =
    let same : Ok t.tokens ≡ no_tokens r.0 =
    one_answer text (Ok t.tokens) (no_tokens r.0) (λ other. cc) (lexer_has_memory r.0 k p r.2) t.lexed r.1 in
    cc

abbrev the_tree : Plain → Result Plain ParseError
the_tree t = Ok t

abbrev no_tree_for : ParseError → Result Plain ParseError
no_tree_for e = Err e

no_tree_injective : (a b : ParseError) → no_tree_for a ≡ no_tree_for b → a ≡ b
no_tree_injective a b e = cc

parser_has_memory : (e : ParseError) (k : RelKind) (p : Place) → IsParseRefusal e k p → no_tree_for e ≢ no_tree_for parse.Memory
parser_has_memory e k p is same =
    let Refusal : ParseError → Type 0 = λ x. IsParseRefusal x k p in
    subst Refusal (no_tree_injective e parse.Memory same) is

tree_or_none : (text : List ℕ) (tree : Plain) (k : RelKind) (p : Place) → IsTreeOf text tree → ParserRefuses text k p → ⊥
tree_or_none text tree k p t r =
    let same : the_tree tree ≡ no_tree_for r.2.0 =
    parsed_is_one text t.tokens r.0 (the_tree tree) (no_tree_for r.2.0) t.lexed r.1 (λ other. cc)
    (parser_has_memory r.2.0 k p r.2.2) (parses text tree t) r.2.1 in
    cc

tree_or_refused : (text : List ℕ) (tree : Plain) (x : Reading) → IsTreeOf text tree → IsRefusedBefore text x → ⊥
tree_or_refused text tree (question plan) t r = r
tree_or_refused text tree (refused k p) t (inl r) = tree_or_no_tokens text tree k p t r
tree_or_refused text tree (refused k p) t (inr r) = tree_or_none text tree k p t r
tree_or_refused text tree (undefined p words) t r = r

-- ---- a text is refused for one thing before it has a tree, as by itself
plainly : (text : List ℕ) (x : Reading) → IsRefusedBefore text x → Reads text x
plainly text (question plan) r = absurd r
plainly text (refused k p) (inl r) = inl r
plainly text (refused k p) (inr r) = inr (inl r)
plainly text (undefined p words) r = absurd r

-- ---- a tree is one thing
abbrev plan_at : PlainNode → Result PlainNode TypeError
plan_at n = Ok n

abbrev no_plan_for : TypeError → Result PlainNode TypeError
no_plan_for e = Err e

plan_injective : (a b : PlainNode) → plan_at a ≡ plan_at b → a ≡ b
plan_injective a b e = cc

no_plan_injective : (a b : TypeError) → no_plan_for a ≡ no_plan_for b → a ≡ b
no_plan_injective a b e = cc

plan_or_fault : (t : Plain) (n : PlainNode) (e : TypeError) → typed None t ≡ plan_at n → typed None t ≡ no_plan_for e → ⊥
plan_or_fault t n e well fault = let same : plan_at n ≡ no_plan_for e = sym well ∙ fault in cc

fault_is_one : (t : Plain) (d e : TypeError) → typed None t ≡ no_plan_for d → typed None t ≡ no_plan_for e → d ≡ e
fault_is_one t d e first second = no_plan_injective d e (sym first ∙ second)

type_refusal_is_one : (e : TypeError) (k l : RelKind) (p q : Place) → IsTypeRefusal e k p → IsTypeRefusal e l q
    → refused k p ≡ refused l q
type_refusal_is_one (typing.NotDefined at words) k l p q a b = absurd a
type_refusal_is_one (typing.NotSingular at) k l p q a b =
    ap (λ x. refused x p) (a.0 ∙ sym b.0) ∙ ap (λ x. refused l x) (a.1 ∙ sym b.1)
type_refusal_is_one (typing.Incompatible at) k l p q a b =
    ap (λ x. refused x p) (a.0 ∙ sym b.0) ∙ ap (λ x. refused l x) (a.1 ∙ sym b.1)
type_refusal_is_one typing.Memory k l p q a b = absurd a

undefined_or_refused : (e : TypeError) (k : RelKind) (p q : Place) (words : List ℕ) → e ≡ typing.NotDefined q words → IsTypeRefusal e k p → ⊥
undefined_or_refused e k p q words is r = let Refused : TypeError → Type 0 = λ x. IsTypeRefusal x k p in subst Refused is r

undefined_is_one : (p q : Place) (v w : List ℕ) → typing.NotDefined p v ≡ typing.NotDefined q w → undefined p v ≡ undefined q w
undefined_is_one p q v w e = cc

tree_is_one_thing : (t : Plain) (x y : Reading) → TreeReads t x → TreeReads t y → x ≡ y
tree_is_one_thing t (question m) (question n) a b = ap question (plan_injective m n (sym a ∙ b))
tree_is_one_thing t (question m) (refused k p) a b = absurd (plan_or_fault t m b.0 a b.1)
tree_is_one_thing t (question m) (undefined p v) a b = absurd (plan_or_fault t m (typing.NotDefined p v) a b)
tree_is_one_thing t (refused k p) (question n) a b = absurd (plan_or_fault t n a.0 b a.1)
tree_is_one_thing t (refused k p) (refused l q) a b =
    let same : a.0 ≡ b.0 = fault_is_one t a.0 b.0 a.1 b.1 in
    let Refusal : TypeError → Type 0 = λ e. IsTypeRefusal e k p in
    type_refusal_is_one b.0 k l p q (subst Refusal same a.2) b.2
tree_is_one_thing t (refused k p) (undefined q v) a b =
    absurd (undefined_or_refused a.0 k p q v (fault_is_one t a.0 (typing.NotDefined q v) a.1 b) a.2)
tree_is_one_thing t (undefined p v) (question n) a b = absurd (plan_or_fault t n (typing.NotDefined p v) b a)
tree_is_one_thing t (undefined p v) (refused k q) a b =
    absurd (undefined_or_refused b.0 k q p v (fault_is_one t b.0 (typing.NotDefined p v) b.1 a) b.2)
tree_is_one_thing t (undefined p v) (undefined q w) a b =
    undefined_is_one p q v w (fault_is_one t (typing.NotDefined p v) (typing.NotDefined q w) a b)

one_replaced : (t : Plain) (deep : Option Place) (x y : Reading) → ReadsReplaced t deep x → ReadsReplaced t deep y → x ≡ y
one_replaced t (Some place) x y a b = a ∙ sym b
one_replaced t None x y a b = tree_is_one_thing _ x y a b

one_tree_reading : (text : List ℕ) (x y : Reading) → HasSessionTree text x → HasSessionTree text y → x ≡ y
one_tree_reading text x y a b =
    let Is : Plain → Type 0 = λ t. ReadsReplaced t (too_deep 0 t) y in
    one_replaced a.0 (too_deep 0 a.0) x y a.2 (subst Is (tree_is_one text b.0 a.0 b.1 a.1) b.2)

pub session_reading : (text : List ℕ) (x y : Reading) → SessionReads text x → SessionReads text y → x ≡ y
session_reading text x y (inl a) (inl b) = reading_is_one text x y (plainly text x a) (plainly text y b)
session_reading text x y (inl a) (inr b) = absurd (tree_or_refused text b.0 x b.1 a)
session_reading text x y (inr a) (inl b) = absurd (tree_or_refused text a.0 y a.1 b)
session_reading text x y (inr a) (inr b) = one_tree_reading text x y a b
