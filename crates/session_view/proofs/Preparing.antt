-- What a text is as a question over the tables, by its tree.
use Rattle.std.proofs.Common.{◌≡◌, ℕ, List, Option, Result, None, Some, Ok, Err, inl, inr, refl, subst}
use Rattle.rel_lexer.specs.declared.error.LexError.{LexError}
use Rattle.rel_lexer.specs.declared.place.Place.{Place}
use Rattle.rel_lexer.specs.declared.token_list.Tokens.{Tokens}
use Rattle.rel_lexer.specs.Tokens.{Lexed}
use Rattle.rel_grammar.specs.declared.error.ParseError.{ParseError}
use Rattle.rel_grammar.specs.Answers.{IsTreeOf, Parsed}
use Rattle.rel_grammar.specs.Shapes.{all_shaped}
use Rattle.rel_grammar.specs.Trees.{Plain}
use Rattle.rel_trace.specs.declared.kind.RelKind.TheVariants.{TooDeep}
use Rattle.rel_eval.specs.Answers.{PreparesAs, PreparesTree}
use Rattle.rel_eval.specs.Questions.{plan_of, question, refused, undefined}
use Rattle.rel_eval.specs.Refusals.{IsRefusalOf, IsRefusalOfParser}
use Rattle.rel_eval.specs.declared.question.Question.{Question}
use Rattle.rel_eval.specs.declared.refusal.Refusal.{Refusal}
use Rattle.rel_eval.specs.declared.refusal.Refusal.TheVariants.{At, NotDefined, Memory}
use Rattle.session_words.specs.Depths.{too_deep}
use Rattle.session_view.specs.Readings.{ReadsReplaced, SessionReads}
use Rattle.session_words.specs.Replaced.{replaced}

pub no_tokens : (text : List ℕ) (e : LexError) (refusal : Refusal) → Lexed text (Err e) → IsRefusalOf e refusal → PreparesAs (SessionReads text) (Err refusal)
no_tokens text e (At kind place) lexed is = inl (inl (e, lexed, is))
no_tokens text e (NotDefined place words) lexed is = absurd is
no_tokens text e Memory lexed is = tt

pub no_tree : (text : List ℕ) (tokens : Tokens) (e : ParseError) (refusal : Refusal) → Lexed text (Ok tokens)
    → Parsed tokens.end (all_shaped tokens.list) (Err e) → IsRefusalOfParser e refusal → PreparesAs (SessionReads text) (Err refusal)
no_tree text tokens e (At kind place) lexed parsed is = inl (inr (tokens, lexed, (e, parsed, is)))
no_tree text tokens e (NotDefined place words) lexed parsed is = absurd is
no_tree text tokens e Memory lexed parsed is = tt

pub deep_tree : (text : List ℕ) (tree : Plain) (place : Place) → IsTreeOf text tree → Some place ≡ too_deep 0 tree → SessionReads text (refused TooDeep place)
deep_tree text tree place is deep =
    let Is : Option Place → Type 0 = λ o. ReadsReplaced tree o (refused TooDeep place) in
    inr (tree, is, subst Is deep refl)

pub shallow_tree : (text : List ℕ) (tree : Plain) (answer : Result Question Refusal) → IsTreeOf text tree → None ≡ too_deep 0 tree → PreparesTree (replaced tree) answer
    → PreparesAs (SessionReads text) answer
shallow_tree text tree (Ok prepared) is shallow answers =
    let Is : Option Place → Type 0 = λ o. ReadsReplaced tree o (question (plan_of prepared)) in
    inr (tree, is, subst Is shallow answers)
shallow_tree text tree (Err (At kind place)) is shallow answers =
    let Is : Option Place → Type 0 = λ o. ReadsReplaced tree o (refused kind place) in
    inr (tree, is, subst Is shallow answers)
shallow_tree text tree (Err (NotDefined place words)) is shallow answers =
    let Is : Option Place → Type 0 = λ o. ReadsReplaced tree o (undefined place words) in
    inr (tree, is, subst Is shallow answers)
shallow_tree text tree (Err Memory) is shallow answers = tt
