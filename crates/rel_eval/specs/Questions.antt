-- What a text is: a question with its plan, or a text that is refused.
use Rattle.std.specs.Prelude.{◌≡◌, ◌⊎◌, ℕ, List, None, Ok, Err}
use Rattle.rel_lexer.specs.declared.place.Place.{Place}
use Rattle.rel_lexer.specs.declared.token_list.Tokens.{Tokens}
use Rattle.rel_lexer.specs.declared.error.LexError.{LexError}
use Rattle.rel_lexer.specs.Tokens.{Lexed}
use Rattle.rel_grammar.specs.declared.error.ParseError.{ParseError}
use Rattle.rel_grammar.specs.Shapes.{all_shaped}
use Rattle.rel_grammar.specs.Trees.{Plain}
use Rattle.rel_grammar.specs.Answers.{IsTreeOf, Parsed}
use Rattle.rel_types.specs.declared.error.TypeError.{TypeError}
use Rattle.rel_types.specs.declared.error.TypeError.TheVariants as typing
use Rattle.rel_types.specs.Plans.{PlainNode}
use Rattle.rel_types.specs.Shown.{shown_plan}
use Rattle.rel_types.specs.Typing.{typed}
use Rattle.rel_trace.specs.declared.kind.RelKind.{RelKind}
use Rattle.rel_eval.specs.declared.question.Question.{Question}
use Rattle.rel_eval.specs.Refusals.{IsLexRefusal, IsParseRefusal, IsTypeRefusal}

-- what a text can be
pub data Reading : Type 0 where
  -- a question, which is well typed
  question : (plan : PlainNode) → Reading
  -- refused for a kind of fault
  refused : (kind : RelKind) (place : Place) → Reading
  -- refused since nothing is defined of some words
  undefined : (place : Place) (words : List ℕ) → Reading

-- The tree is this: it is well typed and this is its plan, or the checker refuses it for this, at this place, or finds that nothing is
-- defined of these words, at this place.
abbrev pub TreeReads : Plain → Reading → Type 0
TreeReads tree (question plan) = typed None tree ≡ Ok plan
TreeReads tree (refused kind place) = (error : TypeError) × (typed None tree ≡ Err error) × IsTypeRefusal error kind place
TreeReads tree (undefined place words) = typed None tree ≡ Err (typing.NotDefined place words)

-- The text has a tree, which is this.
abbrev pub HasTree : List ℕ → Reading → Type 0
HasTree text reading = (tree : Plain) × IsTreeOf text tree × TreeReads tree reading

-- The text has a tree, which is well typed, and this is its plan.
abbrev pub IsPlanOf : List ℕ → PlainNode → Type 0
IsPlanOf text plan = HasTree text (question plan)

-- The lexer refuses the text for this, at this place.
abbrev pub LexerRefuses : List ℕ → RelKind → Place → Type 0
LexerRefuses text kind place = (error : LexError) × Lexed text (Err error) × IsLexRefusal error kind place

-- The text has tokens, which the parser refuses for this, at this place.
abbrev pub ParserRefuses : List ℕ → RelKind → Place → Type 0
ParserRefuses text kind place = (tokens : Tokens) × Lexed text (Ok tokens) × ((error : ParseError) × Parsed tokens.end (all_shaped tokens.list) (Err error) × IsParseRefusal error kind place)

-- The text has a tree, which the checker refuses for this, at this place.
abbrev pub CheckerRefuses : List ℕ → RelKind → Place → Type 0
CheckerRefuses text kind place = HasTree text (refused kind place)

-- The text is refused for this, at this place.
abbrev pub IsRefusedAs : List ℕ → RelKind → Place → Type 0
IsRefusedAs text kind place = LexerRefuses text kind place ⊎ ParserRefuses text kind place ⊎ CheckerRefuses text kind place

-- The text has a tree, in which nothing is defined of these words at this place, and there is no fault before it.
abbrev pub IsUndefined : List ℕ → Place → List ℕ → Type 0
IsUndefined text place words = HasTree text (undefined place words)

-- The text is this.
abbrev pub Reads : List ℕ → Reading → Type 0
Reads text (question plan) = IsPlanOf text plan
Reads text (refused kind place) = IsRefusedAs text kind place
Reads text (undefined place words) = IsUndefined text place words

-- the plan of a question of the code
abbrev pub plan_of : Question → PlainNode
plan_of q = shown_plan q.plan
