-- What parsing answers.
use Rattle.std.specs.Prelude.{◌≡◌, ⊤, ℕ, List, [], ◌∷◌, Result, Ok, Err}
use Rattle.rel_lexer.specs.declared.place.Place.{Place}
use Rattle.rel_lexer.specs.declared.token_list.Tokens.{Tokens}
use Rattle.rel_lexer.specs.Tokens.{Lexed}
use Rattle.rel_grammar.specs.declared.error.ParseError.{ParseError}
use Rattle.rel_grammar.specs.declared.error.ParseError.TheVariants.{NoParse, TooDeep, Memory}
use Rattle.rel_grammar.specs.Shapes.{Shaped, all_shaped}
use Rattle.rel_grammar.specs.Grammar.{Question}
use Rattle.rel_grammar.specs.Sentences.{Sentence, IsShallow, IsUnparsed, IsTooDeep, question_marks}
use Rattle.rel_grammar.specs.Trees.{Plain, question_tree}

-- the place of the next token, or of the end of the text
abbrev pub place_of : ℕ → List Shaped → Place
place_of end [] = record { from = end; to = end }
place_of end (t ∷ ts) = t.place

-- The tree is that of a reading of the tokens, none of which stands too deep.
abbrev pub Parses : List Shaped → Plain → Type 0
Parses tokens tree = (q : Question) × Sentence tokens q × IsShallow (question_marks q) × (tree ≡ question_tree q)

-- The tokens of a text of so many bytes are refused, at the place of the first of them that is wrong. Want of memory may come
-- whatever they are.
abbrev pub Refuses : ℕ → List Shaped → ParseError → Type 0
Refuses end tokens (NoParse p) = (left : List Shaped) × IsUnparsed tokens left × (p ≡ place_of end left)
Refuses end tokens (TooDeep p) = (left : List Shaped) × IsTooDeep tokens left × (p ≡ place_of end left)
Refuses end tokens Memory = ⊤

-- the tree of the tokens, or their refusal
abbrev pub Parsed : ℕ → List Shaped → Result Plain ParseError → Type 0
Parsed end tokens (Ok tree) = Parses tokens tree
Parsed end tokens (Err error) = Refuses end tokens error

-- The tree is that of the reading of a text's tokens, none of which stands too deep.
pub record IsTreeOf (text : List ℕ) (tree : Plain) : Type 0 where
  pub tokens : Tokens
  pub lexed : Lexed text (Ok tokens)
  pub question : Question
  pub sentence : Sentence (all_shaped tokens.list) question
  pub shallow : IsShallow (question_marks question)
  pub tree_is : tree ≡ question_tree question
