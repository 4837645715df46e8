-- A text has one tree. Other crates may cite these lemmas.
use Rattle.std.proofs.Common.{◌≡◌, ◌≢◌, ℕ, List, Result, Ok, Err, sym, subst}
use Rattle.rel_lexer.specs.declared.token_list.Tokens.{Tokens}
use Rattle.rel_lexer.specs.Tokens.{Lexed}
use Rattle.rel_lexer.proofs.OneAnswer as lexer
use Rattle.rel_grammar.specs.declared.error.ParseError.{ParseError}
use Rattle.rel_grammar.specs.declared.error.ParseError.TheVariants.{Memory}
use Rattle.rel_grammar.specs.Shapes.{all_shaped}
use Rattle.rel_grammar.specs.Trees.{Plain}
use Rattle.rel_grammar.specs.Answers.{IsTreeOf, Parses, Parsed}
use Rattle.rel_grammar.proofs.OneAnswer.{one_answer}

-- the tokens of a text are one list
tokens_are_one : (text : List ℕ) (a b : Tokens) → Lexed text (Ok a) → Lexed text (Ok b) → a ≡ b
tokens_are_one text a b f g =
    let same : Ok a ≡ Ok b = lexer.one_answer text (Ok a) (Ok b) (λ other. cc) (λ other. cc) f g in
    cc

-- what the tokens of a text are parsed as
abbrev pub ParsedAs : Result Plain ParseError → Tokens → Type 0
ParsedAs r tokens = Parsed tokens.end (all_shaped tokens.list) r

-- the tokens of a text are parsed in one way
pub parsed_is_one : (text : List ℕ) (a b : Tokens) (r s : Result Plain ParseError) → Lexed text (Ok a) → Lexed text (Ok b) → r ≢ Err Memory → s ≢ Err Memory → ParsedAs r a → ParsedAs s b → r ≡ s
parsed_is_one text a b r s f g no_r no_s h k =
    let same : ParsedAs s a = subst (ParsedAs s) (sym (tokens_are_one text a b f g)) k in
    one_answer a.end (all_shaped a.list) r s no_r no_s h same

-- how the tokens of a text with a tree are parsed
pub parses : (text : List ℕ) (tree : Plain) → (t : IsTreeOf text tree) → Parses (all_shaped t.tokens.list) tree
parses text tree t = (t.question, t.sentence, t.shallow, t.tree_is)

abbrev tree_of : Plain → Result Plain ParseError
tree_of t = Ok t

tree_injective : (a b : Plain) → tree_of a ≡ tree_of b → a ≡ b
tree_injective a b e = cc

pub tree_is_one : (text : List ℕ) (a b : Plain) → IsTreeOf text a → IsTreeOf text b → a ≡ b
tree_is_one text a b f g = tree_injective a b (parsed_is_one text f.tokens g.tokens (tree_of a) (tree_of b) f.lexed g.lexed (λ other. cc) (λ other. cc) (parses text a f) (parses text b g))
