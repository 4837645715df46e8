-- How a text is read as a question over the tables.
use Rattle.std.specs.Prelude.{◌≡◌, ◌⊎◌, ℕ, List, Option, None, Some}
use Rattle.rel_lexer.specs.declared.place.Place.{Place}
use Rattle.rel_grammar.specs.Answers.{IsTreeOf}
use Rattle.rel_grammar.specs.Trees.{Plain}
use Rattle.rel_trace.specs.declared.kind.RelKind.TheVariants.{TooDeep}
use Rattle.rel_eval.specs.Questions.{Reading, refused, LexerRefuses, ParserRefuses, TreeReads}
use Rattle.session_words.specs.Depths.{too_deep}
use Rattle.session_words.specs.Replaced.{replaced}

-- The text is refused for its tokens.
abbrev pub IsRefusedBefore : List ℕ → Reading → Type 0
IsRefusedBefore text (refused kind place) = LexerRefuses text kind place ⊎ ParserRefuses text kind place
IsRefusedBefore text _ = ⊥

-- The tree is refused where a phrase is too deep, and is else what it is with its words replaced.
abbrev pub ReadsReplaced : Plain → Option Place → Reading → Type 0
ReadsReplaced tree (Some place) reading = reading ≡ refused TooDeep place
ReadsReplaced tree None reading = TreeReads (replaced tree) reading

-- The text has a tree, which is this.
abbrev pub HasSessionTree : List ℕ → Reading → Type 0
HasSessionTree text reading = (tree : Plain) × IsTreeOf text tree × ReadsReplaced tree (too_deep 0 tree) reading

-- The text is this as a question over the tables.
abbrev pub SessionReads : List ℕ → Reading → Type 0
SessionReads text reading = IsRefusedBefore text reading ⊎ HasSessionTree text reading
