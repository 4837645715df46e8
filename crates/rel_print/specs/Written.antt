-- What is written for a tree: the pen after it, from the pen before. Only private functions cite it.
use Rattle.std.specs.Prelude.{Bool, true, false, ◌&&◌, List, [], ◌∷◌, codes}
use Rattle.rel_lexer.specs.declared.sign.Sign.{Sign}
use Rattle.rel_lexer.specs.declared.sign.Sign.TheVariants as lex
use Rattle.rel_lexer.specs.declared.operator.UnarySign.{UnarySign}
use Rattle.rel_lexer.specs.declared.operator.UnarySign.TheVariants as one_operand
use Rattle.rel_lexer.specs.declared.operator.BinarySign.{BinarySign}
use Rattle.rel_lexer.specs.declared.operator.BinarySign.TheVariants as operator
use Rattle.rel_grammar.specs.declared.casts.CastTo.{CastTo}
use Rattle.rel_print.specs.declared.pen.Pen.{Pen}
use Rattle.rel_grammar.specs.Trees.{Plain, numeral, literal, it, phrase, body, cast, unary, chain, conditional, tuple, collection, Held, no_tree, a_tree, Linked, no_links, more_links, Parts, no_parts, more_parts}
use Rattle.rel_print.specs.Pages.{put_words, put_number, put_sign, put_string}

abbrev pub written_unary : UnarySign → Pen → Pen
written_unary one_operand.Not pen = put_words (codes "not") pen
written_unary one_operand.Exists pen = put_words (codes "exists") pen
written_unary one_operand.Exist pen = put_words (codes "exist") pen
written_unary one_operand.Minus pen = put_sign lex.Minus pen

abbrev pub written_binary : BinarySign → Pen → Pen
written_binary operator.Bar pen = put_sign lex.Bar pen
written_binary operator.Or pen = put_words (codes "or") pen
written_binary operator.And pen = put_words (codes "and") pen
written_binary operator.Equal pen = put_sign lex.Equal pen
written_binary operator.NotEqual pen = put_sign lex.NotEqual pen
written_binary operator.Less pen = put_sign lex.Less pen
written_binary operator.LessOrEqual pen = put_sign lex.LessOrEqual pen
written_binary operator.Greater pen = put_sign lex.Greater pen
written_binary operator.GreaterOrEqual pen = put_sign lex.GreaterOrEqual pen
written_binary operator.Is pen = put_words (codes "is") pen
written_binary operator.IsNot pen = put_words (codes "is not") pen
written_binary operator.IsContainedBy pen = put_words (codes "is contained by") pen
written_binary operator.IsNotContainedBy pen = put_words (codes "is not contained by") pen
written_binary operator.Contains pen = put_words (codes "contains") pen
written_binary operator.StartsWith pen = put_words (codes "starts with") pen
written_binary operator.EndsWith pen = put_words (codes "ends with") pen
written_binary operator.DoesNotContain pen = put_words (codes "does not contain") pen
written_binary operator.DoesNotStartWith pen = put_words (codes "does not start with") pen
written_binary operator.DoesNotEndWith pen = put_words (codes "does not end with") pen
written_binary operator.Plus pen = put_sign lex.Plus pen
written_binary operator.Minus pen = put_sign lex.Minus pen
written_binary operator.Join pen = put_sign lex.Ampersand pen
written_binary operator.Times pen = put_sign lex.Times pen
written_binary operator.Over pen = put_sign lex.Slash pen
written_binary operator.Mod pen = put_words (codes "mod") pen

abbrev pub written_casts : List CastTo → Pen → Pen
written_casts [] pen = pen
written_casts (c ∷ cs) pen = written_casts cs (put_words c.words (put_words (codes "as") pen))

-- a number, a string or `it`
abbrev pub is_single : Plain → Bool
is_single (numeral p n) = true
is_single (literal p t) = true
is_single (it p) = true
is_single _ = false

abbrev pub is_tree : Held → Bool
is_tree no_tree = false
is_tree (a_tree t) = true

-- a filter or an object follows
abbrev pub followed : Held → Held → Bool
followed no_tree o = is_tree o
followed (a_tree f) o = true

-- in brackets, where they are needed
abbrev pub in_brackets_unless : Bool → (Pen → Pen) → Pen → Pen
in_brackets_unless true write pen = write pen
in_brackets_unless false write pen = put_sign lex.CloseBracket (write (put_sign lex.OpenBracket pen))

-- a sign behind parts, if there are some
abbrev pub separated : Sign → Parts → Pen → Pen
separated s no_parts pen = pen
separated s (more_parts ps t) pen = put_sign s pen

abbrev mutual
  pub written : Plain → Pen → Pen
  written (numeral p n) pen = put_number n pen
  written (literal p t) pen = put_string t pen
  written (it p) pen = put_words (codes "it") pen
  written (phrase p w a f o) pen = written_object o (written_filter f (written_argument a (put_words w pen)))
  written (body p b f o) pen = written_object o (written_filter f (in_brackets_unless (followed f o && is_single b) (written b) pen))
  written (cast t cs) pen = written_casts cs (written t pen)
  written (unary p s t) pen = written t (written_unary s pen)
  written (chain t ls) pen = written_links ls (written t pen)
  written (conditional p t y n) pen = written n (put_words (codes "else") (written y (put_words (codes "then") (written t (put_words (codes "if") pen)))))
  written (tuple ps) pen = written_parts lex.Comma ps pen
  written (collection ps) pen = written_parts lex.Semicolon ps pen

  pub written_argument : Held → Pen → Pen
  written_argument no_tree pen = pen
  written_argument (a_tree t) pen = written t pen

  pub written_filter : Held → Pen → Pen
  written_filter no_tree pen = pen
  written_filter (a_tree t) pen = written t (put_words (codes "whose") pen)

  pub written_object : Held → Pen → Pen
  written_object no_tree pen = pen
  written_object (a_tree t) pen = written t (put_words (codes "of") pen)

  pub written_links : Linked → Pen → Pen
  written_links no_links pen = pen
  written_links (more_links ls p s t) pen = written t (written_binary s (written_links ls pen))

  pub written_parts : Sign → Parts → Pen → Pen
  written_parts sign no_parts pen = pen
  written_parts sign (more_parts ps t) pen = written t (separated sign ps (written_parts sign ps pen))

-- the body of a head, as `written` has it, where a filter or an object follows or none does; the code's function is told which
abbrev pub written_head : Bool → Plain → Pen → Pen
written_head follows b pen = in_brackets_unless (follows && is_single b) (written b) pen
