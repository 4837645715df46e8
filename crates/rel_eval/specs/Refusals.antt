-- The refusals of the layers below, as refusals of a question, and what is told of one without its words.
use Rattle.std.specs.Prelude.{◌≡◌, Option, Some, None}
use Rattle.rel_eval.specs.declared.refusal.Refusal.{Refusal}
use Rattle.rel_eval.specs.declared.refusal.Refusal.TheVariants.{At, NotDefined, Memory}
use Rattle.rel_eval.specs.declared.refusal.Located.{Located}
use Rattle.rel_trace.specs.declared.kind.RelKind.{RelKind}
use Rattle.rel_trace.specs.declared.kind.RelKind.TheVariants.{BadByte, BadEscape, UnclosedString, UnclosedComment, TooLong, NoParse, TooDeep, NotSingular, Incompatible, BadNumber}
use Rattle.rel_trace.specs.declared.kind.RelKind.TheVariants as of_kind
use Rattle.rel_lexer.specs.declared.place.Place.{Place}
use Rattle.rel_lexer.specs.declared.error.LexError.{LexError}
use Rattle.rel_lexer.specs.declared.error.LexError.TheVariants as lex
use Rattle.rel_grammar.specs.declared.error.ParseError.{ParseError}
use Rattle.rel_grammar.specs.declared.error.ParseError.TheVariants as parse
use Rattle.rel_types.specs.declared.error.TypeError.{TypeError}
use Rattle.rel_types.specs.declared.error.TypeError.TheVariants as typing

-- the start of the text, and no byte of it
abbrev pub nowhere : Place
nowhere = record { from = 0; to = 0 }

-- The lexer's refusal is one for this, at this place.
abbrev pub IsLexRefusal : LexError → RelKind → Place → Type 0
IsLexRefusal (lex.BadByte at) kind place = (kind ≡ BadByte) × (place ≡ at)
IsLexRefusal (lex.BadEscape at) kind place = (kind ≡ BadEscape) × (place ≡ at)
IsLexRefusal (lex.UnclosedString at) kind place = (kind ≡ UnclosedString) × (place ≡ at)
IsLexRefusal (lex.UnclosedComment at) kind place = (kind ≡ UnclosedComment) × (place ≡ at)
IsLexRefusal lex.TooLong kind place = (kind ≡ TooLong) × (place ≡ nowhere)
IsLexRefusal (lex.BadNumber at) kind place = (kind ≡ BadNumber) × (place ≡ at)
IsLexRefusal lex.Memory kind place = ⊥

-- The parser's refusal is one for this, at this place.
abbrev pub IsParseRefusal : ParseError → RelKind → Place → Type 0
IsParseRefusal (parse.NoParse at) kind place = (kind ≡ NoParse) × (place ≡ at)
IsParseRefusal (parse.TooDeep at) kind place = (kind ≡ TooDeep) × (place ≡ at)
IsParseRefusal parse.Memory kind place = ⊥

-- The checker's refusal is one for this, at this place. That nothing is defined of some words is a refusal of its own.
abbrev pub IsTypeRefusal : TypeError → RelKind → Place → Type 0
IsTypeRefusal (typing.NotDefined at words) kind place = ⊥
IsTypeRefusal (typing.NotSingular at) kind place = (kind ≡ NotSingular) × (place ≡ at)
IsTypeRefusal (typing.Incompatible at) kind place = (kind ≡ Incompatible) × (place ≡ at)
IsTypeRefusal typing.Memory kind place = ⊥

-- The refusal is the lexer's.
abbrev pub IsRefusalOf : LexError → Refusal → Type 0
IsRefusalOf error (At kind place) = IsLexRefusal error kind place
IsRefusalOf error (NotDefined place words) = ⊥
IsRefusalOf error Memory = error ≡ lex.Memory

-- The refusal is the parser's.
abbrev pub IsRefusalOfParser : ParseError → Refusal → Type 0
IsRefusalOfParser error (At kind place) = IsParseRefusal error kind place
IsRefusalOfParser error (NotDefined place words) = ⊥
IsRefusalOfParser error Memory = error ≡ parse.Memory

-- The refusal is the checker's.
abbrev pub IsRefusalOfChecker : TypeError → Refusal → Type 0
IsRefusalOfChecker error (At kind place) = IsTypeRefusal error kind place
IsRefusalOfChecker error (NotDefined place words) = error ≡ typing.NotDefined place words
IsRefusalOfChecker error Memory = error ≡ typing.Memory

-- What a refusal is for and where, without its words. Want of memory is for nothing in the text.
abbrev pub located : Refusal → Option Located
located (At kind place) = Some (record { kind = kind; place = place })
located (NotDefined place words) = Some (record { kind = of_kind.NotDefined; place = place })
located Memory = None
