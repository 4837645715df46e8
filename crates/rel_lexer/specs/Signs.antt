-- The signs, as they are spelled.
use Rattle.std.specs.Prelude.{◌≡◌, ℕ, List, ◌++◌, codes, ⊤}
use Rattle.rel_lexer.specs.declared.sign.Sign.{Sign}
use Rattle.rel_lexer.specs.declared.sign.Sign.TheVariants.{OpenBracket, CloseBracket, Semicolon, Comma, Plus, Minus, Times, Slash, Ampersand, Equal, NotEqual, Less, LessOrEqual, Greater, GreaterOrEqual, Bar}
use Rattle.rel_lexer.specs.Bytes.{NotNext}

-- the bytes of a sign
abbrev pub spelling : Sign → List ℕ
spelling OpenBracket = codes "("
spelling CloseBracket = codes ")"
spelling Semicolon = codes ";"
spelling Comma = codes ","
spelling Plus = codes "+"
spelling Minus = codes "-"
spelling Times = codes "*"
spelling Slash = codes "/"
spelling Ampersand = codes "&"
spelling Equal = codes "="
spelling NotEqual = codes "!="
spelling Less = codes "<"
spelling LessOrEqual = codes "<="
spelling Greater = codes ">"
spelling GreaterOrEqual = codes ">="
spelling Bar = codes "|"

-- Before these bytes the sign is whole: they don't make it a longer one, nor `/` the beginning of a comment.
abbrev pub IsWhole : Sign → List ℕ → Type 0
IsWhole Less rest = NotNext 61 rest
IsWhole Greater rest = NotNext 61 rest
IsWhole Slash rest = NotNext 42 rest
IsWhole _ rest = ⊤

-- no sign begins these bytes
abbrev pub BeginsNoSign : List ℕ → Type 0
BeginsNoSign bytes = (sign : Sign) (rest : List ℕ) → bytes ≡ spelling sign ++ rest → ⊥
