-- What the grammar sees of a token: its shape, and its place.
use Rattle.std.specs.Prelude.{ℕ, ℤ, List, [], ◌∷◌, Bool, true, false, cond, codes}
use Rattle.std.specs.Str.{bytes_eq}
use Rattle.rel_lexer.specs.declared.place.Place.{Place}
use Rattle.rel_lexer.specs.declared.sign.Sign.{Sign}
use Rattle.rel_lexer.specs.declared.token.TokenKind.{TokenKind}
use Rattle.rel_lexer.specs.declared.token.TokenKind.TheVariants as lexed
use Rattle.rel_lexer.specs.declared.token.Token.{Token}
use Rattle.rel_grammar.specs.declared.vocabulary.Reserved.{Reserved}
use Rattle.rel_grammar.specs.declared.vocabulary.Reserved.TheVariants.{Of, Whose, It, As, If, Then, Else, And, Or, Not, Exists, Exist, Mod, Is, Contains, Contained, Starts, Ends, Does}
use Rattle.rel_grammar.specs.declared.vocabulary.Helper.{Helper}
use Rattle.rel_grammar.specs.declared.vocabulary.Helper.TheVariants.{By, With, Contain, Start, End}

-- the reserved words, which never stand in a name, as they are spelled
abbrev pub reserved_spelling : Reserved → List ℕ
reserved_spelling Of = codes "of"
reserved_spelling Whose = codes "whose"
reserved_spelling It = codes "it"
reserved_spelling As = codes "as"
reserved_spelling If = codes "if"
reserved_spelling Then = codes "then"
reserved_spelling Else = codes "else"
reserved_spelling And = codes "and"
reserved_spelling Or = codes "or"
reserved_spelling Not = codes "not"
reserved_spelling Exists = codes "exists"
reserved_spelling Exist = codes "exist"
reserved_spelling Mod = codes "mod"
reserved_spelling Is = codes "is"
reserved_spelling Contains = codes "contains"
reserved_spelling Contained = codes "contained"
reserved_spelling Starts = codes "starts"
reserved_spelling Ends = codes "ends"
reserved_spelling Does = codes "does"

-- the words that belong to a relation's sign inside it, and are words like others everywhere else
abbrev pub helper_spelling : Helper → List ℕ
helper_spelling By = codes "by"
helper_spelling With = codes "with"
helper_spelling Contain = codes "contain"
helper_spelling Start = codes "start"
helper_spelling End = codes "end"

abbrev pub all_reserved : List Reserved
all_reserved = Of ∷ Whose ∷ It ∷ As ∷ If ∷ Then ∷ Else ∷ And ∷ Or ∷ Not ∷ Exists ∷ Exist ∷ Mod ∷ Is ∷ Contains ∷ Contained ∷ Starts ∷ Ends ∷ Does ∷ []

abbrev pub all_helpers : List Helper
all_helpers = By ∷ With ∷ Contain ∷ Start ∷ End ∷ []

-- a word that may stand in a name
pub data AnyWord : Type 0 where
  helper : Helper → AnyWord
  other : List ℕ → AnyWord

abbrev pub word_spelling : AnyWord → List ℕ
word_spelling (helper h) = helper_spelling h
word_spelling (other w) = w

-- the shape of a token
pub data Kind : Type 0 where
  sign : Sign → Kind
  reserved : Reserved → Kind
  -- a `not` directly after `is`, which belongs to the relation's sign
  not_of_is : Kind
  word : AnyWord → Kind
  number : ℤ → Kind
  string : List ℕ → Kind

-- the first of these helpers that is spelled so, else another word
abbrev pub helper_of : List ℕ → List Helper → AnyWord
helper_of w [] = other w
helper_of w (h ∷ hs) = cond (bytes_eq w (helper_spelling h)) (helper h) (helper_of w hs)

-- the first of these reserved words that is spelled so, else a word that may stand in a name
abbrev pub reserved_of : List ℕ → List Reserved → Kind
reserved_of w [] = word (helper_of w all_helpers)
reserved_of w (r ∷ rs) = cond (bytes_eq w (reserved_spelling r)) (reserved r) (reserved_of w rs)

abbrev pub kind_of : TokenKind → Kind
kind_of (lexed.Word w) = reserved_of w all_reserved
kind_of (lexed.Text t) = string t
kind_of (lexed.Number n) = number n
kind_of (lexed.Sign s) = sign s

pub record Shaped : Type 0 where
  pub kind : Kind
  pub place : Place

abbrev pub is_is : Kind → Bool
is_is (reserved Is) = true
is_is _ = false

-- the shape, where it is told whether the token before is the word `is`
abbrev pub kind_after : Bool → Kind → Kind
kind_after true (reserved Not) = not_of_is
kind_after _ kind = kind

abbrev pub shaped_after : Bool → List Token → List Shaped
shaped_after behind [] = []
shaped_after behind (t ∷ ts) = record { kind = kind_after behind (kind_of t.kind); place = t.place } ∷ shaped_after (is_is (kind_of t.kind)) ts

abbrev pub all_shaped : List Token → List Shaped
all_shaped = shaped_after false
