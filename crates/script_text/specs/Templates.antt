-- Templates: texts with expressions in braces. `{{` stands for one `{`, any other `{` opens an expression, and a `}` elsewhere
-- stands for itself.
use Rattle.std.specs.Prelude.{◌≡◌, ℕ, ◌<◌, Bool, true, false, not, ◌==◌, if◌then◌else◌, ◌⊎◌, List, [], ◌∷◌, ◌++◌, length, ⊤}
use Rattle.script_text.specs.declared.piece.Ending.{Ending}
use Rattle.script_text.specs.declared.piece.Ending.TheVariants as ending
use Rattle.script_text.specs.declared.template.Part2.{Part2}
use Rattle.script_text.specs.declared.template.Part2.TheVariants as part
use Rattle.script_text.specs.declared.template.Template.{Template}
use Rattle.script_text.specs.Bytes.{Each, NotNext}

-- whether one stands in a string literal behind this byte: each `"` begins or ends one
abbrev pub turned : Bool → ℕ → Bool
turned inside b = if b == 34 then not inside else inside

-- whether one stands in a string literal behind these bytes
abbrev pub in_literal : Bool → List ℕ → Bool
in_literal inside [] = inside
in_literal inside (b ∷ bs) = in_literal (turned inside b) bs

-- each `}` of these bytes stands in a string literal
abbrev pub NoneEnds : Bool → List ℕ → Type 0
NoneEnds inside [] = ⊤
NoneEnds inside (b ∷ bs) = (b ≡ 125 → inside ≡ true) × NoneEnds (turned inside b) bs

-- no `}` behind an opened brace closes it
abbrev pub HasNoEnd : List ℕ → Type 0
HasNoEnd inner = NoneEnds false inner

-- behind an opened brace stands this expression, which ends at the first `}` outside of a string literal, and then this
pub record EndsExpression (inner expression rest : List ℕ) : Type 0 where
  pub splits : inner ≡ expression ++ 125 ∷ rest
  pub first : NoneEnds false expression
  pub outside : in_literal false expression ≡ false

-- the text begins with a `{` that isn't doubled
abbrev pub IsOpened : List ℕ → List ℕ → Type 0
IsOpened text inner = (text ≡ 123 ∷ inner) × NotNext 123 inner

abbrev pub OpensNone : List ℕ → Type 0
OpensNone text = (inner : List ℕ) → ¬ IsOpened text inner

-- what stands for this text: each `{` is doubled
abbrev pub doubled : List ℕ → List ℕ
doubled [] = []
doubled (b ∷ bs) = if b == 123 then 123 ∷ 123 ∷ doubled bs else b ∷ doubled bs

-- between double quotes a `"` stands for the end
abbrev pub is_plain : Ending → ℕ → Bool
is_plain ending.Text b = true
is_plain ending.Quote b = not (b == 34)

-- before this no byte stands for itself: an expression, a quote that ends the template, or nothing
abbrev pub EndsPlain : Ending → List ℕ → Type 0
EndsPlain ending [] = ⊤
EndsPlain ending (b ∷ bs) = IsOpened (b ∷ bs) bs ⊎ (is_plain ending b ≡ false)

-- the text begins with bytes that stand for these, and this follows
pub record IsPlain (ending : Ending) (text plain rest : List ℕ) : Type 0 where
  pub splits : text ≡ doubled plain ++ rest
  pub passing : Each (is_plain ending) plain
  pub ends : EndsPlain ending rest

-- the text begins with this part, and this follows
abbrev pub IsPart : Ending → List ℕ → Part2 → List ℕ → Type 0
IsPart ending text (part.Plain plain) rest = (0 < length plain) × IsPlain ending text plain rest
IsPart ending text (part.Expression expression) rest =
    (inner : List ℕ) × IsOpened text inner × EndsExpression inner expression rest

-- the text begins with these parts, and this follows
abbrev pub AreParts : Ending → List ℕ → List Part2 → List ℕ → Type 0
AreParts ending text [] rest = text ≡ rest
AreParts ending text (p ∷ ps) rest =
    (left : List ℕ) × IsPart ending text p left × AreParts ending left ps rest

-- a template ends before this
abbrev pub IsAtEnd : Ending → List ℕ → Type 0
IsAtEnd ending.Text rest = rest ≡ []
IsAtEnd ending.Quote rest = (more : List ℕ) × (rest ≡ 34 ∷ more)

-- the text begins with this template, and this follows
abbrev pub IsTemplate : Ending → List ℕ → Template → List ℕ → Type 0
IsTemplate ending text template rest = AreParts ending text template.parts rest × IsAtEnd ending rest

-- The text begins with some parts, then a brace is opened that nothing closes.
pub record HasOpenBrace (ending : Ending) (text : List ℕ) : Type 0 where
  pub parts : List Part2
  pub left : List ℕ
  pub inner : List ℕ
  pub before : AreParts ending text parts left
  pub opens : IsOpened left inner
  pub unclosed : HasNoEnd inner
