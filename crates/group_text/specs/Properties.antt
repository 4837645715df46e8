-- Properties that are measured, and the line of one in the text of an analysis.
use Rattle.std.specs.Prelude.{ℕ, ℤ, pos, ◌≤ℤ◌, List, ◌++◌, map, All, codes}
use Rattle.std.specs.List.{IsDistinct}
use Rattle.std.specs.Str.{bytes_eq}
use Rattle.std.specs.Fmt.{signed_decimal}
use Rattle.line_forms.specs.Fields.{field_text}
use Rattle.line_forms.specs.Names.{IsName, IsRest}
use Rattle.rel_types.specs.Plans.{PlainNode}
use Rattle.rel_eval.specs.Questions.{IsPlanOf}
use Rattle.group_text.specs.declared.property.Property.{Property}

-- seconds until a property is measured again, from 0 to 2,147,483,648
abbrev pub IsPeriod : ℤ → Type 0
IsPeriod seconds = (pos 0 ≤ℤ seconds) × (seconds ≤ℤ pos 2147483648)

-- the text is a question: it isn't refused
abbrev pub IsQuestion : List ℕ → Type 0
IsQuestion text = (plan : PlainNode) × IsPlanOf text plan

-- a property that a line can spell
pub record IsProperty (p : Property) : Type 0 where
  pub name : IsName p.name
  pub period : IsPeriod p.period
  pub rest : IsRest p.question
  pub question : IsQuestion p.question

-- its fields, behind the word of its line
abbrev pub property_rest : Property → List ℕ
property_rest p = field_text p.name ++ field_text (signed_decimal p.period) ++ p.question

-- `property NAME PERIOD QUESTION`
abbrev pub property_line : Property → List ℕ
property_line p = field_text (codes "property") ++ property_rest p

-- the names of properties
abbrev pub names_of : List Property → List (List ℕ)
names_of properties = map (λ (p : Property). p.name) properties

-- properties of distinct names, each with a question
pub record AreProperties (properties : List Property) : Type 0 where
  pub distinct : IsDistinct bytes_eq (names_of properties)
  pub questions : All (λ (p : Property). IsQuestion p.question) properties
