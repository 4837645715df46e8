-- What the readers of lines and fields do. Only private functions cite these definitions.
use Rattle.std.specs.Prelude.{◌≡◌, ℕ, ℤ, List, ◌++◌, MatchOption}
use Rattle.std.specs.declared.option.Option.{Option}
use Rattle.std.specs.Fmt.{signed_decimal}
use Rattle.line_forms.specs.Fields.{field_text}
use Rattle.line_forms.specs.Names.{IsName, IsRest}
use Rattle.group_text.specs.declared.test.Test.{Test}
use Rattle.group_text.specs.declared.test.Test.TheVariants as test
use Rattle.group_text.specs.declared.group_reader.Spelled.{Spelled}
use Rattle.group_text.specs.declared.group_reader.Spelled.TheVariants.{Has, Lacks, Error}
use Rattle.group_text.specs.Properties.{IsPeriod}
use Rattle.group_text.specs.Tests.{IsTest, test_line}

-- the text is the fields of a property, whose question may be none
abbrev pub AreFields : List ℕ → List ℕ → ℤ → List ℕ → Type 0
AreFields text name period question =
    IsName name × IsPeriod period × IsRest question × (text ≡ field_text name ++ field_text (signed_decimal period) ++ question)

-- the text is the name of a property and a text behind it
abbrev pub AreNamed : List ℕ → List ℕ → List ℕ → Type 0
AreNamed text property rest = IsName property × IsRest rest × (text ≡ field_text property ++ rest)

-- the test that a line spells
abbrev pub test_of : Spelled → Test
test_of (Has named) = test.Has named.property.now named.text.now
test_of (Lacks named) = test.Lacks named.property.now named.text.now
test_of (Error property) = test.Error property.now

-- The line is that of the answer's test, or of none.
abbrev pub SpellsTest : List ℕ → Option Spelled → Type 0
SpellsTest line answer =
    MatchOption answer ((test : Test) → IsTest test → ¬ (line ≡ test_line test)) (λ s. IsTest (test_of s) × (line ≡ test_line (test_of s)))
