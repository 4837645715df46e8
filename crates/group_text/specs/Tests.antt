-- Tests of groups, and the line of one.
use Rattle.std.specs.Prelude.{ℕ, List, ◌++◌, codes}
use Rattle.line_forms.specs.Fields.{field_text}
use Rattle.line_forms.specs.Names.{IsName, IsRest}
use Rattle.group_text.specs.declared.test.Test.{Test}
use Rattle.group_text.specs.declared.test.Test.TheVariants.{Has, Lacks, Error}

-- the name of the property that a test is about
abbrev pub property_of : Test → List ℕ
property_of (Has property text) = property
property_of (Lacks property text) = property
property_of (Error property) = property

-- a test that a line can spell
abbrev pub IsTest : Test → Type 0
IsTest (Has property text) = IsName property × IsRest text
IsTest (Lacks property text) = IsName property × IsRest text
IsTest (Error property) = IsName property

-- `has PROPERTY TEXT`, `lacks PROPERTY TEXT`, `error PROPERTY`
abbrev pub test_line : Test → List ℕ
test_line (Has property text) = field_text (codes "has") ++ field_text property ++ text
test_line (Lacks property text) = field_text (codes "lacks") ++ field_text property ++ text
test_line (Error property) = field_text (codes "error") ++ property
