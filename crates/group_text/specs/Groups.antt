-- Texts of groups.
use Rattle.std.specs.Prelude.{◌≡◌, ℕ, ◌<◌, Bool, if◌then◌else◌, List, [], ◌∷◌, ◌++◌, length, map, codes, ⊤}
use Rattle.std.specs.declared.result.Result.{Result}
use Rattle.std.specs.Prelude.{Ok, Err}
use Rattle.line_forms.specs.BadLines.{AnswersBadLine}
use Rattle.line_forms.specs.Fields.{field_text}
use Rattle.line_forms.specs.LineStates.{lines_of, unended_of}
use Rattle.line_forms.specs.Names.{IsName}
use Rattle.line_forms.specs.Readers.{EachCan}
use Rattle.group_text.specs.declared.test.Test.{Test}
use Rattle.group_text.specs.declared.group.Group.{Group}
use Rattle.group_text.specs.declared.error.GroupError.{GroupError}
use Rattle.group_text.specs.declared.error.GroupError.TheVariants.{BadAnalysis, BadGroup, Memory}
use Rattle.group_text.specs.Tests.{IsTest, test_line}

-- `group NAME`
abbrev pub group_line : List ℕ → List ℕ
group_line name = field_text (codes "group") ++ name

-- whether any test is enough, or all are to hold
abbrev pub match_line : Bool → List ℕ
match_line any = if any then codes "match any" else codes "match all"

-- a test can stand behind these: there are at most 100
pub record CanFollow (before : List Test) (test : Test) : Type 0 where
  pub good : IsTest test
  pub few : length before < 100

-- the lines are those of the group
pub record IsGroup (g : Group) (lines : List (List ℕ)) : Type 0 where
  pub name : IsName g.name
  pub each : EachCan CanFollow g.tests
  pub some : 0 < length g.tests
  pub lines_are : lines ≡ group_line g.name ∷ match_line g.any ∷ map test_line g.tests ++ codes "end" ∷ []

-- the lines are those of some group
abbrev pub AreGroupLines : List (List ℕ) → Type 0
AreGroupLines lines = (g : Group) × IsGroup g lines

-- The answer is the one group whose text this is, or else the number of its first bad line.
abbrev pub ReadsGroup : List ℕ → Result Group GroupError → Type 0
ReadsGroup text (Ok g) =
    (unended_of text ≡ []) × IsGroup g (lines_of text) × ((other : Group) → IsGroup other (lines_of text) → other ≡ g)
ReadsGroup text (Err (BadAnalysis line)) = ⊥
ReadsGroup text (Err (BadGroup line)) = AnswersBadLine AreGroupLines text line
ReadsGroup text (Err Memory) = ⊤
