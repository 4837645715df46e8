-- Texts of analyses.
use Rattle.std.specs.Prelude.{◌≡◌, ℕ, ◌<◌, List, [], ◌∷◌, ◌++◌, length, map, Contains, codes, ⊤}
use Rattle.std.specs.declared.result.Result.{Result}
use Rattle.std.specs.Prelude.{Ok, Err}
use Rattle.line_forms.specs.BadLines.{AnswersBadLine}
use Rattle.line_forms.specs.LineStates.{lines_of, unended_of}
use Rattle.line_forms.specs.Readers.{EachCan}
use Rattle.group_text.specs.declared.property.Property.{Property}
use Rattle.group_text.specs.declared.analysis.Analysis.{Analysis}
use Rattle.group_text.specs.declared.error.GroupError.{GroupError}
use Rattle.group_text.specs.declared.error.GroupError.TheVariants.{BadAnalysis, BadGroup, Memory}
use Rattle.group_text.specs.Properties.{IsProperty, property_line, names_of}

-- one of the properties has this name
abbrev pub HasName : List Property → List ℕ → Type 0
HasName properties name = Contains (names_of properties) name

-- a property can stand behind these: its name is another one, and there are at most 100
pub record CanFollow (before : List Property) (p : Property) : Type 0 where
  pub good : IsProperty p
  pub other : ¬ HasName before p.name
  pub few : length before < 100

-- the lines are those of the analysis
pub record IsAnalysis (a : Analysis) (lines : List (List ℕ)) : Type 0 where
  pub each : EachCan CanFollow a.properties
  pub some : 0 < length a.properties
  pub lines_are : lines ≡ codes "analysis" ∷ map property_line a.properties ++ codes "end" ∷ []

-- the lines are those of some analysis
abbrev pub AreAnalysisLines : List (List ℕ) → Type 0
AreAnalysisLines lines = (a : Analysis) × IsAnalysis a lines

-- The answer is the one analysis whose text this is, or else the number of its first bad line.
abbrev pub ReadsAnalysis : List ℕ → Result Analysis GroupError → Type 0
ReadsAnalysis text (Ok a) =
    (unended_of text ≡ []) × IsAnalysis a (lines_of text) × ((other : Analysis) → IsAnalysis other (lines_of text) → other ≡ a)
ReadsAnalysis text (Err (BadAnalysis line)) = AnswersBadLine AreAnalysisLines text line
ReadsAnalysis text (Err (BadGroup line)) = ⊥
ReadsAnalysis text (Err Memory) = ⊤
