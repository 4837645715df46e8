-- Fixlets and baselines, and their lines.
use Rattle.std.specs.Prelude.{ℕ, ◌<◌, ◌≤◌, List, [], ◌∷◌, ◌++◌, length, map, All, codes, decimal}
use Rattle.line_forms.specs.Names.{IsLineText, IsRest}
use Rattle.line_forms.specs.Contents as held
use Rattle.line_forms.specs.Fields.{field_text}
use Rattle.line_forms.specs.Lines.{lines_text}
use Rattle.line_forms.specs.Numbers.{IsId}
use Rattle.fix_site.specs.declared.baseline.Baseline.{Baseline}
use Rattle.fix_site.specs.declared.fixlet.Fixlet.{Fixlet}
use Rattle.fix_site.specs.declared.fixlet.Success.{Success}
use Rattle.fix_site.specs.declared.fixlet.Success.TheVariants as success
use Rattle.fix_site.specs.Actions.{end_line}

-- a question where there is one
abbrev pub IsSuccess : Success → Type 0
IsSuccess success.Lines = Unit {0}
IsSuccess success.Relevance = Unit {0}
IsSuccess (success.Clause question) = IsRest question

-- the lines of a script: at most 10,000, with an LF each at most 262,144 bytes
pub record IsScript (script : List (List ℕ)) : Type 0 where
  pub few : length script ≤ 10000
  pub good : All IsLineText script
  pub short : length (lines_text script) ≤ 262144

-- a fixlet that can be spelled
pub record IsFixlet (fixlet : Fixlet) : Type 0 where
  pub id : IsId fixlet.id
  pub title : IsRest fixlet.title
  pub relevance : All IsRest fixlet.relevance
  pub success : IsSuccess fixlet.success
  pub script : IsScript fixlet.script

-- a baseline that can be spelled: it has a component or more
pub record IsBaseline (baseline : Baseline) : Type 0 where
  pub id : IsId baseline.id
  pub title : IsRest baseline.title
  pub relevance : All IsRest baseline.relevance
  pub some : 0 < length baseline.components
  pub components : All IsId baseline.components

abbrev pub fixlet_line : ℕ → List ℕ
fixlet_line id = field_text (codes "fixlet") ++ decimal id

abbrev pub baseline_line : ℕ → List ℕ
baseline_line id = field_text (codes "baseline") ++ decimal id

abbrev pub title_line : List ℕ → List ℕ
title_line title = field_text (codes "title") ++ title

abbrev pub relevance_line : List ℕ → List ℕ
relevance_line question = field_text (codes "relevance") ++ question

abbrev pub success_line : Success → List ℕ
success_line success.Lines = codes "success lines"
success_line success.Relevance = codes "success relevance"
success_line (success.Clause question) = field_text (codes "success clause") ++ question

abbrev pub component_line : ℕ → List ℕ
component_line id = field_text (codes "component") ++ decimal id

-- the lines of a fixlet behind the first
abbrev pub fixlet_rest : Fixlet → List (List ℕ)
fixlet_rest fixlet =
    title_line fixlet.title
    ∷ (map relevance_line fixlet.relevance
    ++ success_line fixlet.success ∷ (map held.content_line fixlet.script ++ end_line ∷ []))

-- the lines of a baseline behind the first
abbrev pub baseline_rest : Baseline → List (List ℕ)
baseline_rest baseline =
    title_line baseline.title
    ∷ (map relevance_line baseline.relevance ++ (map component_line baseline.components ++ end_line ∷ []))
