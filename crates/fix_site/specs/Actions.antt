-- Actions and their texts.
use Rattle.std.specs.Prelude.{◌≡◌, ℕ, ◌<◌, ℤ, Bool, true, false, List, [], ◌∷◌, ◌++◌, length, map, All, codes, decimal}
use Rattle.std.specs.Fmt.{signed_decimal}
use Rattle.desk_base.specs.Moments.{IsMoment}
use Rattle.line_forms.specs.Names.{IsName, IsRest}
use Rattle.line_forms.specs.Fields.{field_text}
use Rattle.line_forms.specs.FieldLists.{line_of}
use Rattle.line_forms.specs.Lines.{lines_text}
use Rattle.line_forms.specs.Numbers.{IsId}
use Rattle.fix_site.specs.declared.action.Action.{Action}
use Rattle.fix_site.specs.declared.action.Target.{Target}
use Rattle.fix_site.specs.declared.action.Target.TheVariants as target
use Rattle.fix_site.specs.RuleLines.{IsRules, rules_lines}

-- all computers, one named computer or more, or those of a question
abbrev pub IsTarget : Target → Type 0
IsTarget target.All = Unit {0}
IsTarget (target.Computers names) = (0 < length names) × All IsName names
IsTarget (target.Where question) = IsRest question

-- an action that can be spelled
pub record IsAction (action : Action) : Type 0 where
  pub id : IsId action.id
  pub issued : IsMoment action.issued
  pub site : IsName action.site
  pub content : IsId action.content
  pub target : IsTarget action.target
  pub rules : IsRules action.rules

-- the first line of an action
abbrev pub action_line : ℕ → List ℕ
action_line id = field_text (codes "action") ++ decimal id

abbrev pub issued_line : ℤ → List ℕ
issued_line issued = field_text (codes "issued") ++ signed_decimal issued

-- the site and the id of what is to be run
abbrev pub content_line : List ℕ → ℕ → List ℕ
content_line site content = field_text (codes "content") ++ line_of (site ∷ decimal content ∷ [])

-- whether all members are run, or none behind one that fails
abbrev pub members_line : Bool → List ℕ
members_line true = codes "members all"
members_line false = codes "members stop"

abbrev pub computer_line : List ℕ → List ℕ
computer_line name = field_text (codes "target computer") ++ name

abbrev pub where_line : List ℕ → List ℕ
where_line question = field_text (codes "target where") ++ question

abbrev pub target_lines : Target → List (List ℕ)
target_lines target.All = codes "target all" ∷ []
target_lines (target.Computers names) = map computer_line names
target_lines (target.Where question) = where_line question ∷ []

abbrev pub state_line : Bool → List ℕ
state_line true = codes "state stopped"
state_line false = codes "state open"

-- the last line of each block
abbrev pub end_line : List ℕ
end_line = codes "end"

-- the lines of an action behind the first
abbrev pub action_rest : Action → List (List ℕ)
action_rest action =
    issued_line action.issued ∷ content_line action.site action.content ∷ members_line action.all_members
    ∷ (target_lines action.target ++ (rules_lines action.rules ++ state_line action.stopped ∷ end_line ∷ []))

-- the lines of an action
abbrev pub action_lines : Action → List (List ℕ)
action_lines action = action_line action.id ∷ action_rest action

-- the one text of an action
abbrev pub action_text : Action → List ℕ
action_text action = lines_text (action_lines action)

-- these are the lines of an action
abbrev pub AreActionLines : List (List ℕ) → Type 0
AreActionLines lines = (action : Action) × IsAction action × (lines ≡ action_lines action)
