-- The lines of an action that say when it may begin and how often.
use Rattle.std.specs.Prelude.{◌≡◌, ◌≢◌, ℕ, ◌^◌, ◌≤◌, ℤ, pos, ◌≤ℤ◌, Bool, true, false, List, [], ◌∷◌, ◌++◌, length, map, codes, decimal, Option, Some, None, IfSome}
use Rattle.std.specs.Fmt.{signed_decimal}
use Rattle.desk_base.specs.Moments.{IsMoment}
use Rattle.line_forms.specs.Fields.{field_text}
use Rattle.line_forms.specs.FieldLists.{line_of}
use Rattle.act_rules.specs.declared.rule.Rules.{Rules}
use Rattle.act_rules.specs.declared.rule.Hours.{Hours}
use Rattle.act_rules.specs.declared.rule.Reapply.{Reapply}
use Rattle.act_rules.specs.declared.rule.Reapply.TheVariants.{Never, Again, While}

-- hours of a day: from a minute of it, to another one or to its end
pub record IsHours (hours : Hours) : Type 0 where
  pub from : hours.from ≤ 1439
  pub to : (1 ≤ hours.to) × (hours.to ≤ 1440)
  pub apart : hours.from ≢ hours.to

-- a number of retries, or a limit of reapplication: from 0 to 99
abbrev pub IsCount : ℕ → Type 0
IsCount count = count ≤ 99

-- the seconds of a wait: from 0 to 2,147,483,648
abbrev pub IsWait : ℤ → Type 0
IsWait wait = (pos 0 ≤ℤ wait) × (wait ≤ℤ pos (2 ^ 31))

-- a reapplication with its limit and its wait in their ranges
abbrev pub IsReapply : Reapply → Type 0
IsReapply Never = Unit {0}
IsReapply (Again limit wait) = IsCount limit × IsWait wait
IsReapply (While limit wait) = IsCount limit × IsWait wait

-- rules that can be spelled
pub record IsRules (rules : Rules) : Type 0 where
  pub start : IfSome rules.start IsMoment
  pub until : IfSome rules.until IsMoment
  pub hours : IfSome rules.hours IsHours
  pub days : length rules.days ≡ 7
  pub retries : IsCount rules.retries
  pub wait : IsWait rules.wait
  pub reapply : IsReapply rules.reapply

-- a moment, or `none`
abbrev pub moment_field : Option ℤ → List ℕ
moment_field None = codes "none"
moment_field (Some moment) = signed_decimal moment

abbrev pub start_line : Option ℤ → List ℕ
start_line start = field_text (codes "start") ++ moment_field start

abbrev pub until_line : Option ℤ → List ℕ
until_line until = field_text (codes "until") ++ moment_field until

-- the line that says that these two are in the client's time, where they are
abbrev pub client_lines : Bool → List (List ℕ)
client_lines true = codes "time client" ∷ []
client_lines false = []

-- the two minutes of the hours, or `none`
abbrev pub hours_fields : Option Hours → List (List ℕ)
hours_fields None = codes "none" ∷ []
hours_fields (Some hours) = decimal hours.from ∷ decimal hours.to ∷ []

abbrev pub hours_line : Option Hours → List ℕ
hours_line hours = field_text (codes "hours") ++ line_of (hours_fields hours)

-- `1` for a day that is allowed, `0` for another
abbrev pub day_digit : Bool → ℕ
day_digit true = 49
day_digit false = 48

-- a digit for each weekday, from Monday
abbrev pub days_line : List Bool → List ℕ
days_line days = field_text (codes "days") ++ map day_digit days

abbrev pub retries_line : ℕ → ℤ → List ℕ
retries_line count wait = field_text (codes "retries") ++ line_of (decimal count ∷ signed_decimal wait ∷ [])

-- the word of a reapplication, and its limit and its wait
abbrev pub reapply_fields : Reapply → List (List ℕ)
reapply_fields Never = codes "never" ∷ []
reapply_fields (Again limit wait) = codes "again" ∷ decimal limit ∷ signed_decimal wait ∷ []
reapply_fields (While limit wait) = codes "while" ∷ decimal limit ∷ signed_decimal wait ∷ []

abbrev pub reapply_line : Reapply → List ℕ
reapply_line reapply = field_text (codes "reapply") ++ line_of (reapply_fields reapply)

-- the lines of the rules
abbrev pub rules_lines : Rules → List (List ℕ)
rules_lines rules =
    start_line rules.start ∷ until_line rules.until
    ∷ (client_lines rules.client
    ++ hours_line rules.hours ∷ days_line rules.days ∷ retries_line rules.retries rules.wait
    ∷ reapply_line rules.reapply ∷ [])
