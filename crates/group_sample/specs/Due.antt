-- What an analyst knows, and which properties are due.
use Rattle.std.specs.Prelude.{ℕ, ◌^◌, ◌<◌, ◌≤◌, ℤ, ◌+ℤ◌, int_le, Bool, true, List, [], ◌∷◌, length, filter, All, Option, Some, None}
use Rattle.bf_world.specs.Maps.{at, put}
use Rattle.desk_base.specs.Moments.{IsMoment}
use Rattle.line_forms.specs.Numbers.{last_id}
use Rattle.group_text.specs.declared.property.Property.{Property}
use Rattle.group_text.specs.Properties.{AreProperties}
use Rattle.group_sample.specs.declared.sample.Sampled.{Sampled}
use Rattle.group_sample.specs.declared.sample.Sample.{Sample}

-- an analyst: its computer, the number of its last sample, 0 before the first, and for each property the moment of its last row
pub record AnalystState : Type 0 where
  pub computer : List ℕ
  pub last : ℕ
  pub moments : List (List ℕ × ℤ)

-- an analyst that has given no sample
abbrev pub new_analyst : List ℕ → AnalystState
new_analyst computer = record { computer = computer; last = 0; moments = [] }

-- each of these is a moment
abbrev pub AreMoments : List (List ℕ × ℤ) → Type 0
AreMoments moments = All (λ (entry : List ℕ × ℤ). IsMoment entry.1) moments

-- what holds of every analyst: its number is one of a sample, or 0, and its rows have moments
pub record IsAnalyst (last : ℕ) (moments : List (List ℕ × ℤ)) : Type 0 where
  pub number : last ≤ last_id
  pub rows : AreMoments moments

-- whether a period is over at a moment since that of a last row
abbrev pub is_over : Option ℤ → ℤ → ℤ → Bool
is_over None period moment = true
is_over (Some last) period moment = int_le (last +ℤ period) moment

-- whether a property is due: there is no row of it, or its period is over
abbrev pub is_due : List (List ℕ × ℤ) → ℤ → Property → Bool
is_due moments moment p = is_over (at p.name moments) p.period moment

-- the properties that are due, in their order
abbrev pub due_of : AnalystState → ℤ → List Property → List Property
due_of analyst moment properties = filter (is_due analyst.moments moment) properties

-- the moments of the last rows after these rows
abbrev pub with_rows : List Sampled → List (List ℕ × ℤ) → List (List ℕ × ℤ)
with_rows [] moments = moments
with_rows (row ∷ rows) moments = with_rows rows (put row.property row.moment moments)

-- the analyst after a sample
abbrev pub after_sample : AnalystState → Sample → AnalystState
after_sample analyst sample = record analyst { last = sample.seq; moments = with_rows sample.rows analyst.moments }

-- properties that can be measured: few enough to be counted
pub record CanBeMeasured (properties : List Property) : Type 0 where
  pub few : length properties < 2 ^ 32
  pub good : AreProperties properties
