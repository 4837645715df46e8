-- What a question knows beside the machine.
use Rattle.std.specs.Prelude.{ℕ, ℤ, if◌then◌else◌, List, [], ◌∷◌}
use Rattle.std.specs.declared.option.Option.{Option}
use Rattle.std.specs.declared.option.Option.TheVariants.{Some, None}
use Rattle.std.specs.Str.{bytes_eq}
use Rattle.desk_base.specs.Moments.{IsMoment}
use Rattle.line_forms.specs.Numbers.{IsOffset}
use Rattle.rel_sources.specs.declared.pair.Pair.{Pair}

-- a scene without where it lies in memory
pub record PlainScene : Type 0 where
  pub moment : ℤ
  pub offset : ℤ
  pub parameters : List Pair
  pub exit : Option ℤ

-- The moment and the offset of every scene are in their ranges.
pub record IsScene (moment offset : ℤ) : Type 0 where
  pub is_moment : IsMoment moment
  pub is_offset : IsOffset offset

-- the value of the parameter of this name
abbrev pub value_of : List ℕ → List Pair → Option (List ℕ)
value_of name [] = None
value_of name (p ∷ ps) = if bytes_eq p.name name then Some p.value else value_of name ps
