-- The values that a register holds, and what signs give for them.
use Rattle.std.specs.Prelude.{Option, None, Some}
use Rattle.rel_value.specs.Operands.{stance}
use Rattle.rel_value.specs.Outcomes.{Outcome, gives}
use Rattle.rel_value.specs.Plain.{Plain, boolean, integer}
use Rattle.rel_value.specs.Signs.{negated, op}
use Rattle.rel_trace.specs.declared.apply.Apply.{Apply}
use Rattle.rel_trace.specs.declared.apply.Apply.TheVariants.{Negate, Not, Sign}
use Rattle.rel_trace.specs.declared.scalar.Scalar.{Scalar}
use Rattle.rel_trace.specs.declared.scalar.Scalar.TheVariants.{Boolean, Integer}
use Rattle.rel_trace.specs.Ones.{inverted}

abbrev pub plain : Scalar → Plain
plain (Boolean truth) = boolean truth
plain (Integer number) = integer number

-- a value as a scalar, where it is one
abbrev pub scalar_of : Plain → Option Scalar
scalar_of (boolean truth) = Some (Boolean truth)
scalar_of (integer number) = Some (Integer number)
scalar_of _ = None

-- the scalar that a row gives, where it gives one
abbrev pub scalar_given : Outcome → Option Scalar
scalar_given (gives v) = scalar_of v
scalar_given _ = None

-- the scalar that a sign, `-` or `not` makes of a scalar, and of the one to its left
abbrev pub scalar_made : Apply → Option Scalar → Scalar → Option Scalar
scalar_made (Negate p) left x = scalar_given (negated (stance (plain x)))
scalar_made (Not p) left x = scalar_given (inverted (plain x))
scalar_made (Sign g p) (Some left) x = scalar_given (op g (plain left) (plain x))
scalar_made _ left x = None
