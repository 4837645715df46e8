-- What is handed down to a part: the value of `it`, that of the argument and the one to its left, each or none.
use Rattle.std.specs.Prelude.{Option, Some, None}
use Rattle.std.specs.Borrow.{Bor}
use Rattle.rel_value.specs.Plain.{Plain}
use Rattle.rel_trace.specs.declared.scope.Scope.{Scope}

pub record Around : Type 0 where
  pub it : Option Plain
  pub argument : Option Plain
  pub left : Option Plain

-- another `it`
abbrev pub with_it : Around → Plain → Around
with_it s v = record s { it = Some v }

-- another argument
abbrev pub with_argument : Around → Plain → Around
with_argument s v = record s { argument = Some v }

-- another left value
abbrev pub with_left : Around → Plain → Around
with_left s v = record s { left = Some v }

-- what is lent
abbrev pub lent : Option (Bor Plain) → Option Plain
lent None = None
lent (Some r) = Some r.now

-- what a scope of the code hands down
abbrev pub seen : Scope → Around
seen s = record { it = lent s.it; argument = lent s.argument; left = lent s.left }
