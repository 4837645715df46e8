-- What the calls on values answer. Only private functions cite this.
use Rattle.std.specs.Prelude.{◌≡◌}
use Rattle.rel_value.specs.Operands.{Stance, bytes}
use Rattle.rel_value.specs.Outcomes.{Outcome, gives, fails, no_row}
use Rattle.rel_trace.specs.declared.worked.Worked.{Worked}
use Rattle.rel_trace.specs.declared.worked.Worked.TheVariants.{Given, Failed, Without, Memory}
use Rattle.rel_trace.specs.Kinds.{fault_kind}

-- there is a row
abbrev pub HasRow : Outcome → Type 0
HasRow no_row = ⊥
HasRow _ = Unit {0}

-- The answer is the outcome's. Memory may run out at any.
abbrev pub Works : Outcome → Worked → Type 0
Works (gives v) (Given answer) = answer ≡ v
Works (fails why) (Failed kind) = kind ≡ fault_kind why
Works no_row Without = Unit {0}
Works outcome Memory = Unit {0}
Works _ _ = ⊥

-- it stands for no text
abbrev pub IsNoText : Stance → Type 0
IsNoText (bytes t) = ⊥
IsNoText _ = Unit {0}
