-- Where a node stopped, and what that is to a pull. No public contract speaks of it.
use Rattle.std.specs.Prelude.{◌≡◌}
use Rattle.rel_value.specs.Views.{shown}
use Rattle.rel_trace.specs.Steps.{LooksAt}
use Rattle.rel_trace.specs.Trace.{Stop, Error, Give, Trace, Ends, After}
use Rattle.rel_eval.specs.declared.cursor.Pulled.{Pulled}
use Rattle.rel_eval.specs.declared.cursor.Pulled.TheVariants as pulled

-- What was left where the node stopped, the answer, and what is left now. A failed look is still ahead; where memory ran out the
-- cursor is shut.
abbrev pub Meets : Trace → Pulled → Trace → Type 0
Meets t (pulled.Value v) rest = t ≡ After (Give (shown v)) rest
Meets t pulled.End rest = t ≡ Ends Stop
Meets t (pulled.Error kind place) rest = t ≡ Ends (Error kind place)
Meets t (pulled.Failed place) rest = LooksAt place t × (t ≡ rest)
Meets t pulled.Memory rest = Unit {0}
Meets t pulled.Closed rest = ⊥

-- an open cursor doesn't answer Closed
abbrev pub IsNotClosed : Pulled → Type 0
IsNotClosed pulled.Closed = ⊥
IsNotClosed _ = Unit {0}
