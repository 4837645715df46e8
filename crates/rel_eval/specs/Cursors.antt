-- What a cursor has still to give, and what a pull leaves of it.
use Rattle.std.specs.Prelude.{◌≡◌, ◌≢◌, Bool, true, false, ℕ, ◌+◌, ◌*◌, ◌<◌, None}
use Rattle.bf_world.specs.Worlds.{WorldState}
use Rattle.rel_value.specs.Operands.{IsSound}
use Rattle.rel_value.specs.Views.{shown}
use Rattle.rel_trace.specs.Scopes.{Around}
use Rattle.rel_trace.specs.Trace.{Stop, Error, Trace, Ends}
use Rattle.rel_nodes.specs.Measure.{cap, quiet}
use Rattle.rel_nodes.specs.Nodes.{rest, shape}
use Rattle.rel_eval.specs.declared.cursor.Cursor.{Cursor}
use Rattle.rel_eval.specs.declared.cursor.Pulled.{Pulled}
use Rattle.rel_eval.specs.declared.cursor.Pulled.TheVariants as pulled
use Rattle.rel_eval.specs.declared.cursor.State.{State}
use Rattle.rel_eval.specs.declared.cursor.State.TheVariants.{Open, Over, Erred, Shut}
use Rattle.rel_eval.specs.Cuts.{cut}

-- nothing is handed down to a question
abbrev pub alone : Around
alone = record { it = None; argument = None; left = None }

-- what is left in a state, where this would be left of an open cursor
abbrev pub state_rest : State → Trace → Trace
state_rest Open t = t
state_rest Over t = Ends Stop
state_rest (Erred kind place) t = Ends (Error kind place)
state_rest Shut t = t

-- what a cursor has still to give in a world
abbrev pub cursor_rest : WorldState → Cursor → Trace
cursor_rest w c = state_rest c.state (cut c.budget (rest w c.scene c.node alone))

-- how many steps it can make at most
abbrev pub weight : Cursor → ℕ
weight c = c.budget * (cap (shape c.node) + 1) + quiet c.node

-- a value brings the end nearer
abbrev pub Nearer : Pulled → ℕ → ℕ → Type 0
Nearer (pulled.Value v) old new = new < old
Nearer _ old new = Unit {0}

-- a look failed
abbrev pub has_failed : Pulled → Bool
has_failed (pulled.Failed place) = true
has_failed _ = false

-- a value that is given is sound
abbrev pub GivesSound : Pulled → Type 0
GivesSound (pulled.Value v) = IsSound (shown v)
GivesSound _ = Unit {0}

-- the state that a pull leaves
abbrev pub after_pull : Pulled → State
after_pull (pulled.Value v) = Open
after_pull pulled.End = Over
after_pull (pulled.Error kind place) = Erred kind place
after_pull (pulled.Failed place) = Open
after_pull pulled.Memory = Shut
after_pull pulled.Closed = Shut

-- what a pull may answer in a state: Closed exactly where memory ran out before, and the end or the error again
abbrev pub AsState : State → Pulled → Type 0
AsState Open result = result ≢ pulled.Closed
AsState Over result = result ≡ pulled.End
AsState (Erred kind place) result = result ≡ pulled.Error kind place
AsState Shut result = result ≡ pulled.Closed
