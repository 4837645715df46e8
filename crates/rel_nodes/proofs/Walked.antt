-- A walk gives at most one value before its next look or turn.
use Rattle.std.proofs.Common.{◌≤◌, arith}
use Rattle.rel_inspect.specs.declared.descent.Ahead.{Ahead}
use Rattle.rel_inspect.specs.declared.descent.Ahead.TheVariants as ahead
use Rattle.rel_inspect.specs.declared.once.Once.{Once}
use Rattle.rel_inspect.specs.declared.once.Once.TheVariants as once
use Rattle.rel_inspect.specs.declared.walk.State.{State}
use Rattle.rel_inspect.specs.declared.walk.State.TheVariants as state
use Rattle.rel_inspect.specs.declared.walk.Walk.{Walk}
use Rattle.rel_sources.specs.Traces.{Item, Absent, Present, Unfit}
use Rattle.rel_sources.specs.Draws.{item_in, values_in}
use Rattle.rel_inspect.specs.Facets.{once_values}
use Rattle.rel_inspect.specs.Descents.{files_of}
use Rattle.rel_inspect.specs.Left.{state_values, values_ahead}

item_le : (i : Item) → values_in i ≤ 1
item_le Absent = omega arith
item_le (Present v) = omega arith
item_le Unfit = omega arith

once_le : (o : Once) → once_values o ≤ 1
once_le (once.Held h) = item_le (item_in h)
once_le (once.Sought what) = omega arith

files_le : (a : Ahead) → files_of a ≤ 1
files_le ahead.Turn = omega arith
files_le (ahead.File path) = omega arith
files_le (ahead.Look key) = omega arith

state_le : (st : State) → state_values st ≤ 1
state_le (state.LooksAt key facet) = omega arith
state_le (state.Lists key listing) = omega arith
state_le (state.Once o) = once_le o
state_le (state.Turns t) = item_le (item_in t.held)
state_le (state.Descends d) = files_le d.ahead

pub values_le : (w : Walk) → values_ahead w ≤ 1
values_le w = state_le w.state
