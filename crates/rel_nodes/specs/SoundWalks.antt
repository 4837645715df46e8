-- A walk is sound in one way at most. No contract speaks of it.
use Rattle.std.specs.Coded.{×_prop, Unit-prop, le_prop}
use Rattle.std.proofs.Props.{props}
use Rattle.rel_value.specs.Operands.{AreSound, IsSound}
use Rattle.rel_value.specs.Plain.{Plain, words, part, time, setting, tuple, Parts, no_parts, more_parts}
use Rattle.rel_inspect.specs.declared.once.Once.{Once}
use Rattle.rel_inspect.specs.declared.once.Once.TheVariants as once
use Rattle.rel_inspect.specs.declared.walk.State.{State}
use Rattle.rel_inspect.specs.declared.walk.State.TheVariants as state
use Rattle.rel_inspect.specs.declared.walk.Walk.{Walk}
use Rattle.rel_sources.specs.Draws.{IsSoundItem, item_in}
use Rattle.rel_inspect.specs.Facets.{IsSoundOnce}
use Rattle.rel_inspect.specs.Left.{IsSoundState, IsSoundWalk}
use Rattle.rel_sources.specs.Traces.{Item, Absent, Present, Unfit}

mutual
  sound-prop : (v : Plain) → IsProp (IsSound v)
  sound-prop (words t) = le_prop
  sound-prop (part w from to) = hlevel props
  sound-prop (time z) = hlevel props
  sound-prop (setting n v d) = hlevel props
  sound-prop (tuple ps) = parts-prop ps
  sound-prop _ = Unit-prop

  parts-prop : (ps : Parts) → IsProp (AreSound ps)
  parts-prop no_parts = Unit-prop
  parts-prop (more_parts ps v) = ×_prop (parts-prop ps) (sound-prop v)

item-prop : (i : Item) → IsProp (IsSoundItem i)
item-prop Absent = Unit-prop
item-prop (Present v) = sound-prop v
item-prop Unfit = Unit-prop

once-prop : (o : Once) → IsProp (IsSoundOnce o)
once-prop (once.Held held) = item-prop (item_in held)
once-prop (once.Sought what) = Unit-prop

state-prop : (st : State) → IsProp (IsSoundState st)
state-prop (state.LooksAt key facet) = Unit-prop
state-prop (state.Lists key listing) = Unit-prop
state-prop (state.Once o) = once-prop o
state-prop (state.Turns t) = hlevel (props, item-prop)
state-prop (state.Descends d) = Unit-prop

pub walk-prop : (w : Walk) → IsProp (IsSoundWalk w)
walk-prop w = state-prop w.state
