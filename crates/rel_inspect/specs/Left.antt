-- What a walk has still to give.
use Rattle.std.specs.Prelude.{◌≡◌, ℕ, All, ⊤}
use Rattle.std.specs.declared.option.Option.{Option}
use Rattle.std.specs.declared.option.Option.TheVariants.{Some, None}
use Rattle.bf_world.specs.declared.key.Key.{Key}
use Rattle.bf_world.specs.Shown.{shown}
use Rattle.bf_world.specs.Worlds.{WorldState}
use Rattle.rel_sources.specs.declared.scene.Scene.{Scene}
use Rattle.rel_inspect.specs.declared.walk.State.{State}
use Rattle.rel_inspect.specs.declared.walk.State.TheVariants as state
use Rattle.rel_inspect.specs.declared.walk.Walk.{Walk}
use Rattle.rel_sources.specs.Traces.{Trace, After, Look, before, once, turns}
use Rattle.rel_sources.specs.Draws.{item_in, IsSoundItem, values_in}
use Rattle.rel_sources.specs.Sources.{items_in}
use Rattle.rel_inspect.specs.Facets.{IsSoundOnce, once_item, once_values, facet_item, listed_items}
use Rattle.rel_inspect.specs.Descents.{descent_left, asked_below, files_ahead}

abbrev pub state_left : State → WorldState → Scene → Trace
state_left (state.LooksAt key facet) w s = After (Look key) (once (facet_item facet (shown w key)))
state_left (state.Lists key listing) w s = After (Look key) (turns (listed_items listing (shown w key)))
state_left (state.Once o) w s = once (once_item o s)
state_left (state.Turns t) w s = before (item_in t.held) (turns (items_in t.source))
state_left (state.Descends d) w s = descent_left w d

abbrev pub left : Walk → WorldState → Scene → Trace
left walk w s = state_left walk.state w s

-- how many values it can give before its next look or turn: none or one
abbrev pub state_values : State → ℕ
state_values (state.LooksAt key facet) = 0
state_values (state.Lists key listing) = 0
state_values (state.Once o) = once_values o
state_values (state.Turns t) = values_in (item_in t.held)
state_values (state.Descends d) = files_ahead d

abbrev pub values_ahead : Walk → ℕ
values_ahead walk = state_values walk.state

-- The values that are held or found already are sound.
abbrev pub IsSoundState : State → Type 0
IsSoundState (state.LooksAt key facet) = ⊤
IsSoundState (state.Lists key listing) = ⊤
IsSoundState (state.Once o) = IsSoundOnce o
IsSoundState (state.Turns t) = IsSoundItem (item_in t.held) × All IsSoundItem (items_in t.source)
IsSoundState (state.Descends d) = ⊤

abbrev pub IsSoundWalk : Walk → Type 0
IsSoundWalk walk = IsSoundState walk.state

-- A walk begins with this trace, whatever the world and the scene.
abbrev pub Begins : State → (WorldState → Scene → Trace) → Type 0
Begins st trace = ((w : WorldState) (s : Scene) → state_left st w s ≡ trace w s) × IsSoundState st

-- the key of the look that is the next event, where a look is
abbrev pub asked : State → Option Key
asked (state.LooksAt key facet) = Some key
asked (state.Lists key listing) = Some key
asked (state.Once o) = None
asked (state.Turns t) = None
asked (state.Descends d) = asked_below d
