-- What the files below a folder have still to give.
use Rattle.std.specs.Prelude.{◌≡◌, ℕ, suc, ◌-◌, List, [], ◌∷◌, ◌++◌, drop, length}
use Rattle.std.specs.declared.option.Option.{Option}
use Rattle.std.specs.declared.option.Option.TheVariants.{Some, None}
use Rattle.bf_world.specs.declared.key.Key.{Key}
use Rattle.bf_world.specs.declared.key.Key.TheVariants as key
use Rattle.bf_world.specs.declared.answer.Entry.{Entry}
use Rattle.bf_world.specs.Shown.{shown}
use Rattle.bf_world.specs.Worlds.{WorldState}
use Rattle.rel_value.specs.Plain.{file}
use Rattle.rel_inspect.specs.declared.descent.Level.{Level}
use Rattle.rel_inspect.specs.declared.descent.Ahead.{Ahead}
use Rattle.rel_inspect.specs.declared.descent.Ahead.TheVariants as ahead
use Rattle.rel_inspect.specs.declared.descent.Descent.{Descent}
use Rattle.rel_sources.specs.Traces.{Trace, After, Look, Give, none, follow}
use Rattle.rel_sources.specs.Rows.{entries_of}
use Rattle.rel_inspect.specs.Below.{entries_below, below}

-- the entries of a folder that stands in so many others
abbrev pub entries_left : WorldState → ℕ → List ℕ → List Entry → Trace
entries_left w depth path entries = entries_below (below w (1023 - depth)) path entries

-- the entries of a folder that are left
abbrev pub level_left : WorldState → ℕ → Level → Trace
level_left w depth l = entries_left w depth l.path (drop l.next l.entries)

-- what the folders leave in which the top one stands, from the first, which stands in so many others
abbrev pub levels_left : WorldState → ℕ → Trace → List Level → Trace
levels_left w depth rest [] = rest
levels_left w depth rest (l ∷ ls) = levels_left w (suc depth) (follow (level_left w depth l) rest) ls

-- what the folders above leave
abbrev pub above_left : WorldState → Descent → Trace
above_left w d = levels_left w 0 none d.above.items

-- what the top folder leaves, with what is left of it
abbrev pub with_above : WorldState → Descent → Trace → Trace
with_above w d t = follow t (above_left w d)

abbrev pub ahead_left : WorldState → Descent → Ahead → Trace
ahead_left w d ahead.Turn = with_above w d (level_left w (length d.above.items) d.top)
ahead_left w d (ahead.File path) = After (Give (file path)) (with_above w d (level_left w (length d.above.items) d.top))
ahead_left w d (ahead.Look key) =
    After (Look key) (with_above w d (entries_left w (length d.above.items) d.top.path (entries_of (shown w key))))

abbrev pub descent_left : WorldState → Descent → Trace
descent_left w d = ahead_left w d d.ahead

-- the key of the look that is the next event, where a look is
abbrev pub key_of : Ahead → Option Key
key_of (ahead.Look key) = Some key
key_of _ = None

abbrev pub asked_below : Descent → Option Key
asked_below d = key_of d.ahead

-- how many files come before the next look or turn
abbrev pub files_of : Ahead → ℕ
files_of (ahead.File path) = 1
files_of _ = 0

abbrev pub files_ahead : Descent → ℕ
files_ahead d = files_of d.ahead

-- The top folder goes above the one of this path, whose entries are looked up next.
pub record Enters (old : Descent) (path : List ℕ) (new : Descent) : Type 0 where
  pub ahead : new.ahead ≡ ahead.Look (key.List path)
  pub top : new.top.path ≡ path
  pub above : new.above.items ≡ old.above.items ++ (old.top ∷ [])
