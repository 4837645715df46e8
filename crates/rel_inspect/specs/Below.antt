-- The files below a folder.
use Rattle.std.specs.Prelude.{ℕ, zero, suc, if◌then◌else◌, List, [], ◌∷◌}
use Rattle.bf_world.specs.declared.answer.Entry.{Entry}
use Rattle.bf_world.specs.declared.key.Key.TheVariants as key
use Rattle.bf_world.specs.Paths.{joined}
use Rattle.bf_world.specs.Shown.{shown}
use Rattle.bf_world.specs.Worlds.{WorldState}
use Rattle.rel_value.specs.Plain.{file}
use Rattle.rel_sources.specs.Traces.{Trace, After, Look, Turn, none, one, follow}
use Rattle.rel_sources.specs.Rows.{entries_of}

-- what follows an entry's turn: of a file the file, of a folder what is below it
abbrev pub in_place : (List ℕ → Trace) → List ℕ → Entry → Trace
in_place deeper path e = if e.folder then deeper (joined path e.name) else one (file (joined path e.name))

-- the entries of a folder, a turn before each
abbrev pub entries_below : (List ℕ → Trace) → List ℕ → List Entry → Trace
entries_below deeper path [] = none
entries_below deeper path (e ∷ es) = After Turn (follow (in_place deeper path e) (entries_below deeper path es))

-- the files below a folder, in at most so many folders one in the other: its list, and then its entries in their order
unfoldable pub below : WorldState → ℕ → List ℕ → Trace
below w zero path = none
below w (suc n) path =
    After (Look (key.List path)) (entries_below (below w n) path (entries_of (shown w (key.List path))))

-- A path has at most 1,024 bytes, so no more folders stand in one another.
abbrev pub descendants : WorldState → List ℕ → Trace
descendants w path = below w 1024 path
