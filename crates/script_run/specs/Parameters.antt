-- The names of parameters, by which they are looked up. Only private functions cite these definitions.
use Rattle.std.specs.Prelude.{◌≡◌, ℕ, List, is_some, String}
use Rattle.std.specs.declared.alloc.Global.{Global}
use Rattle.std.specs.BTreeSet.{BTreeSet, contains_text}
use Rattle.rel_sources.specs.declared.pair.Pair.{Pair}
use Rattle.rel_sources.specs.Scenes.{value_of}

-- the names are those of the parameters
abbrev pub Names : BTreeSet (String Global) → List Pair → Type 0
Names names parameters = (name : List ℕ) → contains_text names name ≡ is_some (value_of name parameters)
