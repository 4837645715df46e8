-- The fronts of names. Only private functions cite this definition.
use Rattle.std.specs.Prelude.{ℕ, ◌-◌, List, ◌++◌, length, take, replicate}

-- the first 24 bytes of a name, and zeros behind those of a shorter one
abbrev pub front_of : List ℕ → List ℕ
front_of name = take 24 name ++ replicate (24 - length name) 0
