-- The calls of an object in memory, as contracts see them.
use Rattle.std.specs.Prelude.{ℕ, List, Contains}
use Rattle.desk_base.specs.Counts.{one_more}

-- the numbers of the calls that are to fail, counted from 1, and how many calls and faults there were
pub record CallState : Type 0 where
  pub fails : List ℕ
  pub made : ℕ
  pub faults : ℕ

-- no call was made yet
abbrev pub no_calls : List ℕ → CallState
no_calls fails = record { fails = fails; made = 0; faults = 0 }

-- the latest call is one of those that are to fail
abbrev pub IsListed : CallState → Type 0
IsListed now = Contains now.fails now.made

-- one call more
abbrev pub one_call : CallState → CallState
one_call old = record old { made = one_more old.made }

-- one fault more
abbrev pub one_fault : CallState → CallState
one_fault old = record old { faults = one_more old.faults }
