use Rattle.std.proofs.Common.{◌≡◌, ◌++◌, map}
use Rattle.bf_world.specs.Maps.{by_bytes}
use Rattle.session_tables.specs.Inside.{named_entry}
use Rattle.session_tables.proofs.entries.entry_list.Given as goal

-- the entries so far and those of what is left are all entries
abbrev pub invariant-loop-name : goal.invariant-loop-name
invariant-loop-name l = l.entries.items ++ map named_entry (by_bytes l.name-iterator) ≡ map named_entry l.names
