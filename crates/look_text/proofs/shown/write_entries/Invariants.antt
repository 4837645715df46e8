use Rattle.std.proofs.Common.{◌≡◌, ◌++◌, take}
use Rattle.std.specs.Prelude.{flat_map}
use Rattle.look_text.specs.Texts.{entry_text}
use Rattle.look_text.proofs.shown.write_entries.Given as goal

-- the texts of the entries so far were written
abbrev pub invariant-loop-entry : goal.invariant-loop-entry
invariant-loop-entry l = l.words ≡ l.initial.words ++ flat_map entry_text (take l.entry-index l.entries)
