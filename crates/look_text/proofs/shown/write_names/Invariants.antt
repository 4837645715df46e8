use Rattle.std.proofs.Common.{◌≡◌, ◌++◌, take}
use Rattle.std.specs.Prelude.{flat_map}
use Rattle.line_forms.specs.Fields.{field_text}
use Rattle.look_text.proofs.shown.write_names.Given as goal

-- the texts of the names so far were written
abbrev pub invariant-loop-name : goal.invariant-loop-name
invariant-loop-name l = l.words ≡ l.initial.words ++ flat_map field_text (take l.name-index l.names)
