-- Notes of attempts.
use Rattle.std.specs.Prelude.{None}
use Rattle.act_rules.specs.declared.row.Note.{Note}

-- the empty note
abbrev pub no_note : Note
no_note = record { exit = None; place = None }
