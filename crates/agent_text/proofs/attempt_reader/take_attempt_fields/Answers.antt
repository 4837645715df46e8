use Rattle.std.proofs.Common.{rules, SFits, w64}
use Rattle.std.proofs.lemmas.Int.{to_z-of_z}
use Rattle.agent_text.proofs.AttemptReading.{five_fields, no_bare, no_note_ahead, row_read}
use Rattle.agent_text.proofs.attempt_reader.take_attempt_fields.Goals as goal

pub returns-in_default : goal.returns-in_default
returns-in_default c = λ row more is e. five_fields c.args.form row c.args.fields.now more c.in_default.ensures e

pub returns-in_default-read_bare_row : goal.returns-in_default-read_bare_row
returns-in_default-read_bare_row c = λ row more is e.
    no_bare c.args.form row c.in-Some.taken c.args.fields.now c.take_bare_fields.new.fields more c.in-Some.ensures c.in_default-read_bare_row.ensures is e

pub returns-in_default-take_note : goal.returns-in_default-take_note
returns-in_default-take_note c = λ row more is e.
    no_note_ahead c.args.form row c.in-Some.taken c.args.fields.now c.take_bare_fields.new.fields more c.in-Some.ensures c.in_default-take_note.ensures is e

pub returns : goal.returns
returns c =
    let begun_fits : SFits w64 c.in-Some-read_bare_row.bare.begun = search rules in
    simp to_z-of_z (row_read c.args.form c.in-Some-read_bare_row.bare c.in-Some.taken c.args.fields.now c.take_bare_fields.new.fields c.take_note.new.fields c.in-Some-take_note.note
    c.in-Some.ensures c.in-Some-read_bare_row.ensures.0 c.in-Some-read_bare_row.ensures.1 c.in-Some-take_note.ensures.0 c.in-Some-take_note.ensures.1)
