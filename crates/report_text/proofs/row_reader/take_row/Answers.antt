use Rattle.std.proofs.Common.{rules, SFits, w64}
use Rattle.std.proofs.lemmas.Bool.{iff_false}
use Rattle.std.proofs.lemmas.Int.{to_z-of_z}
use Rattle.report_text.proofs.RowReading.{five_fields, no_bare_row, no_note_ahead, other_note, row_read}
use Rattle.report_text.proofs.row_reader.take_row.Goals as goal

pub returns-in_default : goal.returns-in_default
returns-in_default c = λ row more is e. five_fields c.args.form row c.args.fields.now more c.in_default.ensures e

pub returns-in_default-read_bare_row : goal.returns-in_default-read_bare_row
returns-in_default-read_bare_row c = λ row more is e.
    no_bare_row c.args.form row c.in-Some.taken c.args.fields.now c.take_row_fields.new.fields more c.in-Some.ensures c.in_default-read_bare_row.ensures is e

pub returns-in_default-take_note : goal.returns-in_default-take_note
returns-in_default-take_note c = λ row more is e.
    no_note_ahead c.args.form row c.in-Some.taken c.args.fields.now c.take_row_fields.new.fields more c.in-Some.ensures c.in_default-take_note.ensures is e

pub returns-then-not-is_note_in : goal.returns-then-not-is_note_in
returns-then-not-is_note_in c = λ row more is e.
    other_note c.args.form row c.in-Some-read_bare_row.bare c.in-Some.taken c.args.fields.now c.take_row_fields.new.fields c.take_note.new.fields more c.in-Some-take_note.note
    c.in-Some.ensures c.in-Some-read_bare_row.ensures.0 c.in-Some-read_bare_row.ensures.1 c.in-Some-take_note.ensures.0 c.in-Some-take_note.ensures.1
    (iff_false c.is_note_in.ensures c.if-not-is_note_in.true) is e

pub returns : goal.returns
returns c =
    let begun_fits : SFits w64 c.in-Some-read_bare_row.bare.begun = search rules in
    simp to_z-of_z (row_read c.args.form c.in-Some-read_bare_row.bare c.in-Some.taken c.args.fields.now c.take_row_fields.new.fields c.take_note.new.fields c.in-Some-take_note.note
    c.in-Some.ensures c.in-Some-read_bare_row.ensures.0 c.in-Some-read_bare_row.ensures.1 (c.is_note_in.ensures.0 c.if-not-is_note_in.false) c.in-Some-take_note.ensures.1)
