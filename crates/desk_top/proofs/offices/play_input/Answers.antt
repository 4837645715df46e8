use Rattle.std.proofs.Common.{Err, subst}
use Rattle.office_text.specs.declared.error.OfficeError.{OfficeError}
use Rattle.office_text.specs.Offices.{ReadsOffice}
use Rattle.desk_top.proofs.Ends.{office_refused, play_ends}
use Rattle.desk_top.proofs.offices.play_input.Goals as goal

pub play_office-requires : goal.play_office-requires
play_office-requires g c = c.in-Ok.ensures.1.each

pub returns-in-Ok-clause-ends : goal.returns-in-Ok-clause-ends
returns-in-Ok-clause-ends g c =
    play_ends c.args.input.now c.in-Ok.orders c.play_office.result c.status_of_play.result (g.W.Sink.told c.args.sink.now)
    (g.W.Sink.told c.play_office.new.sink) _ c.in-Ok.ensures c.play_office.ensures.writes c.status_of_play.ensures

pub returns-in-Err-BadLine-clause-ends : goal.returns-in-Err-BadLine-clause-ends
returns-in-Err-BadLine-clause-ends g c =
    let Read : OfficeError → Type 0 = λ e. ReadsOffice c.args.input.now (Err e) in
    let reads = subst Read c.in-Err-BadLine.field-0-is c.in-Err-BadLine.ensures in
    office_refused c.an_office_is_read.ensures c.args.input.now c.in-Err-BadLine.number c.refuse.result (g.W.Sink.told c.args.sink.now)
    (g.W.Sink.told c.refuse.new.sink) _ reads c.refuse.ensures.ends
