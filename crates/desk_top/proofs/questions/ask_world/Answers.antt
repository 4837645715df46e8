use Rattle.std.proofs.Common.{Err, subst}
use Rattle.world_text.specs.declared.error.WorldError.{WorldError}
use Rattle.world_text.specs.Texts.{ReadsWorld}
use Rattle.desk_top.proofs.Ends.{refusal_ends}
use Rattle.desk_top.proofs.questions.ask_world.Goals as goal

pub returns-in-Err-BadLine-clause-ends : goal.returns-in-Err-BadLine-clause-ends
returns-in-Err-BadLine-clause-ends g c =
    let front = c.world_front-front.result in
    let Read : WorldError → Type 0 = λ e. ReadsWorld front.world.now (Err e) in
    let reads = subst Read c.in-Err-BadLine.field-0-is c.in-Err-BadLine.ensures in
    refusal_ends c.one_front.ensures c.a_world_is_read.ensures c.args.input.now c.in-Err-BadLine.number c.refuse.result (g.W.Sink.told c.args.sink.now) (g.W.Sink.told c.refuse.new.sink) _ (front.world.now, front.rest.now, c.world_front-front.ensures, reads) (rw c.in-Err-BadLine.field-0-is at c.refuse.ensures.ends)
