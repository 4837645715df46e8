use Rattle.std.proofs.Common.{Err, subst, sym}
use Rattle.desk_rounds.specs.Listing.{ReadsNamed}
use Rattle.desk_rounds.proofs.Judging.{missed_text, read_name}
use Rattle.desk_rounds.proofs.replies.read_named.Goals as goal

pub returns-in-Ok : goal.returns-in-Ok
returns-in-Ok c = read_name c.args.name.now c.args.text.now c.in-Ok.site c.named.result c.one_reading.ensures c.in-Ok.ensures c.named.ensures

pub returns-in-Err : goal.returns-in-Err
returns-in-Err c =
    subst (λ m. ReadsNamed c.args.name.now c.args.text.now (Err m)) (sym c.miss_of.ensures)
    (missed_text c.args.name.now c.args.text.now c.in-Err.error c.one_reading.ensures c.in-Err.ensures)
