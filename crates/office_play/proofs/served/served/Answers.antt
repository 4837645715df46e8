use Rattle.std.proofs.Common.{sym, subst}
use Rattle.turn_lines.specs.declared.giver.Given.{Given}
use Rattle.office_play.specs.Files.{RowsServe}
use Rattle.office_play.proofs.Serving.{serves}
use Rattle.office_play.proofs.served.served.Goals as goal

pub returns-in-Ok : goal.returns-in-Ok
returns-in-Ok c =
    subst (λ (g : Given). RowsServe c.args.keeper.now c.args.digest.now g c.answer.new.keeper) (sym c.brought.ensures)
    (serves c.args.keeper.now c.answer.new.keeper c.args.digest.now c.in-Ok.reply c.in-Ok.ensures.answers)
