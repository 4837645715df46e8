use Rattle.std.proofs.Common.{◌↔◌, subst, sym}
use Rattle.std.specs.Prelude.{Bool, IsTrue}
use Rattle.desk_top.specs.Commands.{AsksSome, FindsKeeper}
use Rattle.desk_top.proofs.WordsOfSession.{finds}
use Rattle.desk_top.proofs.command.finds_keeper.Goals as goal

pub returns : goal.returns
returns c =
    subst (λ (b : Bool). IsTrue b ↔ AsksSome c.args.words.now FindsKeeper) (sym c.is_some.ensures)
    (finds c.args.words.now c.what_to_question.result c.what_to_question.ensures)
