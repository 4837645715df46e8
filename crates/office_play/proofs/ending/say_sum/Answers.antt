use Rattle.std.proofs.Common.{◌++◌, ap, ◌∙◌}
use Rattle.std.proofs.lemmas.Result.{on_ok_weaker}
use Rattle.office_play.proofs.EndLines.{sum_said}
use Rattle.office_play.proofs.ending.say_sum.Goals as goal

pub returns : goal.returns
returns c =
    on_ok_weaker c.say_words.result (λ said results is. said ∙ ap (λ l. c.args.out.now ++ l) (sum_said c.args.sum results is))
    c.say_words.ensures
