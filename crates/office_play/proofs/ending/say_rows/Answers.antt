use Rattle.std.proofs.Common.{[], ◌∷◌, ◌++◌, refl, ap, ◌∙◌}
use Rattle.std.proofs.lemmas.Result.{on_ok_weaker}
use Rattle.office_rules.specs.OfficeLines.{count_line}
use Rattle.office_play.proofs.ending.say_rows.Goals as goal

pub returns-in-Rows-clause-lines : goal.returns-in-Rows-clause-lines
returns-in-Rows-clause-lines c =
    on_ok_weaker c.say_words.result
    (λ said. said ∙ ap (λ n. c.args.out.now ++ count_line (c.args.word.now ∷ []) n) (c.in-Rows.ensures.counts.rows c.args.keeper.now refl))
    c.say_words.ensures
