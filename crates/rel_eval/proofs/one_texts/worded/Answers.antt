use Rattle.std.proofs.Common.{refl, []}
use Rattle.rel_value.specs.Views.{shown}
use Rattle.rel_eval.specs.Singles.{worded}
use Rattle.rel_eval.proofs.Skips.{same_skips}
use Rattle.rel_eval.proofs.one_texts.worded.Goals as goal

pub returns-in-Err : goal.returns-in-Err
returns-in-Err c =
    let t = worded c.args.span c.args.offset (shown c.args.value.now) in
    record { tells = (t, same_skips t t [] refl refl); failed = refl }
