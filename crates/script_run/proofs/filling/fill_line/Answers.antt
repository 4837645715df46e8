use Rattle.std.proofs.Common.{[], ◌∷◌}
use Rattle.script_run.specs.LineWalks.{lining, ended}
use Rattle.script_run.specs.Asking.{known_in}
use Rattle.script_run.proofs.Texts.{appended}
use Rattle.script_run.proofs.filling.fill_line.Goals as goal

pub returns : goal.returns
returns g c = λ templates. record {
  fills = λ line midway behind.
      let a = c.in_ok-fill.ensures.fills line midway (λ midway more. lining line midway templates (ended more) behind) in
      appended _ line _ _ _ _ c.fill.new.out (10 ∷ []) _ _ a.0 (λ midway text. lining line midway templates text behind (known_in c.args.kept.now.scene)) a.1 c.append.ensures;
  only = c.in_ok-fill.ensures.only;
}
