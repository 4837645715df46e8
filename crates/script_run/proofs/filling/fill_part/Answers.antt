use Rattle.std.proofs.Common.{true, ◌++◌, sym, ap, ◌∙◌}
use Rattle.std.proofs.lemmas.Result.{err_from_is_err_and}
use Rattle.bf_machine.proofs.Looking.{OnlyLooks-refl}
use Rattle.script_text.specs.declared.template.Part2.TheVariants.{Plain}
use Rattle.script_run.specs.LineWalks.{filling}
use Rattle.script_run.proofs.Texts.{part_plain, part_said, part_broken}
use Rattle.script_run.proofs.Preparing.{asks_err}
use Rattle.script_run.proofs.filling.fill_part.Goals as goal

pub returns-in-Plain : goal.returns-in-Plain
returns-in-Plain g c = λ parts. record {
  fills = λ line midway behind.
      part_plain _ line midway _ _ c.args.part.now c.as_str.result.now c.args.out.now _ _ parts behind (c.in-Plain.is ∙ ap Plain (sym c.as_str.ensures)) c.append.ensures;
  only = OnlyLooks-refl _;
}

pub returns-in_err-text-in-Expression : goal.returns-in_err-text-in-Expression
returns-in_err-text-in-Expression g c = λ parts.
    let p = err_from_is_err_and c.from_residual.result c.from_residual.ensures.1 in
    let e = c.in_err-text-in-Expression.ensures in
    asks_err _ _ _ _ _ _ _ _ p.1 p.2
    (λ line midway behind.
    part_broken _ line midway _ _ c.args.part.now c.in-Expression.expression c.args.out.now _ _ parts behind c.in-Expression.is
    (e.fills line midway (λ more. filling line true parts (c.args.out.now ++ more) behind)))
    e.only

pub returns-in_ok-text-in-Expression : goal.returns-in_ok-text-in-Expression
returns-in_ok-text-in-Expression g c = λ parts.
    let e = c.in_ok-text-in-Expression.ensures in
    record {
      fills = λ line midway behind.
          part_said _ line midway _ _ c.args.part.now c.in-Expression.expression c.args.out.now c.as_str-in-Expression.result.now _ _ _ parts behind c.in-Expression.is
          (rw c.as_str-in-Expression.ensures (e.fills line midway (λ more. filling line true parts (c.args.out.now ++ more) behind)).1)
          c.append-in-Expression.ensures;
      only = e.only;
    }
