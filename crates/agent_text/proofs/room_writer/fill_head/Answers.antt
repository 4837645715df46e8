use Rattle.std.proofs.Common.{◌++◌, ◌∷◌, [], ap, ◌∙◌, arith}
use Rattle.std.specs.Prelude.{codes, decimal}
use Rattle.agent_text.proofs.FillLemmas.{head_parts}
use Rattle.agent_text.proofs.room_writer.fill_head.Goals as goal

pub returns : goal.returns
returns c =
    let name = c.as_bytes.ensures.value ∙ c.as_str.ensures in (
      c.push.ensures.0
          ∙ ap (λ l. l ++ 10 ∷ []) (c.decimal.ensures.0 ∙ ap (λ l. l ++ decimal c.args.next) (c.extend-3.ensures.0
          ∙ ap (λ l. l ++ codes "\nnext ") (c.extend-2.ensures.0 ∙ (λ t. c.extend.ensures.0 t ++ name t))))
          ∙ head_parts c.args.room.now.bytes c.args.computer.now (decimal c.args.next),
      omega arith,
    )
