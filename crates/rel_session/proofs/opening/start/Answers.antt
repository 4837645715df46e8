use mir.Val.{to_z, of_z}
use Rattle.std.proofs.Common.{None, ap, ◌∙◌, rules, SFits, w64}
use Rattle.std.proofs.lemmas.Int.{to_z-of_z}
use Rattle.rel_eval.specs.Cuts.{meaning}
use Rattle.rel_eval.specs.Questions.{plan_of}
use Rattle.rel_session.specs.Waiting.{left_of, meaning_of, span_of}
use Rattle.rel_session.proofs.opening.start.Goals as goal

pub returns : goal.returns
unfolding left_of meaning_of span_of
returns c =
    let asked = c.args.asked in
    let moment : SFits w64 c.args.asked.moment = search rules in
    let offset : SFits w64 c.args.asked.asking.offset = search rules in
    let plan = plan_of c.args.question.now in
    record {
      rest = λ w. c.in_ok-cursor.ensures.rest w
          ∙ ap (λ z. meaning w (record { moment = z; offset = to_z w64 (of_z w64 asked.asking.offset); parameters = c.new.result; exit = None }) plan) (to_z-of_z w64 asked.moment moment)
          ∙ ap (λ z. meaning w (record { moment = asked.moment; offset = z; parameters = c.new.result; exit = None }) plan) (to_z-of_z w64 asked.asking.offset offset)
          ∙ ap (λ l. meaning w (record { moment = asked.moment; offset = asked.asking.offset; parameters = l; exit = None }) plan) c.new.ensures;
      span = c.span.ensures;
    }
