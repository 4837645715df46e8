use Rattle.std.proofs.Common.{ℕ, List, [], ◌∷◌, ◌++◌, refl, ap, ◌∙◌}
use Rattle.line_forms.proofs.Sequences.{taken_all, taken_more}
use Rattle.line_forms.specs.Names.{IsRest}
use Rattle.fix_site.specs.Contents.{relevance_line}
use Rattle.fix_site.specs.Readings.{Anywhere}
use Rattle.fix_site.proofs.content_reader.take_relevance.Goals as goal

pub loop-question-preserved : goal.loop-question-preserved
loop-question-preserved c =
    let taken = taken_more (Anywhere IsRest) relevance_line c.args.lines.now c.loop-question.lines c.take_rest.new.lines c.loop-question.questions.items c.loop-question.questions.items c.push.new.self.items c.in-Some.question.now
    c.loop-question.invariant.good c.loop-question.invariant.passes refl (c.in_ok-push.ensures.items ∙ ap (λ (q : List ℕ). c.loop-question.questions.items ++ q ∷ []) c.in_ok-from_str.ensures) c.in-Some.ensures.0 c.in-Some.ensures.1 in
    record { good = taken.0; passes = taken.1 }

pub returns : goal.returns
returns c =
    taken_all (Anywhere IsRest) relevance_line c.args.lines.now c.loop-question.lines c.take_rest.new.lines c.loop-question.questions.items c.loop-question.questions.items c.from_vec.result
    c.loop-question.invariant.good c.loop-question.invariant.passes refl c.from_vec.ensures c.in_default.ensures.0 c.in_default.ensures.1
