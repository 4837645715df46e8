use Rattle.std.proofs.Common.{ap, subst, sym, ◌∙◌, SFits, w64}
use Rattle.std.proofs.lemmas.Int.{to_z-of_z}
use Rattle.rel_value.specs.Views.{shown}
use Rattle.rel_eval.specs.declared.one_value.OneValue.{OneValue}
use Rattle.rel_eval.specs.Ones.{OneIsSound, TellsOne, one_has_failed}
use Rattle.rel_eval.specs.Singles.{worded}
use Rattle.rel_eval.proofs.Singles.{text_of_value, text_of_error, text_of_failed, text_of_memory}
use Rattle.rel_eval.proofs.one_texts.told.Goals as goal

pub worded-requires-clause-sound : goal.worded-requires-clause-sound
worded-requires-clause-sound c = subst (λ (x : OneValue). OneIsSound x) c.in-Value.is c.requires.sound

pub returns-in-Value-clause-tells : goal.returns-in-Value-clause-tells
returns-in-Value-clause-tells c = λ t looks h.
    let f : SFits w64 c.args.offset = c.ranges.offset in
    text_of_value (worded c.args.span c.args.offset) t looks (shown c.in-Value.value) c.worded.result (subst (λ (x : OneValue). TellsOne t x looks) c.in-Value.is h) (simp to_z-of_z at c.worded.ensures.tells)

pub returns-in-Value-clause-failed : goal.returns-in-Value-clause-failed
returns-in-Value-clause-failed c = c.worded.ensures.failed ∙ sym (ap one_has_failed c.in-Value.is)

pub returns-in-Error-clause-tells : goal.returns-in-Error-clause-tells
returns-in-Error-clause-tells c = λ t looks h. text_of_error (worded c.args.span c.args.offset) t looks c.in-Error.kind c.in-Error.place (subst (λ (x : OneValue). TellsOne t x looks) c.in-Error.is h)

pub returns-in-Failed-clause-tells : goal.returns-in-Failed-clause-tells
returns-in-Failed-clause-tells c = λ t looks h. text_of_failed (worded c.args.span c.args.offset) t looks c.in-Failed.place (subst (λ (x : OneValue). TellsOne t x looks) c.in-Failed.is h)

pub returns-in-Memory-clause-tells : goal.returns-in-Memory-clause-tells
returns-in-Memory-clause-tells c = λ t looks h. text_of_memory (worded c.args.span c.args.offset) t looks (subst (λ (x : OneValue). TellsOne t x looks) c.in-Memory.is h)
