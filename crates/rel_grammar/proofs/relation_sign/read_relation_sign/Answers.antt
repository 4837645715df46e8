use Rattle.std.proofs.Common.{false}
use Rattle.std.proofs.lemmas.Result.{err_from_is_err_and}
use Rattle.rel_grammar.proofs.RelationJoins.{comparison_read, contains_read, is_read, is_fails, does_read, does_fails_first, starts_read, ends_read}
use Rattle.rel_grammar.proofs.relation_sign.read_relation_sign.Goals as goal

pub returns-in-Some : goal.returns-in-Some
returns-in-Some c = comparison_read _ c.in-Some.related.0 c.in-Some.related.1 _ c.in-Some.ensures

pub returns-in_err-after_is : goal.returns-in_err-after_is
returns-in_err-after_is c = let p = err_from_is_err_and c.from_residual.result c.from_residual.ensures.1 in rw (p.1, p.2) (is_fails c.args.end _ _ _ _ (c.in-Some-after.ensures false) c.in_err-after_is.ensures)

pub returns-in-Some-after : goal.returns-in-Some-after
returns-in-Some-after c = is_read _ _ _ c.in_ok-after_is.field-0.0 c.in_ok-after_is.field-0.1 _ (c.in-Some-after.ensures false) c.in_ok-after_is.ensures

pub returns-in-Some-after-2 : goal.returns-in-Some-after-2
returns-in-Some-after-2 c = contains_read _ _ _ (c.in-Some-after-2.ensures false)

pub returns-in-Some-after-3 : goal.returns-in-Some-after-3
returns-in-Some-after-3 c = starts_read _ _ _ c.in_ok-last_word.field-0.0 c.in_ok-last_word.field-0.1 _ (c.in-Some-after-3.ensures false) c.in_ok-last_word.ensures.0 c.in_ok-last_word.ensures.1

pub returns-in-Some-after-4 : goal.returns-in-Some-after-4
returns-in-Some-after-4 c = ends_read _ _ _ c.in_ok-last_word-2.field-0.0 c.in_ok-last_word-2.field-0.1 _ (c.in-Some-after-4.ensures false) c.in_ok-last_word-2.ensures.0 c.in_ok-last_word-2.ensures.1

pub returns-in_err-after_does : goal.returns-in_err-after_does
returns-in_err-after_does c = let p = err_from_is_err_and c.from_residual-in_err-after_does.result c.from_residual-in_err-after_does.ensures.1 in rw (p.1, p.2) (does_fails_first c.args.end _ _ _ _ (c.in-Some-after-5.ensures false) c.in_err-after_does.ensures)

pub returns-in-Some-after-5 : goal.returns-in-Some-after-5
returns-in-Some-after-5 c = does_read _ _ _ c.in_ok-after_does.field-0.0 c.in_ok-after_does.field-0.1 _ (c.in-Some-after-5.ensures false) c.in_ok-after_does.ensures
