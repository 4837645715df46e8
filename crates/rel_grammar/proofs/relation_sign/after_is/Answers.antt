use Rattle.std.proofs.Common.{false, true, subst}
use Rattle.std.proofs.lemmas.Result.{MatchResult-weaker}
use Rattle.rel_lexer.specs.declared.operator.BinarySign.TheVariants as operator
use Rattle.rel_grammar.specs.Machine.{read_is}
use Rattle.rel_grammar.specs.Shapes.{shaped_after}
use Rattle.rel_grammar.specs.Reads.{PartialReads}
use Rattle.rel_grammar.proofs.Peeking.{untold}
use Rattle.rel_grammar.proofs.RelationJoins.{partial_is, partial_is_not, contained_read, contained_fails, not_contained_read, not_contained_fails}
use Rattle.rel_grammar.proofs.relation_sign.after_is.Goals as goal

pub returns-in_default-after : goal.returns-in_default-after
returns-in_default-after c = partial_is_not _ c.args.first c.in-Some.negation _ (c.in-Some.ensures true) (c.in_default-after.ensures false)

pub returns-in-Some : goal.returns-in-Some
returns-in-Some c = MatchResult-weaker c.last_word.result c.last_word.ensures (λ r h. not_contained_read c.args.first _ _ _ _ _ r.0 r.1 _ (c.in-Some.ensures true) (c.in-Some-after.ensures false) h.0 h.1) (λ e h. not_contained_fails c.args.first _ _ c.args.end _ _ _ e (c.in-Some.ensures true) (c.in-Some-after.ensures false) h)

pub returns-in-Some-after-2 : goal.returns-in-Some-after-2
returns-in-Some-after-2 c = MatchResult-weaker c.last_word-in-Some-after-2.result c.last_word-in-Some-after-2.ensures (λ r h. contained_read c.args.first _ _ _ r.0 r.1 _ (c.in-Some-after-2.ensures true) h.0 h.1) (λ e h. contained_fails c.args.first _ c.args.end _ _ e (c.in-Some-after-2.ensures true) h)

pub returns-in-None : goal.returns-in-None
returns-in-None c = subst (λ l. PartialReads (read_is c.args.first) (shaped_after true c.args.rest.now) c.args.first operator.Is l) (untold c.args.rest.now (c.in_default.ensures true)) (partial_is (shaped_after true c.args.rest.now) c.args.first (c.in_default.ensures true) (c.in-None.ensures true))
