use Rattle.std.proofs.Common.{false}
use Rattle.std.proofs.lemmas.Result.{MatchResult-weaker}
use Rattle.rel_grammar.proofs.RelationJoins.{does_fails, start_read, start_fails, end_read, end_fails, contain_read, contain_fails}
use Rattle.rel_grammar.proofs.relation_sign.after_does.Goals as goal

pub returns-in_default : goal.returns-in_default
returns-in_default c = does_fails c.args.first c.args.end _ c.place_at.result (c.in_default.ensures false) (c.place_at.ensures false)

pub returns-in-Some-after : goal.returns-in-Some-after
returns-in-Some-after c = MatchResult-weaker c.last_word.result c.last_word.ensures (λ r h. start_read c.args.first _ _ _ _ _ r.0 r.1 _ (c.in-Some.ensures false) (c.in-Some-after.ensures false) h.0 h.1) (λ e h. start_fails c.args.first _ _ c.args.end _ _ _ e (c.in-Some.ensures false) (c.in-Some-after.ensures false) h)

pub returns-in-Some-after-2 : goal.returns-in-Some-after-2
returns-in-Some-after-2 c = MatchResult-weaker c.last_word-in-Some-after-2.result c.last_word-in-Some-after-2.ensures (λ r h. end_read c.args.first _ _ _ _ _ r.0 r.1 _ (c.in-Some.ensures false) (c.in-Some-after-2.ensures false) h.0 h.1) (λ e h. end_fails c.args.first _ _ c.args.end _ _ _ e (c.in-Some.ensures false) (c.in-Some-after-2.ensures false) h)

pub returns : goal.returns
returns c = MatchResult-weaker c.last_word-2.result c.last_word-2.ensures (λ r h. contain_read c.args.first _ _ _ r.0 r.1 _ (c.in-Some.ensures false) h.0 h.1) (λ e h. contain_fails c.args.first _ c.args.end _ _ e (c.in-Some.ensures false) (c.in_default-after.ensures false) (c.in_default-after-2.ensures false) h)
