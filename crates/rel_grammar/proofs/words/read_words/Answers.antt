use Rattle.std.proofs.Common.{◌∙◌, ◌++◌, ap}
use Rattle.rel_grammar.proofs.Naming.{words_begin, words_more}
use Rattle.rel_grammar.proofs.words.read_words.Goals as goal

pub loop-last-init : goal.loop-last-init
loop-last-init c = λ w e. words_begin w c.args.place _ c.in_ok-text.text (c.in_ok-text.ensures ∙ e)

pub loop-last-preserved : goal.loop-last-preserved
loop-last-preserved c = λ w e. words_more w c.args.place _ c.loop-last.text c.loop-last.place _ c.in-Some.last c.in-Some.word.now _ c.push-in-Some.new.self (c.loop-last.invariant w e) c.in-Some.ensures (c.in_ok-push-2.ensures.ok ∙ ap (λ t. c.push.new.self ++ t) c.as_str.ensures ∙ ap (λ t. t ++ c.in-Some.word.now) c.in_ok-push.ensures.ok)
