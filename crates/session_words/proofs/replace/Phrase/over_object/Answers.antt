use Rattle.std.proofs.Common.{◌∙◌, ap, not}
use Rattle.rel_grammar.specs.Holding.{shown_held}
use Rattle.rel_grammar.specs.Trees.{phrase}
use Rattle.rel_grammar.proofs.Shown.{shown-Phrase}
use Rattle.session_words.proofs.Phrases.{has_none, over_it}
use Rattle.session_words.proofs.replace.Phrase.over_object.Goals as goal

pub returns-then-is_none : goal.returns-then-is_none
returns-then-is_none c =
    let old = c.args.self in
    c.into_tree.ensures
    ∙ has_none old.place old.words (shown_held old.argument) (shown_held old.filter) c.args.words.now old.object (c.is_none.ensures ∙ ap not c.if-is_none.true)

pub returns : goal.returns
returns c =
    let old = c.args.self in
    shown-Phrase old.place c.in_ok-from_str.field-0 old.argument old.filter old.object
    ∙ (λ i. phrase old.place (c.in_ok-from_str.ensures i) (shown_held old.argument) (shown_held old.filter) (shown_held old.object))
    ∙ over_it old.place old.words (shown_held old.argument) (shown_held old.filter) c.args.words.now old.object (c.is_none.ensures ∙ ap not c.if-is_none.false)
