use Rattle.std.proofs.Common.{◌∙◌, Some, ap, not, pos, sym}
use Rattle.rel_grammar.specs.Holding.{shown_held}
use Rattle.rel_grammar.specs.Trees.{phrase, a_tree}
use Rattle.rel_grammar.proofs.Shown.{shown-Phrase}
use Rattle.session_words.proofs.Phrases.{has_argument, has_no_object, with_number}
use Rattle.session_words.proofs.replace.Phrase.numbered.Goals as goal

pub returns-then-is_some : goal.returns-then-is_some
returns-then-is_some c =
    let old = c.args.self in
    c.into_tree.ensures
    ∙ has_argument old.place old.words old.argument (shown_held old.filter) c.args.words.now (pos c.args.number) old.object (sym c.is_some.ensures ∙ c.if-is_some.true)

pub returns-then-is_none : goal.returns-then-is_none
returns-then-is_none c =
    let old = c.args.self in
    c.into_tree-then-is_none.ensures
    ∙ has_no_object old.place old.words (shown_held old.argument) (shown_held old.filter) c.args.words.now (pos c.args.number) old.object
    (c.is_none.ensures ∙ ap not c.if-is_none.true)

pub returns : goal.returns
returns c =
    let old = c.args.self in
    shown-Phrase old.place c.in_ok-from_str.field-0 (Some c.in_ok-argument.argument) old.filter old.object
    ∙ (λ i. phrase old.place (c.in_ok-from_str.ensures i) (a_tree (c.in_ok-argument.ensures i)) (shown_held old.filter) (shown_held old.object))
    ∙ with_number old.place old.words old.argument (shown_held old.filter) c.args.words.now (pos c.args.number) old.object
    (sym c.is_some.ensures ∙ c.if-is_some.false) (c.is_none.ensures ∙ ap not c.if-is_none.false)
