use Rattle.std.proofs.Common.{◌∙◌, Some, sym}
use Rattle.rel_grammar.specs.Holding.{shown_held}
use Rattle.rel_grammar.specs.Trees.{phrase, a_tree}
use Rattle.rel_grammar.proofs.Shown.{shown-Phrase}
use Rattle.session_words.proofs.Phrases.{has_object, of_folder}
use Rattle.session_words.proofs.replace.Phrase.in_folder.Goals as goal

pub returns-then-is_some : goal.returns-then-is_some
returns-then-is_some c =
    let old = c.args.self in
    c.into_tree.ensures
    ∙ has_object old.place old.words (shown_held old.argument) (shown_held old.filter) c.args.words.now c.args.path.now old.object
    (sym c.is_some.ensures ∙ c.if-is_some.true)

pub returns : goal.returns
returns c =
    let old = c.args.self in
    shown-Phrase old.place c.in_ok-from_str.field-0 old.argument old.filter (Some c.in_ok-folder.folder)
    ∙ (λ i. phrase old.place (c.in_ok-from_str.ensures i) (shown_held old.argument) (shown_held old.filter) (a_tree (c.in_ok-folder.ensures i)))
    ∙ of_folder old.place old.words (shown_held old.argument) (shown_held old.filter) c.args.words.now c.args.path.now old.object
    (sym c.is_some.ensures ∙ c.if-is_some.false)
