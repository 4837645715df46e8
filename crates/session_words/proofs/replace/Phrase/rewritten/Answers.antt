use Rattle.std.proofs.Common.{◌≡◌, ◌∙◌, Option, IfOk, ap, option_map, subst, sym}
use Rattle.rel_grammar.specs.Holding.{shown_held}
use Rattle.rel_grammar.specs.Views.{shown}
use Rattle.session_words.specs.Inside.{rewritten_phrase, shown_rewriting}
use Rattle.session_words.specs.Replaced.{Rewriting, rewriting_of}
use Rattle.session_words.proofs.Phrases.{as_it_is}
use Rattle.session_words.proofs.replace.Phrase.rewritten.Goals as goal

pub returns-in-Some : goal.returns-in-Some
returns-in-Some c =
    let becomes = ap rewriting_of (sym c.as_str.ensures) ∙ sym c.rewriting_of.ensures ∙ ap (option_map shown_rewriting) c.in-Some.is in
    subst (λ (o : Option Rewriting). IfOk c.rewritten_as.result (λ new. shown new ≡ rewritten_phrase c.args.self o)) (sym becomes) c.rewritten_as.ensures

pub returns-in-None : goal.returns-in-None
returns-in-None c =
    let phrase = c.args.self in
    let becomes = ap rewriting_of (sym c.as_str.ensures) ∙ sym c.rewriting_of.ensures ∙ ap (option_map shown_rewriting) c.in-None.is in
    c.into_tree.ensures ∙ as_it_is phrase.place phrase.words (shown_held phrase.argument) (shown_held phrase.filter) phrase.object
    ∙ ap (rewritten_phrase phrase) (sym becomes)
