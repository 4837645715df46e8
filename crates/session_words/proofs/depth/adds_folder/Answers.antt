use Rattle.std.proofs.Common.{◌∙◌, ap, option_map, sym}
use Rattle.rel_grammar.specs.Holding.{shown_held}
use Rattle.session_words.specs.Depths.{adds_folder}
use Rattle.session_words.specs.Inside.{shown_rewriting}
use Rattle.session_words.specs.Replaced.{rewriting_of}
use Rattle.session_words.proofs.Phrases.{folder_if, no_folder_of_none, no_folder_over}
use Rattle.session_words.proofs.depth.adds_folder.Goals as goal

pub returns-then-is_some : goal.returns-then-is_some
returns-then-is_some c = no_folder_over c.args.object.now (rewriting_of c.args.words.now) (sym c.is_some.ensures ∙ c.if-is_some.true)

pub returns-in-Some : goal.returns-in-Some
returns-in-Some c =
    let becomes = ap rewriting_of (sym c.as_str.ensures) ∙ sym c.rewriting_of.ensures ∙ ap (option_map shown_rewriting) c.in-Some.is in
    c.is_in_folder.ensures ∙ folder_if c.args.object.now (shown_rewriting c.in-Some.rewriting) (sym c.is_some.ensures ∙ c.if-is_some.false)
    ∙ ap (adds_folder (shown_held c.args.object.now)) (sym becomes)

pub returns-in-None : goal.returns-in-None
returns-in-None c =
    let becomes = ap rewriting_of (sym c.as_str.ensures) ∙ sym c.rewriting_of.ensures ∙ ap (option_map shown_rewriting) c.in-None.is in
    no_folder_of_none c.args.object.now ∙ ap (adds_folder (shown_held c.args.object.now)) (sym becomes)
