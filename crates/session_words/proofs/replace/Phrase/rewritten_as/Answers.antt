use Rattle.std.proofs.Common.{◌≡◌, IfOk, Some, subst, sym}
use Rattle.rel_grammar.specs.Views.{shown}
use Rattle.session_words.specs.declared.rewriting.Rewriting.{Rewriting}
use Rattle.session_words.specs.Inside.{rewritten_phrase, shown_rewriting}
use Rattle.session_words.proofs.replace.Phrase.rewritten_as.Goals as goal

pub returns-in-InFolder : goal.returns-in-InFolder
returns-in-InFolder c =
    subst (λ (r : Rewriting). IfOk c.in_folder.result (λ new. shown new ≡ rewritten_phrase c.args.self (Some (shown_rewriting r))))
    (sym c.in-InFolder.is) c.in_folder.ensures

pub returns-in-OverObject : goal.returns-in-OverObject
returns-in-OverObject c =
    subst (λ (r : Rewriting). IfOk c.over_object.result (λ new. shown new ≡ rewritten_phrase c.args.self (Some (shown_rewriting r))))
    (sym c.in-OverObject.is) c.over_object.ensures

pub returns-in-Numbered : goal.returns-in-Numbered
returns-in-Numbered c =
    subst (λ (r : Rewriting). IfOk c.numbered.result (λ new. shown new ≡ rewritten_phrase c.args.self (Some (shown_rewriting r))))
    (sym c.in-Numbered.is) c.numbered.ensures
