use Rattle.std.proofs.Common.{◌≡◌, List, find, Some, option_copied, ap, sym, ◌∙◌}
use Rattle.std.proofs.lemmas.Bool.{true≢false}
use Rattle.group_text.specs.declared.property.Property.{Property}
use Rattle.group_core.proofs.AddLemmas.{is_named, not_false, not_if, not_taken, not_taken_by, taken_by}
use Rattle.group_core.proofs.adding.is_taken.Goals as goal

pub returns-in-Some : goal.returns-in-Some
returns-in-Some c =
    let kept : List Property = c.args.kept.now in
    let p : Property = c.args.property.now in
    let other : Property = c.in-Some.other.now in
    let found : find (is_named p.name) kept ≡ Some other = sym c.named.ensures ∙ ap option_copied c.in-Some.is in (
      (λ is. taken_by kept p other found (λ e. true≢false (sym (c.is.ensures.1 e) ∙ not_false c.is.result is))),
      (λ taken. not_if c.is.result (λ e. not_taken_by kept p other c.requires.distinct found (c.is.ensures.0 e) taken)),
    )

pub returns-in-None : goal.returns-in-None
returns-in-None c = ((λ is. absurd (true≢false (sym is))), (λ taken. absurd (not_taken c.args.kept.now c.args.property.now (sym c.named.ensures ∙ ap option_copied c.in-None.is) taken)))
