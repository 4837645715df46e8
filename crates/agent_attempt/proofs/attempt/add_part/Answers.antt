use Rattle.std.proofs.Common.{◌≡◌, ◌+◌, ◌++◌, length, append-nil, Some, sym, ap, ◌∙◌, arith}
use Rattle.agent_attempt.proofs.Components.{one_part, none_part}
use Rattle.agent_attempt.proofs.attempt.add_part.Goals as goal

pub returns-in_ok-push_back-in-Some : goal.returns-in_ok-push_back-in-Some
returns-in_ok-push_back-in-Some c =
    let items = c.args.parts.now.items in
    let place : c.in_ok-component-in-Some.component ≡ length items + 1 = omega (arith, c.in_ok-component-in-Some.ensures, c.len.ensures, c.args.parts.now.ok.0) in
    c.in_ok-push_back-in-Some.ensures.items ∙ ap (λ l. items ++ l) (one_part c.args.site.now.blocks c.args.id c.in_ok-component-in-Some.component c.in_ok-fixlet-in-Some.fixlet (length items + 1) (c.in-Some.ensures ∙ ap Some (sym c.in_ok-fixlet-in-Some.ensures)) place)

pub returns-in-None : goal.returns-in-None
returns-in-None c =
    let items = c.args.parts.now.items in
    sym (append-nil items) ∙ ap (λ l. items ++ l) (none_part c.args.site.now.blocks c.args.id (length items + 1) c.in-None.ensures)
