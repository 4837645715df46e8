use Rattle.std.proofs.Common.{◌≡◌, ◌==◌, ◌||◌, false, List, length, rules, sym, ap, ◌∙◌}
use Rattle.std.specs.List.{list_any}
use Rattle.std.proofs.lemmas.Bool.Decides.{nat_tests}
use Rattle.std.proofs.lemmas.Iterator.{YieldsList-from_slice}
use Rattle.std.proofs.lemmas.Iterator.Search.{any_from_yields_List}
use borrow.Author.Tests.{tests}
use Rattle.group_text.specs.declared.test.Test.{Test}
use Rattle.group_core.specs.Keeping.{is_turned}
use Rattle.group_core.proofs.fitting.can_change.Goals as goal

pub returns-else-is_empty : goal.returns-else-is_empty
returns-else-is_empty c =
    let items : List Test = c.as_slice-tests.result.now in
    let some : (length items == 0) ≡ false = search (rules, nat_tests, c.is_empty.ensures, c.if-is_empty.false) in
    any_from_yields_List (λ (t : Test). is_turned c.args.rows.now c.args.newer.now t) _ _ c.any.result c.any.ensures.ran (YieldsList-from_slice c.as_slice-tests.result.now (cc)) (λ x b q k. search (rules, tests))
    ∙ sym (ap (λ b. b || list_any (λ (t : Test). is_turned c.args.rows.now c.args.newer.now t) items) some)
    ∙ ap (λ (l : List Test). (length l == 0) || list_any (λ (t : Test). is_turned c.args.rows.now c.args.newer.now t) l) c.as_slice-tests.ensures
