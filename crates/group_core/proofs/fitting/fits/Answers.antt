use Rattle.std.proofs.Common.{List, rules, sym, ap, ◌∙◌}
use Rattle.std.specs.List.{list_all, list_any}
use Rattle.std.proofs.lemmas.Bool.{cond-false, cond-true}
use Rattle.std.proofs.lemmas.Iterator.{YieldsList-from_slice}
use Rattle.std.proofs.lemmas.Iterator.Search.{all_from_yields_List, any_from_yields_List}
use borrow.Author.Tests.{tests}
use Rattle.group_text.specs.declared.test.Test.{Test}
use Rattle.group_text.specs.Tests.{property_of}
use Rattle.group_core.specs.Lists.{one_of, row_name}
use Rattle.group_core.specs.Members.{passes}
use Rattle.group_core.proofs.fitting.fits.Goals as goal

pub returns-then-group : goal.returns-then-group
returns-then-group c =
    let items : List Test = c.args.group.now.tests in
    any_from_yields_List (λ (t : Test). passes t (one_of row_name (property_of t) c.args.rows.now)) _ _ c.any.result c.any.ensures.ran (YieldsList-from_slice c.as_slice-tests.result.now (cc)) (λ x b q k. search (rules, tests))
    ∙ ap (list_any (λ (t : Test). passes t (one_of row_name (property_of t) c.args.rows.now))) c.as_slice-tests.ensures
    ∙ sym (cond-true c.args.group.now.any (list_any (λ (t : Test). passes t (one_of row_name (property_of t) c.args.rows.now)) items) (list_all (λ (t : Test). passes t (one_of row_name (property_of t) c.args.rows.now)) items) c.if-group.true)

pub returns : goal.returns
returns c =
    let items : List Test = c.args.group.now.tests in
    all_from_yields_List (λ (t : Test). passes t (one_of row_name (property_of t) c.args.rows.now)) _ _ c.all.result c.all.ensures.ran (YieldsList-from_slice c.as_slice-tests.result.now (cc)) (λ x b q k. search (rules, tests))
    ∙ ap (list_all (λ (t : Test). passes t (one_of row_name (property_of t) c.args.rows.now))) c.as_slice-tests.ensures
    ∙ sym (cond-false c.args.group.now.any (list_any (λ (t : Test). passes t (one_of row_name (property_of t) c.args.rows.now)) items) (list_all (λ (t : Test). passes t (one_of row_name (property_of t) c.args.rows.now)) items) c.if-group.false)
