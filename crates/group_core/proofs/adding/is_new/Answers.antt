use Rattle.std.proofs.Common.{not, rules, ap}
use Rattle.std.proofs.lemmas.Iterator.{YieldsList-from_slice}
use Rattle.std.proofs.lemmas.Iterator.Search.{any_from_yields_List}
use borrow.Author.Tests.{tests}
use Rattle.group_core.proofs.AddLemmas.{is_named}
use Rattle.group_core.proofs.adding.is_new.Goals as goal

pub returns : goal.returns
returns c =
    ap not (any_from_yields_List (is_named c.args.property.now.name) _ _ c.any.result c.any.ensures.ran (YieldsList-from_slice c.args.kept.now (cc)) (λ x b q k. search (rules, tests)))
