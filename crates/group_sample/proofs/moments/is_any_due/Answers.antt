use Rattle.std.proofs.Common.{rules}
use Rattle.std.proofs.lemmas.Iterator.{YieldsList-from_slice}
use Rattle.std.proofs.lemmas.Iterator.Search.{any_from_yields_List}
use borrow.Author.Tests.{tests}
use Rattle.group_text.specs.declared.property.Property.{Property}
use Rattle.group_sample.specs.Due.{is_due}
use Rattle.group_sample.proofs.moments.is_any_due.Goals as goal

pub returns : goal.returns
returns c =
    any_from_yields_List (λ (p : Property). is_due c.args.moments.now c.args.scene.now.moment p) _ _ c.any.result c.any.ensures.ran (YieldsList-from_slice c.args.properties.now (cc)) (λ x b q k. search (rules, tests))
